-- Conditions 21 to 24 as computed tests and as propositions say the same, once over the kind. Assumes nothing.
use mathlib.Core.Path.{◌≡◌, refl, sym, subst}
use mathlib.Core.Bool.{Bool, true, false, cond, not, ◌&&◌, ◌||◌}
use mathlib.Core.List.{[], ◌∷◌}
use Prim.Native.Nat.{ℕ, zero, suc, ◌+◌, ◌*◌, ◌≤◌, ◌<◌}
use native.Mathlib.Omega.{arith}
use lib.Dec.{T, leb, ltb, eqb, leb→le, le→leb, ltb→lt, lt→ltb, eqb→eq}
use borrow.Author.Tests.{eq-eqb, ne_eqb, not-true}
use Rattle.walk.proofs.Bools.{holds, is_true, both, and_left, and_right, by_not, not_by}
use Rattle.walk.proofs.Quantified.{any_at, at_any, all_at, at_all}
use Rattle.model.specs.declared.answers.Verdict.{Verdict}
use Rattle.model.specs.declared.kinds.Kind.{Kind}
use Rattle.model.specs.declared.kinds.Measure.{Measure}
use Rattle.model.specs.declared.kinds.Measure.TheVariants.{Arrival, Cost}
use Rattle.model.specs.declared.kinds.Bound.{Bound}
use Rattle.model.specs.declared.kinds.Bound.TheVariants.{AtMost, AtLeast}
use Rattle.model.specs.declared.kinds.Who.{Who}
use Rattle.model.specs.declared.kinds.Who.TheVariants.{Every, Some}
use Rattle.model.specs.Limits.{none}
use Rattle.model.specs.Kinds.{is_cost, is_at_least, is_some}
use Rattle.model.specs.Tables.{Model, Claim, target, first_action, first_branch, destination, scale, cost, claim, rank, ranked}
use Rattle.model.specs.Answers.{pass}
use Rattle.model.specs.Checked.{accepts}
use Rattle.model.specs.Conditions.{expected, suits, falls, every_action, some_action, lowest_action, ask, ask_actions, target_asks, condition21}
use Rattle.model.specs.Conditions.{condition22, condition23, rank_asks, fall_asked, asks_fall, condition24, judged}
use Rattle.model.specs.Meets.{SuitsBy, Suits, Falls, ForActions, Meets}
use Rattle.model.proofs.Tried.{tried_passed, tried_all}

-- a number that is not none, as tested and as said

pub not_none : (r : ℕ) → T (not (eqb r none)) → r ≡ none → ⊥
not_none r h e = by_not (eqb r none) h (holds (eq-eqb r none e))

pub none_not : (r : ℕ) → (r ≡ none → ⊥) → T (not (eqb r none))
none_not r h = not_by (eqb r none) (λ e. h (eqb→eq r none e))

-- what is asked unless the test holds, and where it holds

pub unless_true : (b c : Bool) → b ≡ true → T (not b || c) → T c
unless_true true c e h = h
unless_true false c e h = absurd (subst T (sym e) tt)

pub true_unless : (b c : Bool) → (b ≡ true → T c) → T (not b || c)
true_unless true c h = h refl
true_unless false c h = tt

pub cond_else : (b : Bool) (x : Verdict) → b ≡ false → T (accepts (cond b pass x)) → T (accepts x)
cond_else true x e h = absurd (subst T e tt)
cond_else false x e h = h

pub else_cond : (b : Bool) (x : Verdict) → (b ≡ false → T (accepts x)) → T (accepts (cond b pass x))
else_cond true x h = tt
else_cond false x h = h refl

pub cond_where : (b : Bool) (x : Verdict) → T b → T (accepts (cond b x pass)) → T (accepts x)
cond_where true x e h = h
cond_where false x e h = absurd e

pub where_cond : (b : Bool) (x : Verdict) → (T b → T (accepts x)) → T (accepts (cond b x pass))
where_cond true x h = h tt
where_cond false x h = tt

pub unless_zero : (n : ℕ) (c : Bool) → 0 < n → T (eqb n 0 || c) → T c
unless_zero n c p h = rw (ne_eqb n 0 (λ e. omega arith)) at h

pub zero_unless : (n : ℕ) (c : Bool) → (0 < n → T c) → T (eqb n 0 || c)
zero_unless zero c h = tt
zero_unless (suc n) c h = rw (ne_eqb (suc n) 0 (λ e. omega arith)) (h (omega arith))

-- what is asked

pub ask_right : (b : Bool) (x s a : ℕ) → T (accepts (ask b x s a)) → T b
unfolding ask
ask_right true x s a h = tt
ask_right false x s a h = h

pub right_ask : (b : Bool) (x s a : ℕ) → T b → T (accepts (ask b x s a))
unfolding ask
right_ask true x s a h = tt
right_ask false x s a h = h

module _ (k : Kind) (t : Model) (u : Claim) (s a : ℕ) where
  -- the test of one bound
  abbrev suits_by : Bound → Bool
  suits_by b = cond (is_at_least b) (leb (scale t a * claim u s) (expected k t u s a)) (leb (expected k t u s a) (scale t a * claim u s))

  pub suited : T (suits k t u s a) → Suits k t u s a
  unfolding suits
  suited = by k.bound
    where
      by : (b : Bound) → T (suits_by b) → SuitsBy b k t u s a
      by AtMost h = leb→le (expected k t u s a) (scale t a * claim u s) h
      by AtLeast h = leb→le (scale t a * claim u s) (expected k t u s a) h

  pub of_suited : Suits k t u s a → T (suits k t u s a)
  unfolding suits
  of_suited = by k.bound
    where
      by : (b : Bound) → SuitsBy b k t u s a → T (suits_by b)
      by AtMost h = le→leb (expected k t u s a) (scale t a * claim u s) h
      by AtLeast h = le→leb (scale t a * claim u s) (expected k t u s a) h

module _ (t : Model) (u : Claim) (s a : ℕ) where
  -- branch j falls
  falls_at : ℕ → Bool
  falls_at j = ranked u (destination t j) && ltb (rank u (destination t j)) (rank u s)

  pub fallen : T (falls t u s a) → Falls t u s a
  unfolding falls falls_at
  fallen h =
      let f = any_at falls_at (first_branch t a) (first_branch t (a + 1)) h in
      let d = destination t f.0 in (
        f.0,
        (f.1, f.2),
        not_none (rank u d) (and_left (ranked u d) (ltb (rank u d) (rank u s)) f.3),
        ltb→lt (rank u d) (rank u s) (and_right (ranked u d) (ltb (rank u d) (rank u s)) f.3),
      )

  pub of_fallen : Falls t u s a → T (falls t u s a)
  unfolding falls falls_at
  of_fallen f =
      let d = destination t f.0 in
      at_any falls_at (first_branch t a) (first_branch t (a + 1)) f.0 f.1.0 f.1.1
      (both (ranked u d) (ltb (rank u d) (rank u s)) (none_not (rank u d) f.2) (lt→ltb (rank u d) (rank u s) f.3))

-- what is asked of the actions of a state: of all, or of at least one
abbrev pub asked_of : Who → Model → ℕ → ℕ → (ℕ → Bool) → (ℕ → Bool) → Verdict
asked_of w t x s every some =
    cond (is_some w) (ask (some_action t s some) x s none) (ask (every_action t s every) x s (lowest_action t s (λ a. not (every a))))

module _ (k : Kind) (t : Model) (x s : ℕ) (every some : ℕ → Bool) (E S : ℕ → Type 0) where
  pub for_actions : ((a : ℕ) → T (every a) → E a) → ((a : ℕ) → T (some a) → S a) → T (accepts (ask_actions k t x s every some)) → ForActions k.who t s E S
  unfolding ask_actions
  for_actions e f = by k.who
    where
      by : (w : Who) → T (accepts (asked_of w t x s every some)) → ForActions w t s E S
      by Every h = λ a o.
          let p = ask_right (every_action t s every) x s (lowest_action t s (λ a. not (every a))) h in
          e a (all_at every (first_action t s) (first_action t (s + 1)) p a o.0 o.1)
      by Some h =
          let p = any_at some (first_action t s) (first_action t (s + 1)) (ask_right (some_action t s some) x s none h) in
          (p.0, (p.1, p.2), f p.0 p.3)

  pub of_actions : ((a : ℕ) → E a → T (every a)) → ((a : ℕ) → S a → T (some a)) → ForActions k.who t s E S → T (accepts (ask_actions k t x s every some))
  unfolding ask_actions
  of_actions e f = by k.who
    where
      by : (w : Who) → ForActions w t s E S → T (accepts (asked_of w t x s every some))
      by Every h =
          right_ask (every_action t s every) x s (lowest_action t s (λ a. not (every a)))
          (at_all every (first_action t s) (first_action t (s + 1)) (λ a l m. e a (h a (l, m))))
      by Some h =
          right_ask (some_action t s some) x s none
          (at_any some (first_action t s) (first_action t (s + 1)) h.0 h.1.0 h.1.1 (f h.0 h.2))

-- what a target's claim is asked to be, by measure and bound
module _ (m : Measure) (b : Bound) (c x r : ℕ) where
  abbrev asked : Bool
  asked = cond (is_cost m) (cond (is_at_least b) (leb r x) (leb x r)) (cond (is_at_least b) true (eqb r c))

  asked_arrival : T asked → m ≡ Arrival → b ≡ AtMost → r ≡ c
  asked_arrival h e f = eqb→eq r c (rw (e, f) at h)

  asked_most : T asked → m ≡ Cost → b ≡ AtMost → x ≤ r
  asked_most h e f = leb→le x r (rw (e, f) at h)

  asked_least : T asked → m ≡ Cost → b ≡ AtLeast → r ≤ x
  asked_least h e f = leb→le r x (rw (e, f) at h)

of_asked : (m : Measure) (b : Bound) (c x r : ℕ)
    → (m ≡ Arrival → b ≡ AtMost → r ≡ c) → (m ≡ Cost → b ≡ AtMost → x ≤ r) → (m ≡ Cost → b ≡ AtLeast → r ≤ x) → T (asked m b c x r)
of_asked Arrival AtMost c x r f g h = holds (eq-eqb r c (f refl refl))
of_asked Arrival AtLeast c x r f g h = tt
of_asked Cost AtMost c x r f g h = le→leb x r (g refl refl)
of_asked Cost AtLeast c x r f g h = le→leb r x (h refl refl)

pub at_least : (b : Bound) → T (is_at_least b) → b ≡ AtLeast
at_least AtMost h = absurd h
at_least AtLeast h = refl

module _ (k : Kind) (t : Model) (u : Claim) (s : ℕ) where
  -- 24 is asked where the bound is "at least" and the state is no target and has a rank
  pub asks : k.bound ≡ AtLeast → target t s ≡ false → (rank u s ≡ none → ⊥) → T (asks_fall k t u s)
  unfolding asks_fall fall_asked
  asks b e r = rw (b, e) (none_not (rank u s) r)

  pub of_asks : T (asks_fall k t u s) → (k.bound ≡ AtLeast) × (target t s ≡ false) × (rank u s ≡ none → ⊥)
  unfolding asks_fall fall_asked
  of_asks h =
      let q = and_right (not (target t s)) (fall_asked k (rank u s)) h in (
        at_least k.bound (and_left (is_at_least k.bound) (ranked u s) q),
        not-true (target t s) (is_true (not (target t s)) (and_left (not (target t s)) (fall_asked k (rank u s)) h)),
        not_none (rank u s) (and_right (is_at_least k.bound) (ranked u s) q),
      )

  pub met : T (accepts (judged k t u s)) → Meets k t u s
  unfolding judged condition21 condition22 condition23 condition24 target_asks rank_asks
  met h =
      let c = tried_all (condition21 k t u s ∷ condition22 k t u s ∷ condition23 k u s ∷ condition24 k t u s ∷ []) pass h in
      let claimed : target t s ≡ true → T (target_asks k u.c (cost u s) (claim u s)) =
      λ e. unless_true (target t s) (target_asks k u.c (cost u s) (claim u s)) e
      (ask_right (not (target t s) || target_asks k u.c (cost u s) (claim u s)) 21 s none c.0) in
      record {
        met21_arrival = λ e. asked_arrival k.measure k.bound u.c (cost u s) (claim u s) (claimed e);
        met21_cost_most = λ e. asked_most k.measure k.bound u.c (cost u s) (claim u s) (claimed e);
        met21_cost_least = λ e. asked_least k.measure k.bound u.c (cost u s) (claim u s) (claimed e);
        met22 = λ e. for_actions k t 22 s (suits k t u s) (suits k t u s) (Suits k t u s) (Suits k t u s) (suited k t u s) (suited k t u s)
            (cond_else (target t s) (ask_actions k t 22 s (suits k t u s) (suits k t u s)) e c.1.0);
        met23 = λ b p. not_none (rank u s)
            (unless_zero (claim u s) (ranked u s) p
            (unless_true (is_at_least k.bound) (eqb (claim u s) 0 || ranked u s) (rw b refl)
            (ask_right (rank_asks k (claim u s) (rank u s)) 23 s none c.1.1.0)));
        met24 = λ b e r. for_actions k t 24 s (falls t u s) (λ a. suits k t u s a && falls t u s a) (Falls t u s) (λ a. Suits k t u s a × Falls t u s a)
            (fallen t u s)
            (λ a q. (suited k t u s a (and_left (suits k t u s a) (falls t u s a) q), fallen t u s a (and_right (suits k t u s a) (falls t u s a) q)))
            (cond_where (asks_fall k t u s) (ask_actions k t 24 s (falls t u s) (λ a. suits k t u s a && falls t u s a)) (asks b e r) c.1.1.1.0);
      }

  pub of_met : Meets k t u s → judged k t u s ≡ pass
  unfolding judged condition21 condition22 condition23 condition24 target_asks rank_asks
  of_met w =
      tried_passed (condition21 k t u s ∷ condition22 k t u s ∷ condition23 k u s ∷ condition24 k t u s ∷ []) pass (
        right_ask (not (target t s) || target_asks k u.c (cost u s) (claim u s)) 21 s none
            (true_unless (target t s) (target_asks k u.c (cost u s) (claim u s))
            (λ e. of_asked k.measure k.bound u.c (cost u s) (claim u s)
            (w.met21_arrival e) (w.met21_cost_most e) (w.met21_cost_least e))),
        (
          else_cond (target t s) (ask_actions k t 22 s (suits k t u s) (suits k t u s))
              (λ e. of_actions k t 22 s (suits k t u s) (suits k t u s) (Suits k t u s) (Suits k t u s) (of_suited k t u s) (of_suited k t u s) (w.met22 e)),
          (
            right_ask (rank_asks k (claim u s) (rank u s)) 23 s none
                (true_unless (is_at_least k.bound) (eqb (claim u s) 0 || ranked u s)
                (λ b. zero_unless (claim u s) (ranked u s) (λ p. none_not (rank u s) (w.met23 (at_least k.bound (holds b)) p)))),
            (
              where_cond (asks_fall k t u s) (ask_actions k t 24 s (falls t u s) (λ a. suits k t u s a && falls t u s a))
                  (λ q. of_actions k t 24 s (falls t u s) (λ a. suits k t u s a && falls t u s a) (Falls t u s) (λ a. Suits k t u s a × Falls t u s a)
                  (of_fallen t u s)
                  (λ a r. both (suits k t u s a) (falls t u s a) (of_suited k t u s a r.0) (of_fallen t u s a r.1))
                  (let a = of_asks q in w.met24 a.0 a.1 a.2)),
              tt,
            ),
          ),
        ),
      )
