-- One state by its numbers: what its conditions say, by the lowest actions that the code looks for. Assumes nothing.
use mathlib.Core.Path.{◌≡◌, refl, sym, ap, subst, fun_ext, ◌∙◌}
use mathlib.Core.Bool.{Bool, true, false, beq, cond, not, ◌&&◌, ◌||◌}
use Prim.Native.Nat.{ℕ, ◌≤◌, ◌<◌}
use lib.Dec.{T, ltb, eqb}
use Rattle.std.specs.Prelude.{Option, Some, None, Ok, Err}
use Rattle.std.specs.Option as option
use Rattle.walk.specs.Fold.{any, all, first}
use Rattle.walk.proofs.Bools.{holds, is_true, and_left, and_right}
use Rattle.walk.proofs.Fold.{first_same}
use Rattle.walk.proofs.Quantified.{any_at, at_any, all_at, at_all}
use Rattle.model.specs.declared.kinds.Kind.{Kind}
use Rattle.model.specs.Limits.{none}
use Rattle.model.specs.Kinds.{is_at_least, is_some}
use Rattle.model.specs.Tables.{is_rank}
use Rattle.model.specs.declared.answers.Verdict.{Verdict}
use Rattle.model.specs.declared.answers.Verdict.TheVariants.{Violated}
use Rattle.model.specs.declared.answers.Violation.{Violation}
use Rattle.model.specs.Answers.{pass, then, tried}
use Rattle.model.specs.Answers as answers
use Rattle.model.specs.Conditions.{ask, ask_over, target_asks, rank_asks, fall_asked}
use Rattle.actions.specs.declared.State.{State}
use Rattle.actions.specs.Judging.{Rows, kept, suits_in, falls_in, lowest_of, below}
use Rattle.conditions.specs.Judging.{Judges, verdict23, target_verdict, open_verdict, open_choice}

pub beq_true : (b : Bool) → beq b true ≡ b
beq_true true = refl
beq_true false = refl

beq_false : (b : Bool) → beq b false ≡ not b
beq_false true = refl
beq_false false = refl

alike : (b w : Bool) → beq b w ≡ true → b ≡ w
alike true true h = refl
alike true false h = (cc)
alike false true h = (cc)
alike false false h = refl

unlike : (b w : Bool) → beq b w ≡ false → b ≡ not w
unlike true true h = (cc)
unlike true false h = refl
unlike false true h = refl
unlike false false h = (cc)

pub unasked : (b f : Bool) → kept false b f ≡ b
unasked true f = refl
unasked false f = refl

-- what holds of at least one action ("some") or of all ("every"), and the lowest that says so
abbrev among : Bool → ℕ → ℕ → (ℕ → Bool) → Bool
among w lo hi p = cond w (any p lo hi) (all p lo hi)

abbrev stop : Bool → ℕ → ℕ → (ℕ → Bool) → ℕ
stop w lo hi p = first (λ a. beq (p a) w) lo hi

stop_among : (w : Bool) (lo hi : ℕ) (p : ℕ → Bool) → beq (ltb (stop w lo hi p) hi) w ≡ among w lo hi p
unfolding any all
stop_among true lo hi p =
    beq_true (ltb (stop true lo hi p) hi) ∙ ap (λ (q : ℕ → Bool). ltb (first q lo hi) hi) (fun_ext (λ a. beq_true (p a)))
stop_among false lo hi p =
    beq_false (ltb (stop false lo hi p) hi) ∙ ap (λ (q : ℕ → Bool). not (ltb (first q lo hi) hi)) (fun_ext (λ a. beq_false (p a)))

among_more : (w : Bool) (lo hi : ℕ) (p q : ℕ → Bool) → ((a : ℕ) → T (p a) → T (q a)) → T (among w lo hi p) → T (among w lo hi q)
among_more true lo hi p q f h = let x = any_at p lo hi h in at_any q lo hi x.0 x.1 x.2 (f x.0 x.3)
among_more false lo hi p q f h = at_all q lo hi (λ a l m. f a (all_at p lo hi h a l m))

-- 22 and 24 by the lowest action that says so
ask_stop : (w : Bool) (number s lo hi : ℕ) (p : ℕ → Bool)
    → cond w (ask (any p lo hi) number s none) (ask (all p lo hi) number s (first (λ a. not (p a)) lo hi))
    ≡ ask (among w lo hi p) number s (cond (not w) (stop w lo hi p) none)
ask_stop true number s lo hi p = refl
ask_stop false number s lo hi p =
    ap (λ (q : ℕ → Bool). ask (all p lo hi) number s (first q lo hi)) (fun_ext (λ a. sym (beq_false (p a))))

-- where all suit, those that keep are those that fall
ask_falls : (w : Bool) (number s lo hi : ℕ) (suits falls : ℕ → Bool) → T (among w lo hi suits)
    → cond w (ask (any (λ a. suits a && falls a) lo hi) number s none)
    (ask (all falls lo hi) number s (first (λ a. not (falls a)) lo hi))
    ≡ ask (among w lo hi (λ a. kept true (suits a) (falls a))) number s (cond (not w) (stop w lo hi (λ a. kept true (suits a) (falls a))) none)
unfolding any all
ask_falls true number s lo hi suits falls h = refl
ask_falls false number s lo hi suits falls h =
    rw (first_same (λ a. not (falls a)) (λ a. not (kept true (suits a) (falls a))) hi lo same)
    (ask_stop false number s lo hi (λ a. kept true (suits a) (falls a)))
  where
    same : (a : ℕ) → lo ≤ a → a < hi → not (falls a) ≡ not (kept true (suits a) (falls a))
    same a l m = rw (is_true (suits a) (all_at suits lo hi h a l m))

-- 23 passes or is violated, and where 24 is asked it passes
word : (b : Bool) (number s : ℕ) → then (ask b number s none) pass ≡ ask b number s none
unfolding ask then
word true number s = refl
word false number s = refl

ranked_right : (k : Kind) (claim rank : ℕ) → fall_asked k rank ≡ true → rank_asks k claim rank ≡ true
unfolding rank_asks fall_asked
ranked_right k claim rank e = by (not (is_at_least k.bound)) (eqb claim 0) (is_rank rank) (and_right (is_at_least k.bound) (is_rank rank) (holds e))
  where
    by : (a b c : Bool) → T c → (a || (b || c)) ≡ true
    by true b c h = refl
    by false true c h = refl
    by false false true h = refl
    by false false false h = absurd h

-- 24 is asked of "at least" kinds alone
pub fall_least : (k : Kind) (rank : ℕ) → fall_asked k rank ≡ true → is_at_least k.bound ≡ true
unfolding fall_asked
fall_least k rank e = is_true (is_at_least k.bound) (and_left (is_at_least k.bound) (is_rank rank) (holds e))

-- where nothing breaks there is a choice, and where a condition breaks there is none
pub judged_ok : {v : Verdict} {a x : ℕ} → pass ≡ v → x ≡ a → Judges v a (Ok x)
judged_ok e f = record { verdict = e; choice = λ y q. (cc) }

pub judged_err : {v : Verdict} {a : ℕ} (z : Violation) → answers.broken z ≡ v → Judges v a (Err z)
judged_err z e = record { verdict = e; choice = λ y q. (cc) }

-- a target, by the test of 21
module _ (k : Kind) (c : ℕ) (x : State) {met : Bool} (a : met ≡ target_asks k c x.cost x.claim) where
  pub target_met : pass ≡ ask met 21 x.place none → target_verdict k c x ≡ verdict23 k x
  unfolding target_verdict tried then verdict23
  target_met e = rw (← a, ← e) (word (rank_asks k x.claim x.rank) 23 x.place)

  pub target_broken : (z : Violation) → answers.broken z ≡ ask met 21 x.place none → answers.broken z ≡ target_verdict k c x
  unfolding target_verdict tried then
  target_broken z e = rw (← a, ← e)

-- an action that is sought is found where it is below the end
is_below : (a end : ℕ) → option.is_some (below a end) ≡ ltb a end
is_below a end = by (ltb a end)
  where
    by : (b : Bool) → option.is_some (cond b (Some a) None) ≡ b
    by true = refl
    by false = refl

taken_below : (a end d : ℕ) → option.unwrap_or (below a end) d ≡ cond (ltb a end) a d
taken_below a end d = by (ltb a end)
  where
    by : (b : Bool) → option.unwrap_or (cond b (Some a) None) d ≡ cond b a d
    by true = refl
    by false = refl

-- a non-target, by the two searches
module _ (k : Kind) (x : State) (y : Rows) (some : Bool) (who : some ≡ is_some k.who) where
  abbrev does : Bool → ℕ → Bool
  does asked a = kept asked (suits_in k x y a) (falls_in x y a)

  -- at least one action ("some"), or all ("every")
  abbrev of : (ℕ → Bool) → Bool
  of p = among some x.first x.end p

  abbrev name : (ℕ → Bool) → ℕ
  name p = cond (not some) (stop some x.first x.end p) none

  suit_alone : does false ≡ suits_in k x y
  suit_alone = fun_ext (λ a. unasked (suits_in k x y a) (falls_in x y a))

  asks22 : ask_over k 22 x.place x.first x.end (suits_in k x y) (suits_in k x y) ≡ ask (of (does false)) 22 x.place (name (does false))
  asks22 =
      rw (← who)
      (ask_stop some 22 x.place x.first x.end (suits_in k x y)
      ∙ ap (λ (p : ℕ → Bool). ask (of p) 22 x.place (name p)) (sym suit_alone))

  asks24 : T (of (does false)) → ask_over k 24 x.place x.first x.end (falls_in x y) (λ a. suits_in k x y a && falls_in x y a)
      ≡ ask (of (does true)) 24 x.place (name (does true))
  asks24 h =
      rw (← who)
      (ask_falls some 24 x.place x.first x.end (suits_in k x y) (falls_in x y) (subst (λ (p : ℕ → Bool). T (of p)) suit_alone h))

  first_is : open_verdict k x y
      ≡ then (ask (of (does false)) 22 x.place (name (does false)))
      (then (verdict23 k x)
      (then (cond (fall_asked k x.rank)
      (ask_over k 24 x.place x.first x.end (falls_in x y) (λ a. suits_in k x y a && falls_in x y a)) pass) pass))
  unfolding open_verdict tried
  first_is = rw asks22

  word23 : then (verdict23 k x) pass ≡ verdict23 k x
  unfolding verdict23
  word23 = word (rank_asks k x.claim x.rank) 23 x.place

  suits_too : (asked : Bool) → T (of (does asked)) → T (of (does false))
  suits_too asked h =
      among_more some x.first x.end (does asked) (does false)
      (λ a q. rw (unasked (suits_in k x y a) (falls_in x y a)) (and_left (suits_in k x y a) (not asked || falls_in x y a) q)) h

  passed24 : (asked : Bool) → asked ≡ fall_asked k x.rank → T (of (does asked))
      → cond (fall_asked k x.rank) (ask_over k 24 x.place x.first x.end (falls_in x y) (λ a. suits_in k x y a && falls_in x y a)) pass ≡ pass
  unfolding ask
  passed24 true f h = rw (← f) (asks24 (suits_too true h) ∙ rw (is_true (of (does true)) h))
  passed24 false f h = rw (← f)

  -- the code's search: whether it finds an action, and whether that says that what is asked is met
  module _ (asked : Bool) {r : Option ℕ} (e : r ≡ below (lowest_of k some asked x y) x.end) {s : Bool} (g : s ≡ option.is_some r) where
    hit : s ≡ ltb (lowest_of k some asked x y) x.end
    hit = rw (g, e) (is_below (lowest_of k some asked x y) x.end)

    taken : option.unwrap_or r none ≡ cond s (lowest_of k some asked x y) none
    taken = rw (hit, e) (taken_below (lowest_of k some asked x y) x.end none)

    sought : beq s some ≡ of (does asked)
    unfolding lowest_of
    sought = rw hit (stop_among some x.first x.end (does asked))

    stops_at : beq s some ≡ false → option.unwrap_or r none ≡ name (does asked)
    unfolding lowest_of
    stops_at m = taken ∙ rw (unlike s some m)

    module _ (f : asked ≡ fall_asked k x.rank) (m : beq s some ≡ true) where
      pub open_met : open_verdict k x y ≡ verdict23 k x
      unfolding ask then
      open_met =
          let h : T (of (does asked)) = holds (sym sought ∙ m) in
          first_is ∙ rw (is_true (of (does false)) (suits_too asked h), passed24 asked f h) word23

      pub open_picked : option.unwrap_or r none ≡ open_choice k x y
      unfolding open_choice
      open_picked = taken ∙ rw (alike s some m, f, ← who) (by some)
        where
          by : (w : Bool) → cond w (lowest_of k w (fall_asked k x.rank) x y) none ≡ cond w (lowest_of k true (fall_asked k x.rank) x y) none
          by true = refl
          by false = refl

  module _ {r : Option ℕ} (e : r ≡ below (lowest_of k some false x y) x.end) {s : Bool} (g : s ≡ option.is_some r) where
    pub open_unsuited : beq s some ≡ false → Violated 22 x.place (option.unwrap_or r none) ≡ open_verdict k x y
    unfolding ask then
    open_unsuited m = sym (first_is ∙ rw (sym (sought false e g) ∙ m, ← stops_at false e g m))

    pub open_unfallen : beq s some ≡ true → (asked : Bool) → asked ≡ fall_asked k x.rank
        → {q : Option ℕ} → q ≡ below (lowest_of k some asked x y) x.end → {n : Bool} → n ≡ option.is_some q → beq n some ≡ false
        → Violated 24 x.place (option.unwrap_or q none) ≡ open_verdict k x y
    unfolding ask then verdict23
    open_unfallen m true f d h n =
        let t = sym (sought false e g) ∙ m in
        sym (first_is ∙ rw (t, ranked_right k x.claim x.rank (sym f), ← f, asks24 (holds t), sym (sought true d h) ∙ n, ← stops_at true d h n))
    open_unfallen m false f d h n = absurd (subst T (sym m ∙ sought false e g ∙ sym (sought false d h) ∙ n) tt)
