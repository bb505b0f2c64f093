-- The condition that a state breaks first, and the action named with it, once over the kind. Assumes nothing.
use mathlib.Core.Path.{◌≡◌, refl, subst}
use mathlib.Core.Bool.{Bool, true, false, cond, not, ◌&&◌, ◌||◌}
use mathlib.Core.List.{List, [], ◌∷◌}
use mathlib.Core.Logic.{⊎_elim}
use Prim.Native.Nat.{ℕ, zero, suc, ◌+◌, ◌-◌, ◌≤◌, ◌<◌}
use native.Mathlib.Omega.{arith}
use lib.Dec.{T, leb, leb→le, le→leb}
use lib.ListN.{get_or}
use borrow.Author.Tests.{not-false}
use Rattle.walk.specs.Fold.{all}
use Rattle.walk.proofs.Bools.{holds, both, and_left, and_right, by_not}
use Rattle.model.specs.declared.answers.Verdict.{Verdict}
use Rattle.model.specs.declared.answers.Verdict.TheVariants.{Violated}
use Rattle.model.specs.declared.kinds.Kind.{Kind}
use Rattle.model.specs.declared.kinds.Who.{Who}
use Rattle.model.specs.declared.kinds.Who.TheVariants.{Every, Some}
use Rattle.model.specs.Limits.{none}
use Rattle.model.specs.Tables.{Model, Claim, target, cost, claim, rank}
use Rattle.model.specs.Answers.{pass, is_condition}
use Rattle.model.specs.Checked.{accepts}
use Rattle.model.specs.Conditions.{suits, falls, every_action, some_action, lowest_action, ask, ask_actions, target_asks, condition21, condition22}
use Rattle.model.specs.Conditions.{rank_asks, condition23, asks_fall, condition24, judged}
use Rattle.model.specs.Meets.{Suits, Falls}
use Rattle.model.proofs.Found.{First, tried_first, first_tried}
use Rattle.model.proofs.Numbers.{Only, only_number, only21, only22, only23, only24}
use Rattle.model.proofs.Kept.{asked_of, suited, of_suited, fallen, of_fallen}
use Rattle.model.proofs.Chosen.{LowestOf, lowest-action}

-- the conditions of a state in order, and the one with a number from 21 to 24
abbrev pub conditions_of : Kind → Model → Claim → ℕ → List Verdict
conditions_of k t u s = condition21 k t u s ∷ condition22 k t u s ∷ condition23 k u s ∷ condition24 k t u s ∷ []

abbrev pub condition_of : ℕ → Kind → Model → Claim → ℕ → Verdict
condition_of x k t u s = get_or (conditions_of k t u s) (x - 21) pass

-- x is the first of 21, 22, 23, 24 that state s breaks: those before it pass, and x itself is violated
pub record Breaks (k : Kind) (t : Model) (u : Claim) (x s a : ℕ) : Type 0 where
  pub number : T (is_condition x)
  pub passed : (y : ℕ) → 21 ≤ y → y < x → T (accepts (condition_of y k t u s))
  pub broken : condition_of x k t u s ≡ Violated x s a

module _ (k : Kind) (t : Model) (u : Claim) (s : ℕ) where
  -- each condition gives its own number
  only_at : (i : ℕ) → i < 4 → Only (21 + i) s (get_or (conditions_of k t u s) i pass)
  only_at zero l = only21 k t u s
  only_at (suc zero) l = only22 k t u s
  only_at (suc (suc zero)) l = only23 k t u s
  only_at (suc (suc (suc zero))) l = only24 k t u s
  only_at (suc (suc (suc (suc i)))) l = absurd (omega arith)

  pub breaks : (x a : ℕ) → judged k t u s ≡ Violated x s a → Breaks k t u x s a
  unfolding judged
  breaks x a e = ⊎_elim at (λ q. absurd (subst (λ v. T (accepts v)) q.1 tt)) (tried_first (conditions_of k t u s) pass (Violated x s a) refl e)
    where
      at : First (conditions_of k t u s) (Violated x s a) → Breaks k t u x s a
      at f =
          let here = get_or (conditions_of k t u s) f.place pass in
          let n : 21 + f.place ≡ x = (only_number (21 + f.place) s here x s a (only_at f.place f.within) f.said).0 in
          let p : x - 21 ≡ f.place = omega arith in
          record {
            number = both (leb 21 x) (leb x 24) (le→leb 21 x (omega arith)) (le→leb x 24 (omega (arith, f.within)));
            passed = λ y l m. f.before (y - 21) (omega arith);
            broken = rw p f.said;
          }

  pub of_breaks : (x a : ℕ) → Breaks k t u x s a → judged k t u s ≡ Violated x s a
  unfolding judged
  of_breaks x a b =
      let low : 21 ≤ x = leb→le 21 x (and_left (leb 21 x) (leb x 24) b.number) in
      let high : x ≤ 24 = leb→le x 24 (and_right (leb 21 x) (leb x 24) b.number) in
      first_tried (conditions_of k t u s) pass (Violated x s a) refl
      (record {
        place = x - 21;
        within = omega arith;
        said = b.broken;
        before = λ j l. let q : 21 + j - 21 ≡ j = omega arith in rw q at (b.passed (21 + j) (omega arith) (omega arith));
      })

-- the action named: "every", the lowest owned one that breaks the condition; "some", none
abbrev pub Naming : Who → Model → ℕ → ℕ → (ℕ → Type 0) → Type 0
Naming Every t s a Keeps = LowestOf t s a (λ b. Keeps b → ⊥) Keeps
Naming Some t s a Keeps = a ≡ none

-- what is asked and violated was not met, and names its action
asked : (b : Bool) (x s a y z c : ℕ) → ask b x s a ≡ Violated y z c → (b ≡ false) × (c ≡ a)
unfolding ask
asked true x s a y z c e = absurd (subst (λ v. T (accepts v)) e tt)
asked false x s a y z c e = (refl, (cc))

named_actions : (k : Kind) (t : Model) (x s : ℕ) (every some : ℕ → Bool) (Keeps : ℕ → Type 0)
    → ((b : ℕ) → T (every b) → Keeps b) → ((b : ℕ) → Keeps b → T (every b)) → (y z a : ℕ)
    → ask_actions k t x s every some ≡ Violated y z a → Naming k.who t s a Keeps
unfolding ask_actions all
named_actions k t x s every some Keeps f g y z a = by k.who
  where
    by : (w : Who) → asked_of w t x s every some ≡ Violated y z a → Naming w t s a Keeps
    by Every e =
        let q = asked (every_action t s every) x s (lowest_action t s (λ b. not (every b))) y z a e in
        let w = lowest-action t s (λ b. not (every b)) (holds (not-false (some_action t s (λ b. not (every b))) q.0)) in
        rw q.1
        (record {
          owned = w.owned;
          is = λ h. by_not (every (lowest_action t s (λ b. not (every b)))) w.is (g _ h);
          lower = λ b o l. f b (holds (not-false (every b) (w.lower b o l)));
        })
    by Some e = (asked (some_action t s some) x s none y z a e).1

-- a verdict that is violated is not the pass of a condition that is not asked

asked_else : (b : Bool) (v : Verdict) (y z a : ℕ) → cond b pass v ≡ Violated y z a → v ≡ Violated y z a
asked_else true v y z a e = absurd (subst (λ w. T (accepts w)) e tt)
asked_else false v y z a e = e

asked_where : (b : Bool) (v : Verdict) (y z a : ℕ) → cond b v pass ≡ Violated y z a → v ≡ Violated y z a
asked_where true v y z a e = e
asked_where false v y z a e = absurd (subst (λ w. T (accepts w)) e tt)

-- 22 and 24 name an action where the claim is for "every" strategy, and none else; 21 and 23 name none
module _ (k : Kind) (t : Model) (u : Claim) (s y z a : ℕ) where
  pub named21 : condition21 k t u s ≡ Violated y z a → a ≡ none
  unfolding condition21
  named21 e = (asked (not (target t s) || target_asks k u.c (cost u s) (claim u s)) 21 s none y z a e).1

  pub named22 : condition22 k t u s ≡ Violated y z a → Naming k.who t s a (Suits k t u s)
  unfolding condition22
  named22 e = named_actions k t 22 s (suits k t u s) (suits k t u s) (Suits k t u s) (suited k t u s) (of_suited k t u s) y z a
      (asked_else (target t s) (ask_actions k t 22 s (suits k t u s) (suits k t u s)) y z a e)

  pub named23 : condition23 k u s ≡ Violated y z a → a ≡ none
  unfolding condition23
  named23 e = (asked (rank_asks k (claim u s) (rank u s)) 23 s none y z a e).1

  pub named24 : condition24 k t u s ≡ Violated y z a → Naming k.who t s a (Falls t u s)
  unfolding condition24
  named24 e = named_actions k t 24 s (falls t u s) (λ b. suits k t u s b && falls t u s b) (Falls t u s) (fallen t u s) (of_fallen t u s) y z a
      (asked_where (asks_fall k t u s) (ask_actions k t 24 s (falls t u s) (λ b. suits k t u s b && falls t u s b)) y z a e)
