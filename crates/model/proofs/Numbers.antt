-- The numbers that tests and conditions can give, and that a verdict that comes back is known by its number and values.
-- Assumes nothing.
use mathlib.Core.Path.{◌≡◌, ap, subst}
use mathlib.Core.Bool.{Bool, true, false, cond, not, ◌&&◌, ◌||◌}
use mathlib.Core.List.{List, [], ◌∷◌, ◌++◌}
use Prim.Native.Nat.{ℕ, ◌+◌}
use native.Mathlib.Omega.{arith}
use lib.Dec.{T, leb, ltb, eqb, leb→le, eqb_refl, eqb→eq}
use lib.ListN.{length, get_or}
use Rattle.walk.specs.Fold.{sum, first, any}
use Rattle.walk.proofs.Bools.{both, and_left, and_right, by_not, not_by}
use Rattle.model.specs.declared.answers.Verdict.{Verdict}
use Rattle.model.specs.declared.answers.Verdict.TheVariants.{Accepted, Refused, Violated}
use Rattle.model.specs.declared.kinds.Kind.{Kind}
use Rattle.model.specs.Limits.{most_states, most_weight_scale, most_claim_scale, most_cost, none}
use Rattle.model.specs.Kinds.{is_cost, is_some, kind_of, is_kind}
use Rattle.model.specs.Tables.{Model, Claim, states, actions, branches, target, first_branch, destination, weight, scale, cost, claim, rank}
use Rattle.model.specs.Answers.{number, value, action, is_condition, proper, pass, require, throughout}
use Rattle.model.specs.Refusals.{between, limit_of, rank_right, start_right, kind_test, weight_scale_test, claim_scale_test, states_test, length_test}
use Rattle.model.specs.Refusals.{lengths_of, model_lengths, claim_lengths, starts_test, marks_test, branch_test, total_test, action_test, walk_test}
use Rattle.model.specs.Refusals.{row_tests, costs_test, claims_test, ranks_test, size_tests, ranges_of, range_tests, tests}
use Rattle.model.specs.Conditions.{suits, falls, every_action, some_action, lowest_action, ask, ask_actions, target_asks, condition21, condition22}
use Rattle.model.specs.Conditions.{rank_asks, condition23, asks_fall, condition24, judged}
use Rattle.model.specs.Checked.{greatest_rank, conditions, verdict_of, answer_of}
use Rattle.model.proofs.Tried.{EachOf, each_of_append, each_of_map}
use Rattle.model.proofs.Found.{then_keeps, tried_keeps, each_keeps}

-- a test of the tables accepts, or refuses with a number from 1 to 14
unfoldable pub refuses : Verdict → Bool
refuses (Accepted r) = true
refuses (Refused k p) = leb 1 k && leb k 14
refuses (Violated k s a) = false

-- a condition accepts, or is violated with such a number at such a state
unfoldable pub violates : (ℕ → Bool) → (ℕ → Bool) → Verdict → Bool
violates number state (Accepted r) = true
violates number state (Refused k p) = false
violates number state (Violated k s a) = number k && state s

require_refuses : (b : Bool) (k p : ℕ) → T (leb 1 k && leb k 14) → T (refuses (require b k p))
unfolding require refuses
require_refuses true k p h = tt
require_refuses false k p h = h

throughout_refuses : (right : ℕ → Bool) (n k : ℕ) → T (leb 1 k && leb k 14) → T (refuses (throughout right n k))
unfolding throughout
throughout_refuses right n k h = require_refuses (not (any (λ i. not (right i)) 0 n)) k (first (λ i. not (right i)) 0 n) h

length_refuses : (table : ℕ) (right : Bool) → T (refuses (length_test table right))
unfolding length_test
length_refuses table right = require_refuses right 5 table tt

pub kind_refuses : (kind : ℕ) → T (refuses (kind_test kind))
unfolding kind_test
kind_refuses kind = require_refuses (is_kind kind) 1 0 tt

module _ (t : Model) where
  branch_refuses : (a j : ℕ) → T (refuses (branch_test t a j))
  unfolding branch_test refuses
  branch_refuses a j =
      let d = ltb (destination t j) (states t) in
      let w = between 1 (scale t a) (weight t j) in
      tried_keeps (λ v. T (refuses v)) (require d 9 j ∷ require w 10 j ∷ []) pass (require_refuses d 9 j tt, (require_refuses w 10 j tt, tt)) tt

  total_refuses : (a : ℕ) → T (refuses (total_test t a))
  unfolding total_test
  total_refuses a = require_refuses (eqb (sum (weight t) (first_branch t a) (first_branch t (a + 1))) (scale t a)) 11 a tt

  action_refuses : (a : ℕ) → T (refuses (action_test t a))
  unfolding action_test branch_test total_test
  action_refuses a =
      each_keeps (λ v. T (refuses v)) (branch_test t a) (first_branch t (a + 1)) (total_test t a) (branch_refuses a) (total_refuses a) (first_branch t a)

  rows_refuse : EachOf (λ v. T (refuses v)) (row_tests t)
  unfolding row_tests starts_test marks_test walk_test refuses
  rows_refuse = (
    throughout_refuses (start_right t.action_starts (actions t)) (length t.action_starts) 6 tt,
    (
      throughout_refuses (start_right t.branch_starts (branches t)) (length t.branch_starts) 7 tt,
      (
        throughout_refuses (λ s. leb (get_or t.marks s 0) 1) (states t) 8 tt,
        (each_keeps (λ v. T (refuses v)) (action_test t) (actions t) pass action_refuses tt 0, tt),
      ),
    ),
  )

module _ (k : Kind) (t : Model) (u : Claim) (chosen : ℕ) where
  scales_refuse : T (refuses (weight_scale_test t.d)) × T (refuses (claim_scale_test k u.c)) × T (refuses (states_test (states t)))
  unfolding weight_scale_test claim_scale_test states_test
  scales_refuse = (
    require_refuses (between 1 most_weight_scale t.d) 2 0 tt,
    require_refuses (cond (is_cost k.measure) (eqb u.c 1) (between 1 most_claim_scale u.c)) 3 0 tt,
    require_refuses (between 1 most_states (states t)) 4 0 tt,
  )

  lengths_refuse : EachOf (λ v. T (refuses v)) (model_lengths (lengths_of t u chosen) ++ claim_lengths k (lengths_of t u chosen))
  unfolding model_lengths claim_lengths
  lengths_refuse = (
    length_refuses 2 _,
    (
      length_refuses 3 _,
      (length_refuses 4 _, (length_refuses 5 _, (length_refuses 6 _, (length_refuses 7 _, (length_refuses 8 _, (length_refuses 9 _, tt)))))),
    ),
  )

  ranges_refuse : EachOf (λ v. T (refuses v)) (range_tests k t u)
  unfolding range_tests ranges_of costs_test claims_test ranks_test
  ranges_refuse = (
    throughout_refuses (λ s. leb (cost u s) most_cost) (length u.costs) 12 tt,
    (
      throughout_refuses (λ s. leb (claim u s) (limit_of k u.c)) (length u.claims) 13 tt,
      (throughout_refuses (λ s. rank_right (states t) (rank u s)) (length u.ranks) 14 tt, tt),
    ),
  )

  pub tests_refuse : EachOf (λ v. T (refuses v)) (tests k t u chosen)
  unfolding tests size_tests
  tests_refuse =
      let s = scales_refuse in
      each_of_append (λ v. T (refuses v)) (size_tests k t u chosen) (row_tests t ++ range_tests k t u) (s.0, (s.1, (s.2, lengths_refuse)))
      (each_of_append (λ v. T (refuses v)) (row_tests t) (range_tests k t u) (rows_refuse t) ranges_refuse)

-- the conditions

module _ (x s : ℕ) where
  abbrev pub Only : Verdict → Type 0
  Only v = T (violates (eqb x) (eqb s) v)

  ask_only : (b : Bool) (a : ℕ) → Only (ask b x s a)
  unfolding ask violates
  ask_only true a = tt
  ask_only false a = both (eqb x x) (eqb s s) (eqb_refl x) (eqb_refl s)

  pass_only : Only pass
  unfolding violates
  pass_only = tt

  cond_only : (b : Bool) (v w : Verdict) → Only v → Only w → Only (cond b v w)
  cond_only true v w p q = p
  cond_only false v w p q = q

  ask_actions_only : (k : Kind) (t : Model) (every some : ℕ → Bool) → Only (ask_actions k t x s every some)
  unfolding ask_actions
  ask_actions_only k t every some =
      cond_only (is_some k.who) (ask (some_action t s some) x s none) (ask (every_action t s every) x s (lowest_action t s (λ a. not (every a))))
      (ask_only (some_action t s some) none) (ask_only (every_action t s every) (lowest_action t s (λ a. not (every a))))

module _ (k : Kind) (t : Model) (u : Claim) (s : ℕ) where
  pub only21 : Only 21 s (condition21 k t u s)
  unfolding condition21
  only21 = ask_only 21 s (not (target t s) || target_asks k u.c (cost u s) (claim u s)) none

  pub only22 : Only 22 s (condition22 k t u s)
  unfolding condition22
  only22 =
      cond_only 22 s (target t s) pass (ask_actions k t 22 s (suits k t u s) (suits k t u s))
      (pass_only 22 s) (ask_actions_only 22 s k t (suits k t u s) (suits k t u s))

  pub only23 : Only 23 s (condition23 k u s)
  unfolding condition23
  only23 = ask_only 23 s (rank_asks k (claim u s) (rank u s)) none

  pub only24 : Only 24 s (condition24 k t u s)
  unfolding condition24
  only24 =
      cond_only 24 s (asks_fall k t u s) (ask_actions k t 24 s (falls t u s) (λ a. suits k t u s a && falls t u s a)) pass
      (ask_actions_only 24 s k t (falls t u s) (λ a. suits k t u s a && falls t u s a)) (pass_only 24 s)

-- what it gives is known to the last number and state
pub only_number : (x s : ℕ) (v : Verdict) (y z a : ℕ) → Only x s v → v ≡ Violated y z a → (x ≡ y) × (s ≡ z)
unfolding violates
only_number x s v y z a h e =
    let q : T (eqb x y && eqb s z) = rw e at h in
    (eqb→eq x y (and_left (eqb x y) (eqb s z) q), eqb→eq s z (and_right (eqb x y) (eqb s z) q))

weaker : (n m n' m' : ℕ → Bool) → ((x : ℕ) → T (n x) → T (n' x)) → ((s : ℕ) → T (m s) → T (m' s)) → (v : Verdict) → T (violates n m v) → T (violates n' m' v)
unfolding violates
weaker n m n' m' f g (Accepted r) h = tt
weaker n m n' m' f g (Refused k p) h = h
weaker n m n' m' f g (Violated k s a) h = both (n' k) (m' s) (f k (and_left (n k) (m s) h)) (g s (and_right (n k) (m s) h))

-- the conditions of a state are violated at that state, with a number from 21 to 24
module _ (k : Kind) (t : Model) (u : Claim) where
  pub judged_violates : (s : ℕ) → T (violates is_condition (eqb s) (judged k t u s))
  unfolding judged violates
  judged_violates s =
      tried_keeps (λ v. T (violates is_condition (eqb s) v)) (condition21 k t u s ∷ condition22 k t u s ∷ condition23 k u s ∷ condition24 k t u s ∷ []) pass (
        one 21 tt (condition21 k t u s) (only21 k t u s),
        (
          one 22 tt (condition22 k t u s) (only22 k t u s),
          (one 23 tt (condition23 k u s) (only23 k t u s), (one 24 tt (condition24 k t u s) (only24 k t u s), tt)),
        ),
      )
      tt
    where
      one : (x : ℕ) → T (is_condition x) → (v : Verdict) → Only x s v → T (violates is_condition (eqb s) v)
      one x c = weaker (eqb x) (eqb s) is_condition (eqb s) (λ y e. subst (λ z. T (is_condition z)) (eqb→eq x y e) c) (λ z h. h)

  pub conditions_violate : T (violates is_condition (λ s. true) (conditions k t u))
  unfolding conditions violates
  conditions_violate = each_keeps (λ v. T (violates is_condition (λ s. true) v)) (judged k t u) (states t) (Accepted (greatest_rank u.ranks))
      (λ s. weaker is_condition (eqb s) is_condition (λ z. true) (λ x h. h) (λ z h. tt) (judged k t u s) (judged_violates s)) tt 0

-- a verdict that comes back is proper

refused_proper : (v : Verdict) → T (refuses v) → T (proper v)
unfolding refuses
refused_proper (Accepted r) h = tt
refused_proper (Refused k p) h =
    both (leb 1 k) (not (is_condition k)) (and_left (leb 1 k) (leb k 14) h)
    (not_by (is_condition k) (λ c. omega (arith, leb→le k 14 (and_right (leb 1 k) (leb k 14) h), leb→le 21 k (and_left (leb 21 k) (leb k 24) c))))
refused_proper (Violated k s a) h = absurd h

violated_proper : (v : Verdict) → T (violates is_condition (λ s. true) v) → T (proper v)
unfolding violates
violated_proper (Accepted r) h = tt
violated_proper (Refused k p) h = absurd h
violated_proper (Violated k s a) h = and_left (is_condition k) true h

pub answer_proper : (kind : ℕ) (t : Model) (u : Claim) (choices : List ℕ) → T (proper (answer_of kind t u choices).verdict)
unfolding answer_of verdict_of
answer_proper kind t u choices =
    then_keeps (λ v. T (proper v)) (kind_test kind) (verdict_of (kind_of kind) t u choices) (refused_proper (kind_test kind) (kind_refuses kind))
    (tried_keeps (λ v. T (proper v)) (tests (kind_of kind) t u (length choices)) (conditions (kind_of kind) t u)
    (each_of_map (λ v. T (refuses v)) (λ v. T (proper v)) refused_proper (tests (kind_of kind) t u (length choices))
    (tests_refuse (kind_of kind) t u (length choices)))
    (violated_proper (conditions (kind_of kind) t u) (conditions_violate (kind_of kind) t u)))

-- document 01's number and values tell two proper verdicts apart
pub told_apart : (v w : Verdict) → T (proper v) → T (proper w) → number v ≡ number w → value v ≡ value w → action v ≡ action w → v ≡ w
told_apart (Accepted r) (Accepted q) p h a b c = ap Accepted b
told_apart (Accepted r) (Refused l q) p h a b c = absurd (omega (arith, leb→le 1 l (and_left (leb 1 l) (not (is_condition l)) h)))
told_apart (Accepted r) (Violated l s e) p h a b c = absurd (omega (arith, leb→le 21 l (and_left (leb 21 l) (leb l 24) h)))
told_apart (Refused k q) (Accepted r) p h a b c = absurd (omega (arith, leb→le 1 k (and_left (leb 1 k) (not (is_condition k)) p)))
told_apart (Refused k q) (Refused l r) p h a b c = cc
told_apart (Refused k q) (Violated l s e) p h a b c = absurd (by_not (is_condition k) (and_right (leb 1 k) (not (is_condition k)) p) (rw a h))
told_apart (Violated k s e) (Accepted r) p h a b c = absurd (omega (arith, leb→le 21 k (and_left (leb 21 k) (leb k 24) p)))
told_apart (Violated k s e) (Refused l q) p h a b c = absurd (by_not (is_condition l) (and_right (leb 1 l) (not (is_condition l)) h) (rw (← a) p))
told_apart (Violated k s e) (Violated l r f) p h a b c = cc
