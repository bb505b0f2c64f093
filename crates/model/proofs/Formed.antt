-- No refusal from 2 to 14 stands exactly where the tables are well formed. Assumes nothing.
use mathlib.Core.Path.{◌≡◌, refl, sym, subst}
use mathlib.Core.Bool.{Bool, true, false, cond, not, ◌||◌}
use mathlib.Core.List.{List, [], ◌∷◌, ◌++◌}
use mathlib.Core.Logic.{◌⊎◌, inl, inr}
use Prim.Native.Nat.{ℕ, zero, suc, ◌+◌, ◌-◌, ◌≤◌, ◌<◌, zero-le}
use native.Mathlib.Numerals.{add-one}
use native.Mathlib.Omega.{arith}
use lib.Dec.{T, leb, ltb, eqb, leb→le, le→leb, ltb→lt, lt→ltb, eqb→eq}
use lib.ListN.{length, get_or}
use borrow.Author.Tests.{eq-eqb, ne_eqb}
use Rattle.walk.specs.Fold.{sum}
use Rattle.walk.proofs.Bools.{holds, both, and_left, and_right}
use Rattle.model.specs.declared.kinds.Kind.{Kind}
use Rattle.model.specs.Limits.{most_states, most_actions, most_branches, most_weight_scale, most_claim_scale, most_cost, none}
use Rattle.model.specs.Kinds.{is_cost}
use Rattle.model.specs.Tables.{Model, Claim, states, actions, branches, first_branch, destination, weight, scale, cost, claim, rank}
use Rattle.model.specs.Answers.{pass, require}
use Rattle.model.specs.Checked.{accepts}
use Rattle.model.specs.Refusals.{between, entries, limit_of, weight_scale_test, claim_scale_test, states_test, length_test, model_lengths, claim_lengths}
use Rattle.model.specs.Refusals.{start_right, starts_test, marks_test, branch_test, total_test, action_test, walk_test, row_tests, costs_test}
use Rattle.model.specs.Refusals.{claims_test, ranks_test, size_tests, ranges_of, range_tests, tests}
use Rattle.model.specs.WellFormed.{Sized, Starts, Row, Counted, InRange, WellFormed}
use Rattle.model.proofs.Tried.{AllPass, all_append, append_all, tried_passed, tried_all, require_right, passes_require, each_all, each_last}
use Rattle.model.proofs.Tried.{all_each, throughout_all, all_throughout}

eq→eqb : (a b : ℕ) → a ≡ b → T (eqb a b)
eq→eqb a b e = holds (eq-eqb a b e)

module _ (lo hi x : ℕ) where
  pub from_below : T (between lo hi x) → lo ≤ x
  from_below h = leb→le lo x (and_left (leb lo x) (leb x hi) h)

  pub from_above : T (between lo hi x) → x ≤ hi
  from_above h = leb→le x hi (and_right (leb lo x) (leb x hi) h)

  pub in_between : lo ≤ x → x ≤ hi → T (between lo hi x)
  in_between p q = both (leb lo x) (leb x hi) (le→leb lo x p) (le→leb x hi q)

-- a table has no more entries than there are states
pub entries_most : (has : Bool) (n : ℕ) → entries has n ≤ n
entries_most true n = omega arith
entries_most false n = omega arith

-- the scale of claims, by the measure
scale_of : (cost : Bool) (c : ℕ) → T (cond cost (eqb c 1) (between 1 most_claim_scale c)) → (1 ≤ c) × (c ≤ most_claim_scale) × (cost ≡ true → c ≡ 1)
scale_of true c h = let e : c ≡ 1 = eqb→eq c 1 h in (omega arith, omega arith, λ q. e)
scale_of false c h = (from_below 1 most_claim_scale c h, from_above 1 most_claim_scale c h, λ q. absurd (subst T (sym q) tt))

of_scale : (cost : Bool) (c : ℕ) → 1 ≤ c → c ≤ most_claim_scale → (cost ≡ true → c ≡ 1) → T (cond cost (eqb c 1) (between 1 most_claim_scale c))
of_scale true c p q r = eq→eqb c 1 (r refl)
of_scale false c p q r = in_between 1 most_claim_scale c p q

module _ (k : Kind) (t : Model) (u : Claim) (chosen : ℕ) where
  pub sized : AllPass (size_tests k t u chosen) → Sized k t u chosen
  unfolding size_tests model_lengths claim_lengths weight_scale_test claim_scale_test states_test length_test
  sized h =
      let d = require_right (between 1 most_weight_scale t.d) 2 0 h.0 in
      let c = scale_of (is_cost k.measure) u.c
      (require_right (cond (is_cost k.measure) (eqb u.c 1) (between 1 most_claim_scale u.c)) 3 0 h.1.0) in
      let n = require_right (between 1 most_states (states t)) 4 0 h.1.1.0 in
      let l = h.1.1.1 in
      let table3 = require_right (between 2 (most_actions + 1) (length t.branch_starts)) 5 3 l.1.0 in
      record {
        d_least = from_below 1 most_weight_scale t.d d;
        d_most = from_above 1 most_weight_scale t.d d;
        c_least = c.0;
        c_most = c.1;
        c_cost = c.2;
        n_least = from_below 1 most_states (states t) n;
        n_most = from_above 1 most_states (states t) n;
        table2 = eqb→eq (length t.action_starts) (states t + 1) (require_right (eqb (length t.action_starts) (states t + 1)) 5 2 l.0);
        table3_least = from_below 2 (most_actions + 1) (length t.branch_starts) table3;
        table3_most = from_above 2 (most_actions + 1) (length t.branch_starts) table3;
        table4 = leb→le (branches t) most_branches (require_right (leb (branches t) most_branches) 5 4 l.1.1.0);
        table5 = eqb→eq (length t.weights) (branches t) (require_right (eqb (length t.weights) (branches t)) 5 5 l.1.1.1.0);
        table6 = eqb→eq (length u.costs) (entries k.costs (states t))
            (require_right (eqb (length u.costs) (entries k.costs (states t))) 5 6 l.1.1.1.1.0);
        table7 = eqb→eq (length u.claims) (states t) (require_right (eqb (length u.claims) (states t)) 5 7 l.1.1.1.1.1.0);
        table8 = eqb→eq (length u.ranks) (entries k.ranks (states t))
            (require_right (eqb (length u.ranks) (entries k.ranks (states t))) 5 8 l.1.1.1.1.1.1.0);
        table9 = eqb→eq (chosen) (entries k.choices (states t))
            (require_right (eqb (chosen) (entries k.choices (states t))) 5 9 l.1.1.1.1.1.1.1.0);
      }

  pub of_sized : Sized k t u chosen → AllPass (size_tests k t u chosen)
  unfolding size_tests model_lengths claim_lengths weight_scale_test claim_scale_test states_test length_test
  of_sized w = (
    passes_require (between 1 most_weight_scale t.d) 2 0 (in_between 1 most_weight_scale t.d w.d_least w.d_most),
    (
      passes_require (cond (is_cost k.measure) (eqb u.c 1) (between 1 most_claim_scale u.c)) 3 0
          (of_scale (is_cost k.measure) u.c w.c_least w.c_most w.c_cost),
      (
        passes_require (between 1 most_states (states t)) 4 0 (in_between 1 most_states (states t) w.n_least w.n_most),
        (
          passes_require (eqb (length t.action_starts) (states t + 1)) 5 2 (eq→eqb (length t.action_starts) (states t + 1) w.table2),
          (
            passes_require (between 2 (most_actions + 1) (length t.branch_starts)) 5 3
                (in_between 2 (most_actions + 1) (length t.branch_starts) w.table3_least w.table3_most),
            (
              passes_require (leb (branches t) most_branches) 5 4 (le→leb (branches t) most_branches w.table4),
              (
                passes_require (eqb (length t.weights) (branches t)) 5 5 (eq→eqb (length t.weights) (branches t) w.table5),
                (
                  passes_require (eqb (length u.costs) (entries k.costs (states t))) 5 6
                      (eq→eqb (length u.costs) (entries k.costs (states t)) w.table6),
                  (
                    passes_require (eqb (length u.claims) (states t)) 5 7 (eq→eqb (length u.claims) (states t) w.table7),
                    (
                      passes_require (eqb (length u.ranks) (entries k.ranks (states t))) 5 8
                          (eq→eqb (length u.ranks) (entries k.ranks (states t)) w.table8),
                      (
                        passes_require (eqb (chosen) (entries k.choices (states t))) 5 9
                            (eq→eqb (chosen) (entries k.choices (states t)) w.table9),
                        tt,
                      ),
                    ),
                  ),
                ),
              ),
            ),
          ),
        ),
      ),
    ),
  )

-- a table of starts

either : (a b : Bool) → T (a || b) → (a ≡ false) → T b
either true b h e = absurd (subst T e tt)
either false b h e = h

or_right : (a b : Bool) → T b → T (a || b)
or_right true b h = tt
or_right false b h = h

or_left : (a b : Bool) → T a → T (a || b)
or_left true b h = tt
or_left false b h = absurd h

module _ (starts : List ℕ) (end : ℕ) where
  pub starts_right : (0 < length starts) → ((i : ℕ) → i < length starts → T (start_right starts end i)) → Starts starts end
  unfolding start_right
  starts_right long h =
      record {
        begins = eqb→eq (get_or starts 0 0) 0 (and_left (eqb (get_or starts 0 0) 0) (not (eqb 1 (length starts)) || eqb (get_or starts 0 0) end) (h 0 long));
        rises = λ i l. above i l (h (i + 1) l);
        ends = λ i e. let l : i < length starts = omega arith in ended i e (h i l);
      }
    where
      above : (i : ℕ) → i + 1 < length starts → T (start_right starts end (i + 1)) → get_or starts i 0 < get_or starts (i + 1) 0
      above i l q =
          let z : eqb (i + 1) 0 ≡ false = ne_eqb (i + 1) 0 (λ e. omega arith) in
          let s : i + 1 - 1 ≡ i = omega arith in
          let q' = and_left (cond (eqb (i + 1) 0) (eqb (get_or starts (i + 1) 0) 0) (ltb (get_or starts (i + 1 - 1) 0) (get_or starts (i + 1) 0)))
          (not (eqb (i + 1 + 1) (length starts)) || eqb (get_or starts (i + 1) 0) end) q in
          ltb→lt (get_or starts i 0) (get_or starts (i + 1) 0) (rw (z, s) at q')

      ended : (i : ℕ) → i + 1 ≡ length starts → T (start_right starts end i) → get_or starts i 0 ≡ end
      ended i e q =
          let r = and_right (cond (eqb i 0) (eqb (get_or starts i 0) 0) (ltb (get_or starts (i - 1) 0) (get_or starts i 0)))
          (not (eqb (i + 1) (length starts)) || eqb (get_or starts i 0) end) q in
          eqb→eq (get_or starts i 0) end (either (not (eqb (i + 1) (length starts))) (eqb (get_or starts i 0) end) r (rw (eq-eqb (i + 1) (length starts) e)))

  pub right_starts : Starts starts end → (i : ℕ) → i < length starts → T (start_right starts end i)
  unfolding start_right
  right_starts w i l =
      both (cond (eqb i 0) (eqb (get_or starts i 0) 0) (ltb (get_or starts (i - 1) 0) (get_or starts i 0)))
      (not (eqb (i + 1) (length starts)) || eqb (get_or starts i 0) end)
      (rising i l) (by (eqb (i + 1) (length starts)) refl)
    where
      rising : (i : ℕ) → i < length starts → T (cond (eqb i 0) (eqb (get_or starts i 0) 0) (ltb (get_or starts (i - 1) 0) (get_or starts i 0)))
      rising zero l = eq→eqb (get_or starts 0 0) 0 w.begins
      rising (suc i) l =
          let z : eqb (suc i) 0 ≡ false = ne_eqb (suc i) 0 (λ e. omega arith) in
          let s : suc i - 1 ≡ i = omega arith in
          rw (z, s, ← add-one i) (lt→ltb (get_or starts i 0) (get_or starts (i + 1) 0) (w.rises i (omega arith)))

      by : (b : Bool) → eqb (i + 1) (length starts) ≡ b → T (not (eqb (i + 1) (length starts)) || eqb (get_or starts i 0) end)
      by true e =
          or_right (not (eqb (i + 1) (length starts))) (eqb (get_or starts i 0) end)
          (eq→eqb (get_or starts i 0) end (w.ends i (eqb→eq (i + 1) (length starts) (holds e))))
      by false e = rw e tt

-- rows of one action

module _ (t : Model) (a : ℕ) where
  branch_right : (j : ℕ) → T (accepts (branch_test t a j)) → (destination t j < states t) × T (between 1 (scale t a) (weight t j))
  unfolding branch_test
  branch_right j h =
      let r = tried_all (require (ltb (destination t j) (states t)) 9 j ∷ require (between 1 (scale t a) (weight t j)) 10 j ∷ []) pass h in (
        ltb→lt (destination t j) (states t) (require_right (ltb (destination t j) (states t)) 9 j r.0),
        require_right (between 1 (scale t a) (weight t j)) 10 j r.1.0,
      )

  right_branch : (j : ℕ) → destination t j < states t → T (between 1 (scale t a) (weight t j)) → T (accepts (branch_test t a j))
  unfolding branch_test
  right_branch j p q =
      rw
      (tried_passed (require (ltb (destination t j) (states t)) 9 j ∷ require (between 1 (scale t a) (weight t j)) 10 j ∷ []) pass (
        passes_require (ltb (destination t j) (states t)) 9 j (lt→ltb (destination t j) (states t) p),
        (passes_require (between 1 (scale t a) (weight t j)) 10 j q, tt),
      ))
      tt

  pub row_right : T (accepts (action_test t a)) → Row t a
  unfolding action_test branch_test total_test
  row_right h =
      record {
        destinations = λ j p q. (branch j p q).0;
        weight_least = λ j p q. from_below 1 (scale t a) (weight t j) (branch j p q).1;
        weight_most = λ j p q. from_above 1 (scale t a) (weight t j) (branch j p q).1;
        total = eqb→eq (sum (weight t) (first_branch t a) (first_branch t (a + 1))) (scale t a)
            (require_right (eqb (sum (weight t) (first_branch t a) (first_branch t (a + 1))) (scale t a)) 11 a
            (each_last (branch_test t a) (first_branch t (a + 1)) (total_test t a) (first_branch t a) h));
      }
    where
      branch : (j : ℕ) → first_branch t a ≤ j → j < first_branch t (a + 1) → (destination t j < states t) × T (between 1 (scale t a) (weight t j))
      branch j p q = branch_right j (each_all (branch_test t a) (first_branch t (a + 1)) (total_test t a) (first_branch t a) h j p q)

  pub right_row : Row t a → T (accepts (action_test t a))
  unfolding action_test branch_test total_test
  right_row w =
      rw
      (all_each (branch_test t a) (first_branch t (a + 1)) (total_test t a) (first_branch t a)
      (λ j p q. right_branch j (w.destinations j p q) (in_between 1 (scale t a) (weight t j) (w.weight_least j p q) (w.weight_most j p q))))
      (passes_require (eqb (sum (weight t) (first_branch t a) (first_branch t (a + 1))) (scale t a)) 11 a
      (eq→eqb (sum (weight t) (first_branch t a) (first_branch t (a + 1))) (scale t a) w.total))

-- the rows, and the ranges

module _ (t : Model) where
  pub counted : 0 < length t.action_starts → 0 < length t.branch_starts → AllPass (row_tests t) → Counted t
  unfolding row_tests starts_test marks_test walk_test
  counted p q h =
      record {
        action-starts = starts_right t.action_starts
            (actions t) p (throughout_all (start_right t.action_starts (actions t)) (length t.action_starts) 6 h.0);
        branch-starts = starts_right t.branch_starts
            (branches t) q (throughout_all (start_right t.branch_starts (branches t)) (length t.branch_starts) 7 h.1.0);
        marks = λ s l. leb→le (get_or t.marks s 0) 1 (throughout_all (λ s. leb (get_or t.marks s 0) 1) (states t) 8 h.1.1.0 s l);
        rows = λ a l. row_right t a (each_all (action_test t) (actions t) pass 0 h.1.1.1.0 a zero-le l);
      }

  pub of_counted : Counted t → AllPass (row_tests t)
  unfolding row_tests starts_test marks_test walk_test
  of_counted w = (
    rw (all_throughout (start_right t.action_starts (actions t))
        (length t.action_starts) 6 (right_starts t.action_starts (actions t) w.action-starts)) tt,
    (
      rw (all_throughout (start_right t.branch_starts (branches t))
          (length t.branch_starts) 7 (right_starts t.branch_starts (branches t) w.branch-starts)) tt,
      (
        rw (all_throughout (λ s. leb (get_or t.marks s 0) 1) (states t) 8 (λ s l. le→leb (get_or t.marks s 0) 1 (w.marks s l))) tt,
        (
          rw (all_each (action_test t) (actions t) pass 0 (λ a p l. right_row t a (w.rows a l))) tt,
          tt,
        ),
      ),
    ),
  )

rank_cases : (r n : ℕ) → T (ltb r n || eqb r none) → (r < n) ⊎ (r ≡ none)
rank_cases r n h = by (ltb r n) refl
  where
    by : (b : Bool) → ltb r n ≡ b → (r < n) ⊎ (r ≡ none)
    by true e = inl (ltb→lt r n (holds e))
    by false e = inr (eqb→eq r none (either (ltb r n) (eqb r none) h e))

cases_rank : (r n : ℕ) → (r < n) ⊎ (r ≡ none) → T (ltb r n || eqb r none)
cases_rank r n (inl p) = or_left (ltb r n) (eqb r none) (lt→ltb r n p)
cases_rank r n (inr p) = or_right (ltb r n) (eqb r none) (eq→eqb r none p)

module _ (k : Kind) (t : Model) (u : Claim) where
  pub in_range : AllPass (range_tests k t u) → InRange k t u
  unfolding range_tests ranges_of costs_test claims_test ranks_test
  in_range h =
      record {
        costs = λ s l. leb→le (cost u s) most_cost (throughout_all (λ s. leb (cost u s) most_cost) (length u.costs) 12 h.0 s l);
        claims = λ s l. leb→le (claim u s) (limit_of k u.c) (throughout_all (λ s. leb (claim u s) (limit_of k u.c)) (length u.claims) 13 h.1.0 s l);
        ranks = λ s l. rank_cases (rank u s) (states t)
            (throughout_all (λ s. ltb (rank u s) (states t) || eqb (rank u s) none) (length u.ranks) 14 h.1.1.0 s l);
      }

  pub of_in_range : InRange k t u → AllPass (range_tests k t u)
  unfolding range_tests ranges_of costs_test claims_test ranks_test
  of_in_range w = (
    rw (all_throughout (λ s. leb (cost u s) most_cost) (length u.costs) 12 (λ s l. le→leb (cost u s) most_cost (w.costs s l))) tt,
    (
      rw (all_throughout (λ s. leb (claim u s) (limit_of k u.c)) (length u.claims) 13 (λ s l. le→leb (claim u s) (limit_of k u.c) (w.claims s l))) tt,
      (
        rw (all_throughout (λ s. ltb (rank u s) (states t) || eqb (rank u s) none)
            (length u.ranks) 14 (λ s l. cases_rank (rank u s) (states t) (w.ranks s l))) tt,
        tt,
      ),
    ),
  )

  pub formed : (chosen : ℕ) → AllPass (tests k t u chosen) → WellFormed k t u chosen
  unfolding tests
  formed chosen h =
      let a = all_append (size_tests k t u chosen) (row_tests t ++ range_tests k t u) h in
      let b = all_append (row_tests t) (range_tests k t u) a.1 in
      let s = sized k t u chosen a.0 in
      record { sized = s; counted = counted t (omega (arith, s.table2)) (omega (arith, s.table3_least)) b.0; in_range = in_range b.1 }

  pub of_formed : (chosen : ℕ) → WellFormed k t u chosen → AllPass (tests k t u chosen)
  unfolding tests
  of_formed chosen w =
      append_all (size_tests k t u chosen) (row_tests t ++ range_tests k t u) (of_sized k t u chosen w.sized)
      (append_all (row_tests t) (range_tests k t u) (of_counted t w.counted) (of_in_range w.in_range))
