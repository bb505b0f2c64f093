-- Well-formed tables: the actions of each state can be walked, and its numbers are judged as the state is. Assumes nothing.
use mathlib.Core.Path.{◌≡◌, refl, sym, ap, fun_ext, ◌∙◌}
use mathlib.Core.Bool.{Bool, true, false, cond, ◌&&◌}
use mathlib.Core.List.{List}
use mathlib.Core.Logic.{⊎_elim}
use Prim.Native.Nat.{ℕ, ◌+◌, ◌*◌, ◌≤◌, ◌<◌, zero-le}
use native.Mathlib.Nat.{le_trans, le_of_lt, le_refl, mul-le-mul_left, mul-le-mul_right}
use native.Mathlib.Omega.{arith}
use lib.ListN.{length, get_or, get_or-eq_default}
use Rattle.walk.proofs.Fold.{sum_le, sum_times}
use Rattle.model.specs.declared.kinds.Kind.{Kind}
use Rattle.model.specs.Limits.{most_claim_scale, most_cost, most_cost_claim, none}
use Rattle.model.specs.Kinds.{is_cost, is_some}
use Rattle.model.specs.Tables.{Model, Claim, states, branches, target, first_action, first_branch, destination, weight, cost, claim, rank}
use Rattle.model.specs.WellFormed.{Row}
use Rattle.model.specs.Answers.{then, tried}
use Rattle.model.specs.Conditions.{weighted, expected, suits, falls, ask, ask_actions, fall_asked, asks_fall, lowest_action}
use Rattle.model.specs.Conditions.{condition21, condition22, condition23, condition24, judged}
use Rattle.model.specs.Checked.{choice}
use Rattle.model.proofs.Rising.{start_below}
use Rattle.actions.specs.declared.State.{State}
use Rattle.actions.specs.Judging.{rows_in, state_of, suits_over, kept, suits_in, falls_in, lowest_of}
use Rattle.actions.specs.Ready.{Weighable, Walkable}
use Rattle.conditions.specs.Ready.{Ready}
use Rattle.std.specs.declared.result.Result.{Result}
use Rattle.model.specs.declared.answers.Violation.{Violation}
use Rattle.conditions.specs.Judging.{Judges, verdict23, target_verdict, open_verdict, open_choice, state_verdict, state_choice, picked}
use Rattle.conditions.proofs.State.{beq_true, unasked}

limit_most : (cost : Bool) (c : ℕ) → c ≤ most_claim_scale → cond cost most_cost_claim c ≤ most_cost_claim
limit_most true c h = le_refl most_cost_claim
limit_most false c h = omega arith

-- a number of a table that is as long as it should be, or not there at all
within_most : (list : List ℕ) (n s most : ℕ) (has : Bool) → length list ≡ cond has n 0 → s < n → ((i : ℕ) → i < length list → get_or list i 0 ≤ most)
    → get_or list s 0 ≤ most
within_most list n s most true e l h = h s (omega arith)
within_most list n s most false e l h = rw (get_or-eq_default list 0 {n = s} (omega arith)) zero-le

module _ {k : Kind} {t : Model} {u : Claim} (w : Ready k t u) where
  claim_most : (s : ℕ) → s < states t → claim u s ≤ most_cost_claim
  claim_most s l =
      le_trans (w.formed.in_range.claims s (omega (arith, w.formed.sized.table7))) (limit_most (is_cost k.measure) u.c w.formed.sized.c_most)

  rank_most : (s : ℕ) → s < length u.ranks → rank u s ≤ none
  rank_most s l =
      ⊎_elim (λ (p : rank u s < states t). omega (arith, w.formed.sized.n_most)) (λ (p : rank u s ≡ none). omega arith) (w.formed.in_range.ranks s l)

  -- an arrival kind has no costs
  costless : (s : ℕ) → is_cost k.measure ≡ false → cost u s ≡ 0
  costless s e =
      let q : length u.costs ≡ 0 = w.formed.sized.table6 ∙ rw (w.columns.costs ∙ e) in
      get_or-eq_default u.costs 0 (omega arith)

  module _ (a : ℕ) (m : a + 1 < length t.branch_starts) where
    row : Row t a
    row = w.formed.counted.rows a (omega arith)

    end : first_branch t (a + 1) ≤ branches t
    end = start_below t.branch_starts (branches t) w.formed.counted.branch-starts (a + 1) m

    weighable : Weighable t.destinations t.weights u.claims (first_branch t a) (first_branch t (a + 1))
    weighable =
        record {
          low = le_of_lt (w.formed.counted.branch-starts.rises a m);
          in_destinations = end;
          in_weights = omega (arith, end, w.formed.sized.table5);
          inside = λ j p q. omega (arith, w.formed.sized.table7, row.destinations j p q);
          light =
              le_trans
              (sum_le (λ j. weight t j * claim u (destination t j)) (λ j. weight t j * most_cost_claim) (first_branch t (a + 1)) (first_branch t a)
              (λ j p q. mul-le-mul_left (weight t j) (claim_most (destination t j) (row.destinations j p q))))
              (rw (sum_times (weight t) most_cost_claim (first_branch t (a + 1)) (first_branch t a), row.total)
              (mul-le-mul_right most_cost_claim w.formed.sized.d_most));
        }

  walkable : (s : ℕ) → s < states t → Walkable k (state_of t u s) (rows_in t u)
  walkable s l =
      let starts = w.formed.counted.action-starts in
      let below = start_below t.action_starts _ starts (s + 1) (omega (arith, w.formed.sized.table2)) in
      let least = w.formed.sized.table3_least in
      record {
        standing =
            record {
              scale_most = w.formed.sized.d_most;
              claim_most = claim_most s l;
              cost_most = within_most u.costs (states t) s most_cost k.costs w.formed.sized.table6 l w.formed.in_range.costs;
              no_cost = costless s;
              rank_most = within_most u.ranks (states t) s none k.ranks w.formed.sized.table8 l rank_most;
            };
        rises = le_of_lt (starts.rises s (omega (arith, w.formed.sized.table2)));
        within = omega arith;
        stretches = λ a h. weighable a (omega arith);
        ranked = λ e. w.formed.sized.table8 ∙ rw (w.columns.ranks ∙ e) (sym w.formed.sized.table7);
      }

-- what the definition says of a state is what is said of its numbers
module _ (k : Kind) (t : Model) (u : Claim) (s : ℕ) where
  judged_is : judged k t u s ≡ state_verdict k u.c (state_of t u s) (rows_in t u)
  unfolding judged tried condition21 condition22 condition23 condition24 asks_fall ask_actions suits falls expected weighted then ask
      suits_over suits_in falls_in state_verdict target_verdict open_verdict verdict23
  judged_is = by (target t s) refl
    where
      by : (b : Bool) → target t s ≡ b → judged k t u s ≡ state_verdict k u.c (state_of t u s) (rows_in t u)
      by true e = rw e
      by false e = rw e

  lowest_is : (asked : Bool)
      → cond asked (lowest_action t s (λ a. suits k t u s a && falls t u s a)) (lowest_action t s (suits k t u s))
      ≡ lowest_of k true asked (state_of t u s) (rows_in t u)
  unfolding lowest_of suits falls expected weighted suits_over suits_in falls_in
  lowest_is true = ap (λ (p : ℕ → Bool). lowest_action t s p) (fun_ext (λ a. sym (beq_true (suits k t u s a && falls t u s a))))
  lowest_is false =
      ap (λ (p : ℕ → Bool). lowest_action t s p)
      (fun_ext (λ a. sym (beq_true (kept false (suits k t u s a) (falls t u s a)) ∙ unasked (suits k t u s a) (falls t u s a))))

  picked_is : picked k t u s ≡ state_choice k (state_of t u s) (rows_in t u)
  unfolding picked choice asks_fall state_choice open_choice
  picked_is = by (target t s) refl
    where
      neither : (b : Bool) → cond b none none ≡ none
      neither true = refl
      neither false = refl

      by : (b : Bool) → target t s ≡ b → picked k t u s ≡ state_choice k (state_of t u s) (rows_in t u)
      by true e = rw e (neither (is_some k.who))
      by false e = rw e (ap (λ (a : ℕ). cond (is_some k.who) a none) (lowest_is (fall_asked k (rank u s))))

-- the numbers of a state as the code reads them: its cost and its rank from tables that not every kind has
abbrev read : Model → Claim → ℕ → ℕ → ℕ → State
read t u s cost rank =
    record {
      place = s;
      mark = get_or t.marks s 0;
      first = first_action t s;
      end = first_action t (s + 1);
      scale = t.d;
      claim = claim u s;
      cost = cost;
      rank = rank;
    }

module _ (k : Kind) (t : Model) (u : Claim) (s c r : ℕ) (p : c ≡ cost u s) (q : r ≡ rank u s) where
  pub read_walkable : Ready k t u → s < states t → Walkable k (read t u s c r) (rows_in t u)
  read_walkable w l = rw (p, q) (walkable w s l)

  pub read_judged : {j : Result ℕ Violation} → Judges (state_verdict k u.c (read t u s c r) (rows_in t u)) (state_choice k (read t u s c r) (rows_in t u)) j
      → Judges (judged k t u s) (picked k t u s) j
  read_judged h = rw (judged_is k t u s, picked_is k t u s, ← p, ← q) h
