-- The walk over one action's branches: what it has shown at branch j, and what each way out of it answers. Assumes nothing.
use mathlib.Core.Bool.{false}
use mathlib.Core.Path.{◌≡◌, sym, ap, ◌∙◌}
use mathlib.Core.List.{List, [], ◌∷◌}
use borrow.Author.Tests.{lt-ltb, le-leb, lt-leb}
use Prim.Native.Nat.{ℕ, ◌+◌, ◌*◌, ◌≤◌, ◌<◌, zero-le}
use native.Mathlib.Nat.{le_of_lt}
use native.Mathlib.Omega.{arith}
use lib.Dec.{eqb, ltb}
use Rattle.walk.specs.Fold.{sum}
use Rattle.walk.proofs.Loop.{Summing, sum_start, sum_pass, sum_ends}
use Rattle.model.specs.declared.answers.Fault.{Fault}
use Rattle.model.specs.Tables.{destination_at, weight_at}
use Rattle.model.specs.Tables.{Model, states, actions, branches, first_branch, destination, weight, scale}
use Rattle.model.specs.declared.answers.Verdict.{Verdict}
use Rattle.model.specs.declared.answers.Verdict.TheVariants.{Refused}
use Rattle.model.specs.Answers.{pass, given, then, tried, each, require}
use Rattle.model.specs.Checked.{accepts}
use Rattle.model.specs.Refusals.{branch_over}
use Rattle.model.specs.Refusals.{between, branch_test, total_test, action_test}
use Rattle.model.proofs.Rising.{start_below}
use Rattle.model.proofs.Searched.{ok_goes, err_stops, tried_ok, tried_err}
use Rattle.model.proofs.Tried.{Trying, try_start, try_pass, try_stop, try_end}
use Rattle.rows.specs.Fitting.{Walkable}

pub record Counting (t : Model) (a total j : ℕ) : Type 0 where
  pub trying : Trying (branch_test t a) (first_branch t (a + 1)) (total_test t a) (action_test t a) j
  pub summing : Summing (weight t) (first_branch t (a + 1)) (sum (weight t) (first_branch t a) (first_branch t (a + 1))) j total
  pub within : first_branch t (a + 1) ≤ branches t
  pub small : total ≤ j * 4294967295

pub count_start : (t : Model) (a : ℕ) → Walkable t → a < actions t → Counting t a 0 (first_branch t a)
unfolding action_test branch_test total_test
count_start t a w h =
    let rises : first_branch t a ≤ first_branch t (a + 1) = le_of_lt (w.starts.rises a (omega (arith, w.table3_least))) in
    record {
      trying = try_start (branch_test t a) (first_branch t a) (first_branch t (a + 1)) (total_test t a) rises;
      summing = sum_start (weight t) (first_branch t a) (first_branch t (a + 1)) rises;
      within = start_below t.branch_starts (branches t) w.starts (a + 1) (omega (arith, w.table3_least));
      small = zero-le;
    }

module _ {t : Model} {a total j : ℕ} (w : Counting t a total j) (h : j < first_branch t (a + 1)) where
  stop : (f : Fault) → given f ≡ branch_test t a j → given f ≡ action_test t a
  stop f e = e ∙ try_stop w.trying h (err_stops f e)

  pub stop_nine : (f : Fault) → given f ≡ require (ltb (destination t j) (states t)) 9 j → given f ≡ action_test t a
  unfolding branch_test
  stop_nine f e = stop f (tried_err f e (require (between 1 (scale t a) (weight t j)) 10 j ∷ []) pass)

  module _ (nine : pass ≡ require (ltb (destination t j) (states t)) 9 j) where
    pub stop_ten : (f : Fault) → given f ≡ require (between 1 (scale t a) (weight t j)) 10 j → given f ≡ action_test t a
    unfolding branch_test
    stop_ten f e = stop f (tried_err f e [] pass ∙ sym (tried_ok nine (require (between 1 (scale t a) (weight t j)) 10 j ∷ []) pass))

    pub count_pass : pass ≡ require (between 1 (scale t a) (weight t j)) 10 j → weight t j ≤ 4294967295
        → Counting t a (total + weight t j) (j + 1)
    unfolding branch_test tried
    count_pass ten f =
        record {
          trying = try_pass w.trying h (ok_goes (sym (tried_ok nine (require (between 1 (scale t a) (weight t j)) 10 j ∷ []) pass ∙ tried_ok ten [] pass)));
          summing = sum_pass w.summing h;
          within = w.within;
          small = omega (arith, w.small);
        }

pub count_end : {t : Model} {a total j : ℕ} → Counting t a total j → first_branch t (a + 1) ≤ j
    → require (eqb total (scale t a)) 11 a ≡ action_test t a
unfolding total_test
count_end {t} {a} w h = ap (λ (x : ℕ). require (eqb x (scale t a)) 11 a) (sum_ends w.summing h) ∙ try_end w.trying h

-- a walk whose test at j does not pass answers what that test says
pub stop_here : (test : ℕ → Verdict) (j hi : ℕ) (v : Verdict) → j < hi → accepts (test j) ≡ false → each test j hi v ≡ test j
stop_here test j hi v h e = sym (try_stop (try_start test j hi v (omega arith)) h e)

-- a weight above D at branch j, whose destination is a state
module _ (d n : ℕ) (destinations weights : List ℕ) (j : ℕ) (l : destination_at destinations j < n) where
  pub high : 1 ≤ weight_at weights j → d < weight_at weights j → branch_over d n destinations weights j ≡ Refused 10 j
  unfolding tried require then
  high g h =
      rw (lt-ltb (destination_at destinations j) n l, le-leb 1 (weight_at weights j) g, lt-leb (weight_at weights j) d h)
