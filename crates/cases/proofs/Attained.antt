-- The remainder of demand 3 is attained by an accepted claim, "at least, every", so no smaller one would hold. Assumes nothing.
use mathlib.Core.Path.{◌≡◌, refl}
use mathlib.Core.List.{[], ◌∷◌}
use Prim.Native.Nat.{ℕ, ◌-◌, ◌*◌, ◌^◌, ◌≤◌}
use native.Mathlib.Nat.{mul-one, one-mul}
use native.Mathlib.Omega.{arith}
use Rattle.walk.specs.Fold.{sum}
use Rattle.model.specs.Refusals.{size_tests, weight_scale_test, claim_scale_test, states_test, model_lengths, claim_lengths, length_test}
use Rattle.model.specs.Refusals.{row_tests, starts_test, start_right, marks_test, walk_test, action_test, range_tests, costs_test, claims_test, ranks_test}
use Rattle.model.specs.Conditions.{condition21, condition22, condition23, condition24}
use Rattle.model.specs.declared.answers.Verdict.TheVariants.{Accepted}
use Rattle.model.specs.Kinds.{kind_of}
use Rattle.model.specs.Tables.{Model, Claim}
use Rattle.model.specs.Checked.{answer_of}
use Rattle.soundness.specs.Process.{Strategy}
use Rattle.soundness.specs.Demand3.{after_steps, Enabled, whole}
use Rattle.soundness.proofs.Demand3.{demand3}
use Rattle.cases.specs.Worked.{arrival, unlent}

-- a toss at state 0, over D = 2: stay, or arrive at the target, state 1
abbrev toss : Model
toss =
    record {
      d = 2;
      marks = 0 ∷ 1 ∷ [];
      action_starts = 0 ∷ 1 ∷ 2 ∷ [];
      branch_starts = 0 ∷ 2 ∷ 3 ∷ [];
      destinations = 0 ∷ 1 ∷ 1 ∷ [];
      weights = 1 ∷ 1 ∷ 2 ∷ [];
    }

-- all arrive in the end: 1/1 from both states, with ranks 1 and 0
abbrev sure : Claim
sure = arrival 1 (1 ∷ 1 ∷ []) (1 ∷ 0 ∷ [])

pub accepted : (answer_of 2 toss sure unlent).verdict ≡ Accepted 1
unfolding answer_of size_tests weight_scale_test claim_scale_test states_test model_lengths claim_lengths length_test
    row_tests starts_test start_right marks_test walk_test action_test range_tests costs_test claims_test ranks_test
    condition21 condition22 condition23 condition24
accepted = refl

-- so every strategy misses at most (1/2)^m after m steps
pub missed : (σ : Strategy) → Enabled toss σ → (m : ℕ) → (1 * 2 ^ m - 1 * after_steps (kind_of 2) toss sure σ m 0) * 2 ^ m ≤ 1 * 2 ^ m * 1 ^ m
unfolding whole
missed σ h m = rw (mul-one m, one-mul m) at (demand3 2 toss sure unlent 1 accepted σ h 0 (omega arith) m)

-- and the only one there is misses that much, here after 1, 2 and 3 steps
abbrev only : Strategy
only history s = s

pub attained : ((1 * 2 ^ 1 - 1 * after_steps (kind_of 2) toss sure only 1 0) * 2 ^ 1 ≡ 1 * 2 ^ 1 * 1 ^ 1)
    × ((1 * 2 ^ 2 - 1 * after_steps (kind_of 2) toss sure only 2 0) * 2 ^ 2 ≡ 1 * 2 ^ 2 * 1 ^ 2)
    × ((1 * 2 ^ 3 - 1 * after_steps (kind_of 2) toss sure only 3 0) * 2 ^ 3 ≡ 1 * 2 ^ 3 * 1 ^ 3)
unfolding after_steps sum
attained = (refl, refl, refl)
