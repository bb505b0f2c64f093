-- Document 01's stepped figures of model A, as W-202 changed those of cost, and what demand 3 says of four of the accepted cases.
-- Assumes nothing.
use mathlib.Core.Path.{◌≡◌, refl, ap, subst}
use mathlib.Core.List.{List, [], ◌∷◌, map}
use Prim.Native.Nat.{ℕ, zero, suc, ◌-◌, ◌*◌, ◌^◌, ◌≤◌, ◌<◌}
use native.Mathlib.Nat.{mul-one, one-mul}
use native.Mathlib.Omega.{arith}
use lib.Dec.{T}
use lib.ListN.{get_or}
use Rattle.walk.specs.Fold.{sum}
use Rattle.model.specs.declared.answers.Verdict.{Verdict}
use Rattle.model.specs.Limits.{none}
use Rattle.model.specs.Kinds.{kind_of}
use Rattle.model.specs.Tables.{Claim}
use Rattle.model.specs.Answers.{pass}
use Rattle.model.specs.Checked.{answer_of, choices_of}
use Rattle.soundness.specs.Process.{Strategy}
use Rattle.soundness.specs.Demand3.{after_steps, Enabled, FromList, whole}
use Rattle.soundness.proofs.Demand3.{demand3}
use Rattle.cases.specs.Worked.{Case, model_a, arrival, costly, unlent, lent, proved}
use Rattle.cases.proofs.Right.{right}

-- the claims of the cases A 1, A 4, A 6 and A 8 that are accepted, of A 8 the one that broke 21 before W-202
abbrev A1 : Claim
A1 = arrival 8 (4 ∷ 0 ∷ 8 ∷ []) []

abbrev A4 : Claim
A4 = arrival 8 (4 ∷ 0 ∷ 8 ∷ []) (1 ∷ none ∷ 0 ∷ [])

abbrev A6 : Claim
A6 = costly (3 ∷ 0 ∷ 5 ∷ []) []

abbrev A8 : Claim
A8 = costly (8 ∷ 0 ∷ 5 ∷ []) (1 ∷ none ∷ 0 ∷ [])

-- choice 0 at state 0, whatever the history; and choice 0 at the first step, then choice 1
abbrev choice0 : Strategy
choice0 history s = get_or (0 ∷ 2 ∷ none ∷ []) s none

abbrev changing : Strategy
changing [] s = get_or (0 ∷ 2 ∷ none ∷ []) s none
changing (x ∷ history) s = get_or (1 ∷ 2 ∷ none ∷ []) s none

-- arrival from state 0 under choice 0 is 1/4, 6/16, 28/64 after 1, 2, 3 steps
pub arrives : (after_steps (kind_of 1) model_a A1 choice0 1 0 ≡ 1)
    × (after_steps (kind_of 1) model_a A1 choice0 2 0 ≡ 6)
    × (after_steps (kind_of 1) model_a A1 choice0 3 0 ≡ 28)
unfolding after_steps sum
arrives = (refl, refl, refl)

-- under the strategy that remembers its first step it stays 1/4
pub remembers : (after_steps (kind_of 1) model_a A1 changing 1 0 ≡ 1)
    × (after_steps (kind_of 1) model_a A1 changing 2 0 ≡ 4)
    × (after_steps (kind_of 1) model_a A1 changing 3 0 ≡ 16)
unfolding after_steps sum
remembers = (refl, refl, refl)

-- cost collected from state 0 under choice 0 is 17/4, 102/16, 476/64 after 1, 2, 3 steps; none before the first
pub collects : (after_steps (kind_of 6) model_a A6 choice0 0 0 ≡ 0)
    × (after_steps (kind_of 6) model_a A6 choice0 1 0 ≡ 17)
    × (after_steps (kind_of 6) model_a A6 choice0 2 0 ≡ 102)
    × (after_steps (kind_of 6) model_a A6 choice0 3 0 ≡ 476)
unfolding after_steps sum
collects = (refl, refl, refl, refl)

-- the target has its cost of 5 from the start, and does not pay it again: 5, 20/4, 80/16 after 0, 1, 2 steps
pub pays_once : (after_steps (kind_of 6) model_a A6 choice0 0 2 ≡ 5)
    × (after_steps (kind_of 6) model_a A6 choice0 1 2 ≡ 20)
    × (after_steps (kind_of 6) model_a A6 choice0 2 2 ≡ 80)
unfolding after_steps sum
pays_once = (refl, refl, refl)

-- so the 6 from state 0 that was accepted before W-202 is exceeded after 2 steps
pub six_exceeded : 6 * 4 ^ 2 < after_steps (kind_of 5) model_a (costly (6 ∷ 0 ∷ 0 ∷ []) []) choice0 2 0
unfolding after_steps sum
six_exceeded = omega arith

-- the answer and the choices of a case of the proved set
answered : (i : ℕ) → get_or (map (λ (x : Case). (answer_of x.kind x.model x.claim x.choices).verdict) proved) i pass
    ≡ get_or (map (λ (x : Case). x.answer) proved) i pass
answered i = ap (λ (xs : List Verdict). get_or xs i pass) right.0

chosen : (i : ℕ) → get_or (map (λ (x : Case). choices_of x.kind x.model x.claim x.choices) proved) i []
    ≡ get_or (map (λ (x : Case). x.chosen) proved) i []
chosen i = ap (λ (xs : List (List ℕ)). get_or xs i []) right.1

-- A 1, "at most, every": no strategy brings more than 4/8 from state 0 to the target, after any number of steps
pub at_most_half : (σ : Strategy) → Enabled model_a σ → (steps : ℕ) → 8 * after_steps (kind_of 1) model_a A1 σ steps 0 ≤ 4 * 4 ^ steps
at_most_half σ m steps = demand3 1 model_a A1 unlent 0 (answered 0) σ m 0 (omega arith) steps

-- such a strategy is the one that remembers its first step
pub enabled : Enabled model_a changing
enabled [] zero l e = omega arith
enabled [] (suc zero) l e = omega arith
enabled [] (suc (suc zero)) l e = absurd (subst T e tt)
enabled [] (suc (suc (suc s))) l e = absurd (omega arith)
enabled (x ∷ history) zero l e = omega arith
enabled (x ∷ history) (suc zero) l e = omega arith
enabled (x ∷ history) (suc (suc zero)) l e = absurd (subst T e tt)
enabled (x ∷ history) (suc (suc (suc s))) l e = absurd (omega arith)

-- A 4, "at least, some": the choices 0 2 - miss 4/8 from state 0 by at most (3/4)^m of 8/8 after m steps
pub at_least_half : (σ : Strategy) → FromList (0 ∷ 2 ∷ none ∷ []) σ → (m : ℕ)
    → (4 * 4 ^ m - 8 * after_steps (kind_of 4) model_a A4 σ m 0) * 4 ^ m ≤ 8 * 4 ^ m * 3 ^ m
unfolding whole
at_least_half σ h m =
    let f : FromList (choices_of 4 model_a A4 lent) σ = rw (chosen 5) h in
    rw (mul-one m, one-mul m) at (demand3 4 model_a A4 lent 1 (answered 5) σ f 0 (omega arith) m)

-- such a strategy is choice 0
pub listed : FromList (0 ∷ 2 ∷ none ∷ []) choice0
listed history s l = refl

-- A 6, "at most, some": the choices 1 2 - collect no more than 3 from state 0, after any number of steps
pub at_most_three : (σ : Strategy) → FromList (1 ∷ 2 ∷ none ∷ []) σ → (steps : ℕ) → 1 * after_steps (kind_of 6) model_a A6 σ steps 0 ≤ 3 * 4 ^ steps
at_most_three σ h steps =
    let f : FromList (choices_of 6 model_a A6 lent) σ = rw (chosen 14) h in
    demand3 6 model_a A6 lent 0 (answered 14) σ f 0 (omega arith) steps

-- A 8, "at least, some": the choices 0 2 - miss 8 from state 0 by at most (3/4)^m of 8 after m steps
pub at_least_eight : (σ : Strategy) → FromList (0 ∷ 2 ∷ none ∷ []) σ → (m : ℕ)
    → (8 * 4 ^ m - 1 * after_steps (kind_of 8) model_a A8 σ m 0) * 4 ^ m ≤ 8 * 4 ^ m * 3 ^ m
unfolding whole
at_least_eight σ h m =
    let f : FromList (choices_of 8 model_a A8 lent) σ = rw (chosen 16) h in
    rw (mul-one m, one-mul m) at (demand3 8 model_a A8 lent 1 (answered 16) σ f 0 (omega arith) m)
