-- Stepping through a process with choices: strategies that remember everything, and stepped values.
use Rattle.std.specs.Prelude.{ℕ, zero, suc, ◌+◌, ◌*◌, ◌^◌, Bool, cond, List, [], ◌∷◌}
use Rattle.walk.specs.Fold.{sum}

-- Numbers are taken over powers of the base; an action's branches go from lo up to, not with, hi,
-- and the weights of one action's branches add up to the base.
pub record Process : Type 0 where
  pub base : ℕ
  pub stops : ℕ → Bool
  pub worth : ℕ → ℕ
  pub gain : ℕ → ℕ
  pub lo : ℕ → ℕ
  pub hi : ℕ → ℕ
  pub destination : ℕ → ℕ
  pub weight : ℕ → ℕ → ℕ

-- a step of the past: the state that it left and the action picked there
pub record Step : Type 0 where
  pub state : ℕ
  pub action : ℕ

-- a strategy picks an action from the whole history, oldest step first, and the state now reached
abbrev pub Strategy : Type 0
Strategy = List Step → ℕ → ℕ

-- the rest of a strategy after a step
abbrev pub after : Strategy → Step → Strategy
after σ x history s = σ (x ∷ history) s

-- the number after k steps, over base ^ k: a stop has its worth; any other state has 0 at k = 0, and
-- at k + 1 its gain and the weighted sum of its successors' numbers under the rest of the strategy
unfoldable pub stepped : Process → Strategy → ℕ → ℕ → ℕ
stepped P σ zero s = cond (P.stops s) (P.base ^ 0 * P.worth s) 0
stepped P σ (suc k) s =
    cond (P.stops s) (P.base ^ suc k * P.worth s)
    (P.base ^ suc k * P.gain s
    + sum (λ j. P.weight (σ [] s) j * stepped P (after σ (record { state = s; action = σ [] s })) k (P.destination j))
    (P.lo (σ [] s)) (P.hi (σ [] s)))
