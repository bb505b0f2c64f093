-- What the rest of a strategy sees, and what a stepped number is at a stop and after a step. Assumes nothing.
use mathlib.Core.Path.{◌≡◌, refl}
use mathlib.Core.Bool.{true, false}
use mathlib.Core.List.{List, [], ◌∷◌, ◌++◌}
use Prim.Native.Nat.{ℕ, zero, suc, ◌+◌, ◌*◌, ◌^◌}
use Rattle.walk.specs.Fold.{sum}
use Rattle.soundness.specs.Process.{Process, Step, Strategy, after, stepped}

-- the rest of a strategy after all steps of a past
abbrev pub after_all : Strategy → List Step → Strategy
after_all σ [] = σ
after_all σ (x ∷ past) = after_all (after σ x) past

-- it picks from the whole of that past, oldest step first, whatever the strategy
pub sees_all : (σ : Strategy) (past history : List Step) (s : ℕ) → after_all σ past history s ≡ σ (past ++ history) s
sees_all σ [] history s = refl
sees_all σ (x ∷ past) history s = sees_all (after σ x) past history s

-- the rest of a strategy after its own step at s
abbrev pub later : Strategy → ℕ → Strategy
later σ s = after σ (record { state = s; action = σ [] s })

module _ (P : Process) (σ : Strategy) (s : ℕ) where
  pub stepped_stop : (k : ℕ) → P.stops s ≡ true → stepped P σ k s ≡ P.base ^ k * P.worth s
  unfolding stepped
  stepped_stop zero e = rw e
  stepped_stop (suc k) e = rw e

  pub stepped_start : P.stops s ≡ false → stepped P σ 0 s ≡ 0
  unfolding stepped
  stepped_start e = rw e

  pub stepped_step : (k : ℕ) → P.stops s ≡ false
      → stepped P σ (suc k) s ≡ P.base ^ suc k * P.gain s
      + sum (λ j. P.weight (σ [] s) j * stepped P (later σ s) k (P.destination j)) (P.lo (σ [] s)) (P.hi (σ [] s))
  unfolding stepped
  stepped_step k e = rw e
