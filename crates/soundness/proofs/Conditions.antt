-- What the abstract lemma of demand 3 asks of a process, claims and ranks. Assumes nothing.
use mathlib.Core.Path.{◌≡◌}
use mathlib.Core.Bool.{true, false}
use mathlib.Core.List.{List}
use Prim.Native.Nat.{ℕ, ◌+◌, ◌*◌, ◌≤◌, ◌<◌}
use Rattle.walk.specs.Fold.{sum}
use Rattle.soundness.specs.Process.{Process, Step, Strategy}

-- The states that are within, and the actions allowed at each; no branch of one leads outside.
pub record Closed (P : Process) (Within : ℕ → Type 0) (Allowed : ℕ → ℕ → Type 0) : Type 0 where
  pub stays : (s a j : ℕ) → Within s → P.stops s ≡ false → Allowed s a → P.lo a ≤ j → j < P.hi a → Within (P.destination j)

-- the strategy picks an allowed action at each state within that is no stop, whatever the history
abbrev pub Obeys : Process → (ℕ → Type 0) → (ℕ → ℕ → Type 0) → Strategy → Type 0
Obeys P Within Allowed σ = (history : List Step) (s : ℕ) → Within s → P.stops s ≡ false → Allowed s (σ history s)

-- the conditions of "at most" on the claims, over the scale c
pub record AtMost (P : Process) (c : ℕ) (claim : ℕ → ℕ) (Within : ℕ → Type 0) (Allowed : ℕ → ℕ → Type 0) : Type 0 where
  pub closed : Closed P Within Allowed
  pub at_stop : (s : ℕ) → Within s → P.stops s ≡ true → c * P.worth s ≤ claim s
  pub at_step : (s a : ℕ) → Within s → P.stops s ≡ false → Allowed s a
      → sum (λ j. P.weight a j * claim (P.destination j)) (P.lo a) (P.hi a) + c * (P.base * P.gain s) ≤ P.base * claim s

-- the conditions of "at least": ranks that fall along a branch of weight at least least out of greatest, up to rank top
pub record AtLeast (P : Process) (c whole top least greatest : ℕ) (claim rank : ℕ → ℕ) (Within : ℕ → Type 0) (Allowed : ℕ → ℕ → Type 0) : Type 0 where
  pub closed : Closed P Within Allowed
  pub part : least ≤ greatest
  pub bounded : (s : ℕ) → Within s → claim s ≤ whole
  pub topped : (s : ℕ) → Within s → 0 < claim s → rank s ≤ top
  pub at_stop : (s : ℕ) → Within s → P.stops s ≡ true → claim s ≤ c * P.worth s
  pub at_step : (s a : ℕ) → Within s → P.stops s ≡ false → Allowed s a
      → P.base * claim s ≤ sum (λ j. P.weight a j * claim (P.destination j)) (P.lo a) (P.hi a) + c * (P.base * P.gain s)
  pub adds_up : (s a : ℕ) → Within s → P.stops s ≡ false → Allowed s a → sum (P.weight a) (P.lo a) (P.hi a) ≡ P.base
  pub falls : (s a : ℕ) → Within s → P.stops s ≡ false → 0 < claim s → Allowed s a
      → (j : ℕ) × (P.lo a ≤ j) × (j < P.hi a) × (rank (P.destination j) < rank s) × (least * P.base ≤ P.weight a j * greatest)
