-- A claim of "at most" that meets its conditions is never exceeded, whatever the strategy. Assumes nothing.
use mathlib.Core.Path.{◌≡◌, refl}
use mathlib.Core.Bool.{Bool, true, false}
use mathlib.Core.List.{[], ◌∷◌}
use Prim.Native.Nat.{ℕ, zero, suc, ◌+◌, ◌*◌, ◌^◌, ◌≤◌}
use native.Mathlib.Nat.{mul-le-mul_left, pow-suc}
use native.Mathlib.Omega.{arith}
use Rattle.walk.proofs.Fold.{sum_le, sum_times}
use Rattle.soundness.specs.Process.{Process, Strategy, stepped}
use Rattle.soundness.proofs.Conditions.{Obeys, AtMost}
use Rattle.soundness.proofs.Steps.{later, stepped_stop, stepped_start, stepped_step}

-- arithmetic of a step: the successors' sum and the gain stay within the claim
within_claim : (c N B claim gain values claims : ℕ)
    → values * c ≤ claims * B → claims + c * (N * gain) ≤ N * claim → c * (B * N * gain + values) ≤ claim * (B * N)
within_claim c N B claim gain values claims h k = omega (arith, mul-le-mul_left B k)

module _ (P : Process) (c : ℕ) (claim : ℕ → ℕ) (Within : ℕ → Type 0) (Allowed : ℕ → ℕ → Type 0) (h : AtMost P c claim Within Allowed) where
  -- a stop keeps within its claim, so that only the other states are to be shown
  unless_stopped : (σ : Strategy) (k s : ℕ) → Within s → (P.stops s ≡ false → c * stepped P σ k s ≤ claim s * P.base ^ k)
      → c * stepped P σ k s ≤ claim s * P.base ^ k
  unless_stopped σ k s w go = by (P.stops s) refl
    where
      by : (b : Bool) → P.stops s ≡ b → c * stepped P σ k s ≤ claim s * P.base ^ k
      by true e = rw (stepped_stop P σ s k e) (omega (arith, mul-le-mul_left (P.base ^ k) (h.at_stop s w e)))
      by false e = go e

  -- what holds of all successors holds one step earlier
  step : (σ : Strategy) → Obeys P Within Allowed σ → (k : ℕ)
      → ((s : ℕ) → Within s → (x : ℕ) → c * stepped P (later σ x) k s ≤ claim s * P.base ^ k)
      → (s : ℕ) → Within s → P.stops s ≡ false → c * stepped P σ (suc k) s ≤ claim s * P.base ^ suc k
  step σ o k ih s w e =
      rw (stepped_step P σ s k e, pow-suc P.base k)
      (within_claim c P.base (P.base ^ k) (claim s) (P.gain s) _ _
      (rw (
        ← sum_times (λ j. P.weight a j * stepped P (later σ s) k (P.destination j)) c (P.hi a) (P.lo a),
        ← sum_times (λ j. P.weight a j * claim (P.destination j)) (P.base ^ k) (P.hi a) (P.lo a),
      )
      (sum_le _ _ (P.hi a) (P.lo a)
      (λ j l u. omega (arith, mul-le-mul_left (P.weight a j) (ih (P.destination j) (h.closed.stays s a j w e (o [] s w e) l u) s)))))
      (h.at_step s a w e (o [] s w e)))
    where
      a : ℕ
      a = σ [] s

  -- the stepped number over the scale is at most the claim, after any number of steps
  pub never_exceeded : (σ : Strategy) → Obeys P Within Allowed σ → (k s : ℕ) → Within s → c * stepped P σ k s ≤ claim s * P.base ^ k
  never_exceeded σ o zero s w = unless_stopped σ 0 s w (λ e. rw (stepped_start P σ s e) (omega arith))
  never_exceeded σ o (suc k) s w = unless_stopped σ (suc k) s w
      (step σ o k (λ t u x. never_exceeded (later σ x) (λ history. o (_ ∷ history)) k t u) s w)
