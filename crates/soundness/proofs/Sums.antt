-- A law of sums that the walk's laws leave out. Assumes nothing.
use Prim.Native.Nat.{ℕ, ◌+◌, ◌≤◌, ◌<◌}
use mathlib.Core.Path.{◌≡◌}
use mathlib.Core.Logic.{⊎_elim}
use native.Mathlib.Nat.{le_refl}
use native.Mathlib.Omega.{arith}
use Rattle.walk.specs.Fold.{sum}
use Rattle.walk.proofs.Fold.{at_end, down, sum_step, sum_le}

-- a sum of terms none of which is greater, and of which one leaves room for x, leaves room for x
pub sum_room : (f g : ℕ → ℕ) (x hi j lo : ℕ) → lo ≤ j → j < hi → ((i : ℕ) → lo ≤ i → i < hi → f i ≤ g i) → f j + x ≤ g j → sum f lo hi + x ≤ sum g lo hi
sum_room f g x hi j = down
    (λ lo. lo ≤ j → j < hi → ((i : ℕ) → lo ≤ i → i < hi → f i ≤ g i) → f j + x ≤ g j → sum f lo hi + x ≤ sum g lo hi) hi
    (λ i h l u k r. absurd (omega arith))
    (λ i h ih l u k r.
    rw (sum_step f i hi h, sum_step g i hi h)
    (⊎_elim
    (λ w. let q : j ≡ i = omega arith in
    let s : f i + x ≤ g i = rw q at r in
    omega (arith, sum_le f g hi (i + 1) (λ m a b. k m (omega arith) b)))
    (λ w. omega (arith, k i (le_refl i) h, ih (omega arith) u (λ m a b. k m (omega arith) b) r))
    (at_end i j)))
