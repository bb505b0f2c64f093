-- A table of starts that rises strictly to its end: each start is no more than the end, and each index below the end has an owner. Assumes nothing.
use mathlib.Core.List.{List}
use mathlib.Core.Logic.{⊎_elim}
use Prim.Native.Nat.{ℕ, ◌+◌, ◌≤◌, ◌<◌}
use native.Mathlib.Nat.{le_of_eq, le_trans, le_of_lt}
use native.Mathlib.Omega.{arith}
use lib.ListN.{length, get_or}
use Rattle.walk.proofs.Fold.{down, at_end}
use Rattle.model.specs.WellFormed.{Starts}

pub start_below : (starts : List ℕ) (end : ℕ) → Starts starts end → (i : ℕ) → i < length starts → get_or starts i 0 ≤ end
start_below starts end w = down
    (λ i. i < length starts → get_or starts i 0 ≤ end) (length starts)
    (λ i h l. absurd (omega arith))
    (λ i h ih l.
    ⊎_elim
    (λ (q : length starts ≤ i + 1). le_of_eq (w.ends i (omega arith)))
    (λ (q : i + 1 < length starts). le_trans (le_of_lt (w.rises i q)) (ih q))
    (at_end (i + 1) (length starts)))

-- an index lies from one start up to, not with, the next
pub record Owner (starts : List ℕ) (j : ℕ) : Type 0 where
  pub at : ℕ
  pub within : at + 1 < length starts
  pub low : get_or starts at 0 ≤ j
  pub high : j < get_or starts (at + 1) 0

pub owner : (starts : List ℕ) (end : ℕ) → Starts starts end → 0 < length starts → (j : ℕ) → j < end → Owner starts j
owner starts end w long j h = down
    (λ i. i < length starts → get_or starts i 0 ≤ j → Owner starts j) (length starts)
    (λ i e l low. absurd (omega arith))
    (λ i e ih l low.
    ⊎_elim
    (λ (q : length starts ≤ i + 1). absurd (omega (arith, w.ends i (omega arith))))
    (λ (q : i + 1 < length starts).
    ⊎_elim
    (λ (p : get_or starts (i + 1) 0 ≤ j). ih q p)
    (λ (p : j < get_or starts (i + 1) 0). record { at = i; within = q; low = low; high = p })
    (at_end j (get_or starts (i + 1) 0)))
    (at_end (i + 1) (length starts)))
    0 long (omega (arith, w.begins))
