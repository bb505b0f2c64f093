-- The tables that a header announces lie one after the other, up to the end of the file. Assumes nothing.
use mathlib.Core.Path.{◌≡◌}
use mathlib.Core.List.{List, [], ◌∷◌}
use Prim.Native.Nat.{ℕ, zero, suc, ◌+◌, ◌*◌, ◌≤◌, zero-le}
use native.Mathlib.Omega.{arith}
use Rattle.wire.specs.Blocks.{Block, size, place, block}
use Rattle.certfile.specs.declared.Header.{Header}
use Rattle.certfile.specs.File.{blocks}
use Rattle.certfile.specs.Layout.{table_place}

-- a block lies within what all of them take
pub block_within : (xs : List Block) (i : ℕ) → place xs i + (block xs i).count * (block xs i).width ≤ size xs
unfolding place block size
block_within [] i = zero-le
block_within (x ∷ xs) zero = omega arith
block_within (x ∷ xs) (suc i) = omega (arith, block_within xs i)

-- the last table ends where the file ends
pub ends : (h : Header) → table_place h 8 ≡ size (blocks h)
unfolding table_place block blocks
ends h = omega arith
