-- A file as a list of blocks: each has so many numbers of one width, one after the other.
use Rattle.std.specs.Prelude.{ℕ, zero, suc, ◌+◌, ◌*◌, List, [], ◌∷◌, ◌++◌, drop}
use Rattle.walk.specs.Fold.{listed}
use Rattle.wire.specs.Words.{word}

pub record Block : Type 0 where
  pub width : ℕ
  pub count : ℕ

abbrev pub block_of : ℕ → ℕ → Block
block_of width count = record { width = width; count = count }

-- the bytes that blocks take
unfoldable pub size : List Block → ℕ
size [] = 0
size (x ∷ xs) = x.width * x.count + size xs

-- where block number i begins, counted from 0
unfoldable pub place : List Block → ℕ → ℕ
place [] i = 0
place (x ∷ xs) zero = 0
place (x ∷ xs) (suc i) = x.width * x.count + place xs i

-- block number i, and one with no entries past the last
unfoldable pub block : List Block → ℕ → Block
block [] i = record { width = 0; count = 0 }
block (x ∷ xs) zero = x
block (x ∷ xs) (suc i) = block xs i

-- the numbers of a block that begins at a place of the file
unfoldable pub numbers : Block → List ℕ → ℕ → List ℕ
unfolding listed word
numbers x file at = listed (λ i. word x.width file (at + i * x.width)) 0 x.count

-- a table whose first entries are overwritten by the numbers of a block
unfoldable pub overwritten : Block → List ℕ → ℕ → List ℕ → List ℕ
unfolding numbers
overwritten x file at table = numbers x file at ++ drop x.count table
