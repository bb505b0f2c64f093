-- A file that is written: sections, each with its numbers in one width, one after the other.
use Rattle.std.specs.Prelude.{ℕ, zero, suc, ◌+◌, ◌*◌, List, [], ◌∷◌, ◌++◌, length}
use Rattle.wire.specs.Words.{bytes}
use Rattle.wire.specs.Blocks.{Block, block_of, numbers}

pub record Section : Type 0 where
  pub width : ℕ
  pub numbers : List ℕ

abbrev pub section_of : ℕ → List ℕ → Section
section_of width numbers = record { width = width; numbers = numbers }

-- numbers in so many bytes each
unfoldable pub spelled : ℕ → List ℕ → List ℕ
unfolding bytes
spelled width [] = []
spelled width (x ∷ xs) = bytes width x ++ spelled width xs

-- the bytes of sections
unfoldable pub written : List Section → List ℕ
unfolding spelled
written [] = []
written (x ∷ xs) = spelled x.width x.numbers ++ written xs

-- the block that a section fills
abbrev pub filled : Section → Block
filled x = block_of x.width (length x.numbers)

unfoldable pub blocks_of : List Section → List Block
blocks_of [] = []
blocks_of (x ∷ xs) = filled x ∷ blocks_of xs

-- blocks with lists of numbers, one for each
unfoldable pub sections_of : List Block → List (List ℕ) → List Section
sections_of [] lists = []
sections_of (x ∷ xs) [] = section_of x.width [] ∷ sections_of xs []
sections_of (x ∷ xs) (l ∷ lists) = section_of x.width l ∷ sections_of xs lists

-- section number i, and an empty one past the last
unfoldable pub section : List Section → ℕ → Section
section [] i = record { width = 0; numbers = [] }
section (x ∷ xs) zero = x
section (x ∷ xs) (suc i) = section xs i

-- the sections that blocks hold in a file, from a place on
unfoldable pub sections_in : List Block → List ℕ → ℕ → List Section
unfolding numbers
sections_in [] file at = []
sections_in (x ∷ xs) file at = section_of x.width (numbers x file at) ∷ sections_in xs file (at + x.width * x.count)
