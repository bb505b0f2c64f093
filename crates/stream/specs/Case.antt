-- What an input has at its front: a case, which is a head of four bytes that counts the bytes after it, or its end.
use Rattle.std.specs.Prelude.{◌≡◌, ℕ, ◌-◌, ◌≤◌, ◌<◌, min, List, length, Option}
use Rattle.std.specs.Io.KnownBytes.{Consumes, IsAtEnd}
use Rattle.wire.specs.Words.{word}

-- the known bytes lose these at their front, so many, or fewer where nothing is left then
abbrev pub Gives : Option (List ℕ) → Option (List ℕ) → ℕ → List ℕ → Type 0
Gives old new count bytes = Consumes old new bytes × (length bytes ≤ count) × (length bytes < count → IsAtEnd new)

abbrev pub GivesSome : Option (List ℕ) → Option (List ℕ) → ℕ → Type 0
GivesSome old new count = (bytes : List ℕ) × Gives old new count bytes

-- a head comes, then these bytes of the case, as many as it announces and there is room for, and the rest of it is dropped
pub record IsCase (old new : Option (List ℕ)) (room : ℕ) (bytes : List ℕ) : Type 0 where
  pub head : List ℕ
  pub headed : Option (List ℕ)
  pub kept : Option (List ℕ)
  pub heads : Gives old headed 4 head
  pub whole : length head ≡ 4
  pub gives : Gives headed kept (min (word 4 head 0) room) bytes
  pub drops : GivesSome kept new (word 4 head 0 - room)

-- fewer than four bytes are left, and go
abbrev pub IsEnd : Option (List ℕ) → Option (List ℕ) → Type 0
IsEnd old new = (head : List ℕ) × Gives old new 4 head × (length head < 4)
