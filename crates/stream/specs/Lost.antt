-- What reads take from an input.
use Rattle.std.specs.Prelude.{ℕ, List, Option}
use Rattle.std.specs.Io.KnownBytes.{Consumes}

-- the known bytes lose some at their front
abbrev pub Loses : Option (List ℕ) → Option (List ℕ) → Type 0
Loses old new = (gone : List ℕ) × Consumes old new gone
