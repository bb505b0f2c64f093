-- What an input loses in one read after the other.
use Rattle.std.proofs.Common.{◌≡◌, ℕ, ◌+◌, List, ◌++◌, Option, length, length-append}
use Rattle.std.proofs.KnownBytes.{Consumes-trans}
use Rattle.std.specs.Io.KnownBytes.{Consumes}
use Rattle.stream.specs.Lost.{Loses}

pub lost_more : (a b c : Option (List ℕ)) (first second : List ℕ) → Consumes a b first → Consumes b c second
    → (all : List ℕ) × Consumes a c all × (length all ≡ length first + length second)
lost_more a b c first second p q = (first ++ second, Consumes-trans a b c first second p q, length-append first second)

pub loses_more : (a b c : Option (List ℕ)) → Loses a b → Loses b c → Loses a c
loses_more a b c (first, p) (second, q) = (first ++ second, Consumes-trans a b c first second p q)
