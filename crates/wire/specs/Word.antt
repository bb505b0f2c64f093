-- Laws of the numbers that stand in a file: a table of them is one of numbers, and the bytes of each are counted.
use Rattle.std.specs.Prelude.{◌≡◌, ℕ, zero, suc, List, [], ◌∷◌, ◌++◌, map, length}
use Rattle.std.proofs.Common.{ap, refl, sym}
use Rattle.std.proofs.lemmas.List.{map-id}
use Rattle.wire.specs.Words.{bytes}
use Rattle.wire.specs.Sections.{spelled}

pub each_itself : (xs : List ℕ) → xs ≡ map (λ x. x) xs
each_itself xs = sym (map-id xs)

pub bytes_length : (width x : ℕ) → length (bytes width x) ≡ width
unfolding bytes
bytes_length zero x = refl
bytes_length (suc width) x = ap suc (bytes_length width x)

pub spelled_none : (width : ℕ) → spelled width [] ≡ []
unfolding spelled
spelled_none width = refl

pub spelled_cons : (width x : ℕ) (xs : List ℕ) → spelled width (x ∷ xs) ≡ bytes width x ++ spelled width xs
unfolding spelled
spelled_cons width x xs = refl
