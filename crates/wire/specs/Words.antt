-- Big-endian words: a number in so many bytes, the highest first.
use Rattle.std.specs.Prelude.{ℕ, zero, suc, ◌+◌, ◌*◌, ◌/◌, ◌%◌, ◌^◌, List, [], ◌∷◌, get_or}

-- the number in the width bytes of a file from a place on
unfoldable pub word : ℕ → List ℕ → ℕ → ℕ
word zero file at = 0
word (suc width) file at = get_or file at 0 * 256 ^ width + word width file (at + 1)

-- the bytes of a number, as many as the width
unfoldable pub bytes : ℕ → ℕ → List ℕ
bytes zero x = []
bytes (suc width) x = x / 256 ^ width % 256 ∷ bytes width x
