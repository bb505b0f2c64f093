-- Bytes put into a text that keeps its place.
use Rattle.std.specs.Prelude.{ℕ, ◌≡◌, List, length}
use Rattle.walk.specs.Put.{Put}
use Rattle.report.specs.declared.Text.{Text}

-- the same lent bytes afterwards, as many as before
abbrev pub Same : Text → Text → Type 0
Same before after = (after.bytes.ghost_name ≡ before.bytes.ghost_name) × (length after.bytes.now ≡ length before.bytes.now)

-- the text afterwards, which goes on after the bytes
abbrev pub Puts : Text → Text → List ℕ → Type 0
Puts before after bytes = Put before.bytes.now after.bytes.now before.at after.at bytes
