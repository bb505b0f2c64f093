-- Bytes put into a text from a place on.
use Rattle.std.specs.Prelude.{ℕ, ◌+◌, ◌≡◌, List, length}
use Rattle.std.proofs.lemmas.List.Edits.{sets}

-- the text afterwards, with the place after the last byte
pub record Put (before after : List ℕ) (at end : ℕ) (bytes : List ℕ) : Type 0 where
  pub next : end ≡ at + length bytes
  pub text : after ≡ sets before at bytes
