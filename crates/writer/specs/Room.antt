-- What is asked where the header is put: it is in range, and there is room for it.
use Rattle.std.specs.Prelude.{ℕ, ◌≤◌, ◌<◌, ◌^◌, ◌≡◌, List, length}
use Rattle.wire.specs.Blocks.{size}
use Rattle.certfile.specs.declared.Header.{Header}
use Rattle.certfile.specs.File.{header_blocks, blocks}

-- the kind takes one byte and the length field four
pub record HeadRoom (h : Header) (bytes : ℕ) (file : List ℕ) : Type 0 where
  pub kind : h.kind < 256
  pub counted : bytes ≡ size (blocks h)
  pub most : bytes < 2 ^ 32
  pub room : size header_blocks ≤ length file
