-- The file that sized tables make has the blocks that its header announces, and so its length. Assumes nothing.
use mathlib.Core.Path.{◌≡◌, ap, ◌∙◌}
use mathlib.Core.List.{[], ◌∷◌}
use Prim.Native.Nat.{ℕ, ◌+◌}
use native.Mathlib.Omega.{arith}
use lib.ListN.{length}
use Rattle.model.specs.Kinds.{kind_of}
use Rattle.model.specs.Tables.{Model, Claim, states, actions, branches}
use Rattle.model.specs.WellFormed.{Sized}
use Rattle.wire.specs.Blocks.{block_of, size}
use Rattle.wire.specs.Sections.{sections_of, blocks_of}
use Rattle.wire.proofs.Spelled.{written_length}
use Rattle.certfile.specs.File.{announced, blocks}
use Rattle.writer.specs.File.{header_for, sections, file_of}

module _ (kind : ℕ) (t : Model) (u : Claim) (chosen : ℕ) (s : Sized (kind_of kind) t u chosen) where
  starts : length t.branch_starts ≡ actions t + 1
  starts = omega (arith, s.table3_least)

  pub blocks_filled : blocks_of (sections (header_for kind t u) t u) ≡ blocks (header_for kind t u)
  unfolding sections sections_of blocks_of blocks announced
  blocks_filled =
      λ i.
      block_of 4 1
      ∷ block_of 1 1
      ∷ block_of 1 1
      ∷ block_of 4 5
      ∷ block_of 1 (states t)
      ∷ block_of 4 (s.table2 i)
      ∷ block_of 4 (starts i)
      ∷ block_of 4 (branches t)
      ∷ block_of 4 (s.table5 i)
      ∷ block_of 4 (s.table6 i)
      ∷ block_of 8 (s.table7 i)
      ∷ block_of 4 (s.table8 i)
      ∷ []

  pub file_length : length (file_of kind t u) ≡ size (blocks (header_for kind t u))
  unfolding file_of
  file_length = written_length (sections (header_for kind t u) t u) ∙ ap size blocks_filled
