-- The most bytes that are taken: those of a file with all eight tables that fills the room, and no file is longer than the most of any.
-- Assumes nothing.
use mathlib.Core.Path.{◌≡◌, refl}
use mathlib.Core.Bool.{◌&&◌}
use mathlib.Core.List.{List, ◌++◌}
use Prim.Native.Nat.{ℕ, ◌≤◌}
use native.Mathlib.Omega.{arith}
use lib.Dec.{leb}
use lib.ListN.{length}
use borrow.Author.Tests.{leb-true, eqb-true}
use Rattle.model.specs.Kinds.{kind_of}
use Rattle.model.specs.Limits.{most_states, most_actions, most_branches}
use Rattle.model.proofs.Formed.{entries_most}
use Rattle.wire.specs.Blocks.{size}
use Rattle.certfile.specs.declared.Header.{Header}
use Rattle.certfile.specs.Outcome.{Read}
use Rattle.certfile.specs.File.{header_blocks, table_blocks, announced, blocks, roomy, counts_right, length_right, outcome_of}
use Rattle.certfile.proofs.Judged.{both_true}
use Rattle.certfile.proofs.Passed.{passed}
use Rattle.program.specs.Printed.{most_bytes, most_file}

pub room_most : size (header_blocks ++ table_blocks (kind_of 7) 500 1000 2000) ≡ most_bytes
unfolding size
room_most = refl

pub file_most : size (header_blocks ++ table_blocks (kind_of 7) most_states most_actions most_branches) ≡ most_file
unfolding size
file_most = refl

module _ (h : Header) where
  within : h.n ≤ most_states → h.m ≤ most_actions → h.b ≤ most_branches → size (blocks h) ≤ most_file
  unfolding size blocks announced
  within n m b = omega (arith, entries_most (kind_of h.kind).costs h.n, entries_most (kind_of h.kind).ranks h.n)

  -- over-long input is no file that would be read
  pub none_longer : (lent file : List ℕ) → outcome_of lent file ≡ Read h → length file ≤ most_file
  unfolding counts_right length_right
  none_longer lent file e =
      let p = passed lent file h e in
      let s = both_true (leb h.n most_states) (leb h.m most_actions && (leb h.b most_branches && roomy (announced h) lent)) p.counts in
      let a = both_true (leb h.m most_actions) (leb h.b most_branches && roomy (announced h) lent) s.1 in
      let b = both_true (leb h.b most_branches) (roomy (announced h) lent) a.1 in
      omega (
        arith,
        eqb-true (length file) (size (blocks h)) p.long,
        within (leb-true h.n most_states s.0) (leb-true h.m most_actions a.0) (leb-true h.b most_branches b.0),
      )
