-- What was read and then cut is what the file holds. Assumes nothing.
use mathlib.Core.Path.{◌≡◌, refl}
use mathlib.Core.List.{List}
use Prim.Native.Nat.{ℕ, ◌-◌}
use lib.ListN.{take, drop}
use lib.Seq.{take_at}
use Rattle.model.specs.Tables.{model_of, claim_of}
use Rattle.wire.specs.Blocks.{block, numbers, overwritten}
use Rattle.wire.proofs.RoundTrip.{numbers_length}
use Rattle.certfile.specs.declared.Header.{Header}
use Rattle.certfile.specs.Outcome.{Outcome, Read}
use Rattle.certfile.specs.File.{announced, table_of}
use Rattle.certfile.specs.Layout.{table_place}
use Rattle.certfile.specs.Tables.{Tables, ReadInto}
use Rattle.certfile.specs.Contents.{table_in, model_in, claim_in, cut, model_cut, claim_cut}

-- a table that is cut
pub cut_is : (h : Header) (i : ℕ) (table : List ℕ) → cut h i table ≡ take (block (announced h) (i - 1)).count table
unfolding cut
cut_is h i table = refl

-- and one that was read before
pub cut_read : (h : Header) (i : ℕ) (file table : List ℕ) → cut h i (table_of (Read h) i file table) ≡ table_in h file i
unfolding cut table_of table_in overwritten table_place
cut_read h i file table =
    let x = block (announced h) (i - 1) in
    take_at (numbers x file (table_place h (i - 1))) (drop x.count table) x.count (numbers_length x file (table_place h (i - 1)))

module _ (o : Outcome) (file : List ℕ) (t u : Tables) (w : ReadInto o file t u) (h : Header) (e : o ≡ Read h) where
  one : (i : ℕ) (x y : List ℕ) → x ≡ table_of o i file y → cut h i x ≡ table_in h file i
  one i x y p = rw (p, e) (cut_read h i file y)

  pub model_read : model_cut h u ≡ model_in h file
  model_read =
      λ j. model_of h.d (one 1 _ _ w.marks j) (one 2 _ _ w.action_starts j) (one 3 _ _ w.branch_starts j)
      (one 4 _ _ w.destinations j) (one 5 _ _ w.weights j)

  pub claim_read : claim_cut h u ≡ claim_in h file
  claim_read = λ j. claim_of h.c (one 6 _ _ w.costs j) (one 7 _ _ w.claims j) (one 8 _ _ w.ranks j)
