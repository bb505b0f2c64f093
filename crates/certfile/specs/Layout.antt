-- A number for each table: the entries that a header announces, the places of the tables, the lengths that are lent. A file has eight.
use Rattle.std.specs.Prelude.{ℕ, ◌+◌, ◌≤◌, List, [], ◌∷◌}
use Rattle.model.specs.declared.tables.Lengths.{Lengths}
use Rattle.wire.specs.Blocks.{size, place, block}
use Rattle.certfile.specs.declared.Header.{Header}
use Rattle.certfile.specs.File.{header_blocks, announced}

-- one number for each table, counted from 0: the ninth, the choice list, is not there, and has the place where the file ends
abbrev pub for_each : (ℕ → ℕ) → Lengths
for_each f =
    record {
      marks = f 0;
      action_starts = f 1;
      branch_starts = f 2;
      destinations = f 3;
      weights = f 4;
      costs = f 5;
      claims = f 6;
      ranks = f 7;
      choices = f 8;
    }

-- those of the eight tables of a file
abbrev pub listed : Lengths → List ℕ
listed x =
    x.marks
    ∷ x.action_starts
    ∷ x.branch_starts
    ∷ x.destinations
    ∷ x.weights
    ∷ x.costs
    ∷ x.claims
    ∷ x.ranks
    ∷ []

-- none of a file's tables is over 2^32, so no sum of them wraps
pub record Small (x : Lengths) : Type 0 where
  pub marks : x.marks ≤ 4294967296
  pub action_starts : x.action_starts ≤ 4294967296
  pub branch_starts : x.branch_starts ≤ 4294967296
  pub destinations : x.destinations ≤ 4294967296
  pub weights : x.weights ≤ 4294967296
  pub costs : x.costs ≤ 4294967296
  pub claims : x.claims ≤ 4294967296
  pub ranks : x.ranks ≤ 4294967296

-- where table number i begins in the file, counted from 0
unfoldable pub table_place : Header → ℕ → ℕ
unfolding size place announced
table_place h i = size header_blocks + place (announced h) i

abbrev pub counts_of : Header → Lengths
counts_of h = for_each (λ i. (block (announced h) i).count)

abbrev pub places_of : Header → Lengths
places_of h = for_each (table_place h)
