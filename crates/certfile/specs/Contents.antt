-- The model and the claim that a file holds, and those that stand at the front of tables it was read into.
use Rattle.std.specs.Prelude.{ℕ, ◌-◌, List, take}
use Rattle.model.specs.Tables.{Model, Claim, model_of, claim_of}
use Rattle.wire.specs.Blocks.{block, numbers}
use Rattle.certfile.specs.declared.Header.{Header}
use Rattle.certfile.specs.File.{announced}
use Rattle.certfile.specs.Layout.{table_place}
use Rattle.certfile.specs.Tables.{Tables}

-- table number i of a file, as its header announces it
unfoldable pub table_in : Header → List ℕ → ℕ → List ℕ
unfolding numbers block announced table_place
table_in h file i = numbers (block (announced h) (i - 1)) file (table_place h (i - 1))

abbrev pub model_in : Header → List ℕ → Model
model_in h file = model_of h.d (table_in h file 1) (table_in h file 2) (table_in h file 3) (table_in h file 4) (table_in h file 5)

abbrev pub claim_in : Header → List ℕ → Claim
claim_in h file = claim_of h.c (table_in h file 6) (table_in h file 7) (table_in h file 8)

-- the first entries of a table, as many as its block has, and the tables so cut
unfoldable pub cut : Header → ℕ → List ℕ → List ℕ
unfolding block announced
cut h i table = take (block (announced h) (i - 1)).count table

abbrev pub model_cut : Header → Tables → Model
model_cut h t =
    model_of h.d
    (cut h 1 t.marks)
    (cut h 2 t.action_starts)
    (cut h 3 t.branch_starts)
    (cut h 4 t.destinations)
    (cut h 5 t.weights)

abbrev pub claim_cut : Header → Tables → Claim
claim_cut h t = claim_of h.c (cut h 6 t.costs) (cut h 7 t.claims) (cut h 8 t.ranks)
