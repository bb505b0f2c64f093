-- The eight lent tables, the room that they have, and what each holds after a file was read.
use Rattle.std.specs.Prelude.{ℕ, ◌≤◌, ◌≡◌, List, [], ◌∷◌, length, get_or}
use Rattle.wire.specs.Blocks.{block}
use Rattle.certfile.specs.declared.Header.{Header}
use Rattle.certfile.specs.declared.lent.Lent.{Lent}
use Rattle.certfile.specs.Outcome.{Outcome}
use Rattle.certfile.specs.File.{announced, outcome_of, table_of}

pub record Tables : Type 0 where
  pub marks : List ℕ
  pub action_starts : List ℕ
  pub branch_starts : List ℕ
  pub destinations : List ℕ
  pub weights : List ℕ
  pub costs : List ℕ
  pub claims : List ℕ
  pub ranks : List ℕ

abbrev pub tables : (a b c d e f g h : List ℕ) → Tables
tables a b c d e f g h =
    record {
      marks = a;
      action_starts = b;
      branch_starts = c;
      destinations = d;
      weights = e;
      costs = f;
      claims = g;
      ranks = h;
    }

-- what lent tables hold
abbrev pub tables_in : Lent → Tables
tables_in x =
    tables x.marks.now x.action_starts.now x.branch_starts.now x.destinations.now x.weights.now x.costs.now x.claims.now x.ranks.now

-- the lender's own tables are still those that are lent
pub record SameTables (before after : Lent) : Type 0 where
  pub marks : after.marks.ghost_name ≡ before.marks.ghost_name
  pub action_starts : after.action_starts.ghost_name ≡ before.action_starts.ghost_name
  pub branch_starts : after.branch_starts.ghost_name ≡ before.branch_starts.ghost_name
  pub destinations : after.destinations.ghost_name ≡ before.destinations.ghost_name
  pub weights : after.weights.ghost_name ≡ before.weights.ghost_name
  pub costs : after.costs.ghost_name ≡ before.costs.ghost_name
  pub claims : after.claims.ghost_name ≡ before.claims.ghost_name
  pub ranks : after.ranks.ghost_name ≡ before.ranks.ghost_name

-- the lengths that are lent
abbrev pub lent : Tables → List ℕ
lent t =
    length t.marks
    ∷ length t.action_starts
    ∷ length t.branch_starts
    ∷ length t.destinations
    ∷ length t.weights
    ∷ length t.costs
    ∷ length t.claims
    ∷ length t.ranks
    ∷ []

-- each lent table has room for its block
abbrev pub Roomy : Header → List ℕ → Type 0
Roomy h lent = (i : ℕ) → (block (announced h) i).count ≤ get_or lent i 0

-- what was answered, and each table by its number, after a file was read
pub record ReadInto (r : Outcome) (file : List ℕ) (before after : Tables) : Type 0 where
  pub answer : r ≡ outcome_of (lent before) file
  pub marks : after.marks ≡ table_of r 1 file before.marks
  pub action_starts : after.action_starts ≡ table_of r 2 file before.action_starts
  pub branch_starts : after.branch_starts ≡ table_of r 3 file before.branch_starts
  pub destinations : after.destinations ≡ table_of r 4 file before.destinations
  pub weights : after.weights ≡ table_of r 5 file before.weights
  pub costs : after.costs ≡ table_of r 6 file before.costs
  pub claims : after.claims ≡ table_of r 7 file before.claims
  pub ranks : after.ranks ≡ table_of r 8 file before.ranks
