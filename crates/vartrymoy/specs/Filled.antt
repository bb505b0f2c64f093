-- What reading a file answers as exported: a number, the header in a list of six, and the tables.
use Rattle.std.specs.Prelude.{ℕ, ◌≡◌, cond, List, eqb, length}
use Rattle.certfile.specs.File.{outcome_of}
use Rattle.certfile.specs.Tables.{Tables, lent, ReadInto}
use Rattle.results.specs.Lists.{number_or, header_after}

-- the reader as exported: a header list that is not 6 long is 5, after the reader's refusals, and then nothing is written
pub record FileReadInto (file header-before : List ℕ) (before : Tables) (r : ℕ) (header-after : List ℕ) (after : Tables) : Type 0 where
  pub result : r ≡ number_or (cond (eqb (length header-before) 6) 0 5) (outcome_of (lent before) file)
  pub header : header-after ≡ cond (eqb (length header-before) 6) (header_after (outcome_of (lent before) file) header-before) header-before
  pub filled : length header-before ≡ 6 → ReadInto (outcome_of (lent before) file) file before after
  pub untouched : (length header-before ≡ 6 → ⊥) → after ≡ before
