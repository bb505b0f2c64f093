-- What answering a file says as exported: a number, the printed text, two numbers in a list, the choice list and the tables.
use Rattle.std.specs.Prelude.{ℕ, ◌≡◌, Bool, true, cond, List, [], ◌∷◌, ◌++◌, length, take, drop}
use Rattle.model.specs.declared.answers.Verdict.TheVariants.{Accepted, Refused}
use Rattle.model.specs.Answers.{number, then}
use Rattle.model.specs.Kinds.{kind_of}
use Rattle.soundness.specs.Demand3.{Holds}
use Rattle.certfile.specs.declared.Header.{Header}
use Rattle.certfile.specs.Outcome.{Outcome, Read}
use Rattle.certfile.specs.Tables.{Tables, lent}
use Rattle.certfile.specs.Contents.{model_in, claim_in}
use Rattle.program.specs.Printed.{most_file, loaded_of, refusal_in, verdict_in, read_text, choices_in, chosen_in, filled_by}

-- what reading answers: no file is longer than the most that any file can have
abbrev pub loaded : Tables → List ℕ → Outcome
loaded before file = loaded_of most_file (lent before) file

-- the answer as exported: where a list is not right that is 5, after every refusal over the file and its tables, and text, choice list
-- and result list are left alone
pub record FileAnsweredInto
    (right : Bool)
    (o : Outcome)
    (file : List ℕ)
    (before : Tables)
    (list text result : List ℕ)
    (r : ℕ)
    (after : Tables)
    (list' text' result' : List ℕ)
    : Type 0 where
  pub answer : r ≡ cond right (number (verdict_in o file list)) (number (then (refusal_in o file) (Refused 5 0)))
  pub printed : text' ≡ cond right (read_text o file list ++ drop (length (read_text o file list)) text) text
  pub told : result' ≡ cond right (number (verdict_in o file list) ∷ length (read_text o file list) ∷ []) result
  pub choices : list' ≡ cond right (choices_in o file list) list
  pub tables : after ≡ filled_by o file before
  pub sound : right ≡ true → (h : Header) (R : ℕ) → o ≡ Read h → verdict_in o file list ≡ Accepted R
      → Holds (kind_of h.kind) (model_in h file) (claim_in h file) R (take (chosen_in h) list')
