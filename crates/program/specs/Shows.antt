-- Bytes that stand at the beginning of a text, the room that checking takes, and what checking and printing promise.
use Rattle.std.specs.Prelude.{ℕ, ◌+◌, ◌*◌, ◌≤◌, ◌≡◌, List, ◌++◌, length, take, drop}
use Rattle.model.specs.declared.answers.Verdict.TheVariants.{Accepted, Refused}
use Rattle.model.specs.Answers.{number, then}
use Rattle.model.specs.Kinds.{kind_of}
use Rattle.soundness.specs.Demand3.{Holds}
use Rattle.certfile.specs.declared.Header.{Header}
use Rattle.certfile.specs.Outcome.{Outcome, Read}
use Rattle.certfile.specs.Tables.{Tables}
use Rattle.certfile.specs.Contents.{model_in, claim_in}
use Rattle.program.specs.declared.Told.{Told}
use Rattle.program.specs.Printed.{refusal_in, verdict_in, read_text, choices_in, chosen_in, filled_by}

pub record Shows (bytes : List ℕ) (r : ℕ) (before after : List ℕ) : Type 0 where
  pub length : r ≡ length bytes
  pub text : after ≡ bytes ++ drop r before

-- a choice list has room for a choice of each state, and a text for what may be printed of them
pub record Long (states : ℕ) (list text : List ℕ) : Type 0 where
  pub choices : states ≤ length list
  pub printed : 64 + 32 * states ≤ length text

-- nothing was printed over what reading answered: the number of the refusal, or 5, and the tables
pub record Unprinted (o : Outcome) (file : List ℕ) (before : Tables) (r : ℕ) (after : Tables) : Type 0 where
  pub number : r ≡ number (then (refusal_in o file) (Refused 5 0))
  pub tables : after ≡ filled_by o file before

-- it was checked and printed: the number, the text, the tables, the choice list, and demand 3 of what is accepted
pub record Answered
    (o : Outcome)
    (file : List ℕ)
    (before : Tables)
    (list text : List ℕ)
    (r : Told)
    (after : Tables)
    (list' text' : List ℕ)
    : Type 0 where
  pub number : r.number ≡ number (verdict_in o file list)
  pub shows : Shows (read_text o file list) r.bytes text text'
  pub tables : after ≡ filled_by o file before
  pub choices : list' ≡ choices_in o file list
  pub sound : (h : Header) (R : ℕ) → o ≡ Read h → verdict_in o file list ≡ Accepted R
      → Holds (kind_of h.kind) (model_in h file) (claim_in h file) R (take (chosen_in h) list')
