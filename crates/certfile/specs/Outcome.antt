-- What reading a file answers, in document 01's numbers.
use Rattle.std.specs.Prelude.{ℕ, Result, Ok, Err}
use Rattle.model.specs.declared.answers.Fault.{Fault}
use Rattle.model.specs.Answers.{code}
use Rattle.certfile.specs.declared.Header.{Header}

-- what the file says before its tables, or the number and the place of a refusal
pub data Outcome : Type 0 where
  Read : Header → Outcome
  Refused : ℕ → ℕ → Outcome

abbrev pub outcome_in : Result Header Fault → Outcome
outcome_in (Ok h) = Read h
outcome_in (Err f) = Refused (code f.refusal) f.place
