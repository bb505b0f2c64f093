-- What writing a file answers, in document 01's numbers.
use Rattle.std.specs.Prelude.{ℕ, Result, Ok, Err}
use Rattle.model.specs.declared.answers.Fault.{Fault}
use Rattle.model.specs.Answers.{code}

-- the bytes of the file, or the number and the place of a refusal
pub data Written : Type 0 where
  Length : ℕ → Written
  Refused : ℕ → ℕ → Written

abbrev pub written_in : Result ℕ Fault → Written
written_in (Ok bytes) = Length bytes
written_in (Err f) = Refused (code f.refusal) f.place
