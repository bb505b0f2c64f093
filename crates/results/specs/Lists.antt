-- What the lists that take results hold afterwards, the numbers that stand for a file that is read or written, and the lists' lengths.
use Rattle.std.specs.Prelude.{ℕ, ◌+◌, ◌*◌, Bool, ◌&&◌, List, [], ◌∷◌, Result, Ok, Err, eqb, leb}
use Rattle.model.specs.declared.answers.Answer.{Answer}
use Rattle.model.specs.declared.answers.Fault.{Fault}
use Rattle.model.specs.Answers.{code, number, value, action}
use Rattle.certfile.specs.declared.Header.{Header}
use Rattle.certfile.specs.Outcome.{Outcome, Read, Refused}
use Rattle.writer.specs.Written.{Written, Length, Refused as Unwritten}
use Rattle.results.specs.declared.Numbered.{Numbered}

-- an answer in four numbers: number; R, place or state; action or none; kind
abbrev pub numbers_of : Answer → List ℕ
numbers_of r = number r.verdict ∷ value r.verdict ∷ action r.verdict ∷ r.kind ∷ []

-- one of document 01's refusals, by its number
abbrev pub numbered : Fault → Numbered
numbered f = record { number = code f.refusal; place = f.place }

-- what reading and writing answer, where a refusal has this number and this place
abbrev pub read_by : {E : Type 0} → (E → Numbered) → Result Header E → Outcome
read_by told (Ok h) = Read h
read_by told (Err e) = Refused (told e).number (told e).place

abbrev pub written_by : {E : Type 0} → (E → Numbered) → Result ℕ E → Written
written_by told (Ok bytes) = Length bytes
written_by told (Err e) = Unwritten (told e).number (told e).place

-- the number of a refusal, or this one where there is none
abbrev pub refusal_or : {A E : Type 0} → (E → Numbered) → ℕ → Result A E → ℕ
refusal_or told number (Ok x) = number
refusal_or told number (Err e) = (told e).number

-- the number of a refusal, or the one that stands for a file that is read
unfoldable pub number_or : ℕ → Outcome → ℕ
number_or read (Read h) = read
number_or read (Refused number place) = number

-- the header list afterwards: kind, D, C, n, m, b; a refusal leaves it as it was
unfoldable pub header_after : Outcome → List ℕ → List ℕ
header_after (Read h) before = h.kind ∷ h.d ∷ h.c ∷ h.n ∷ h.m ∷ h.b ∷ []
header_after (Refused number place) before = before

-- the number of a refusal, or the one that stands for a file that is written
unfoldable pub written_or : ℕ → Written → ℕ
written_or written (Length bytes) = written
written_or written (Unwritten number place) = number

-- the number, and then the length or the place
unfoldable pub pair_of : Written → List ℕ
pair_of (Length bytes) = 0 ∷ bytes ∷ []
pair_of (Unwritten number place) = number ∷ place ∷ []

-- the result list is 2 long, the choice list no shorter than the marks, and the text has room for what may be printed of so many states
abbrev pub lists_right : ℕ → ℕ → ℕ → ℕ → Bool
lists_right states choices text result = eqb result 2 && (leb states choices && leb (64 + 32 * states) text)
