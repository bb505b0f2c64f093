-- What `number_or` answers, and what the lists take, in terms of what a file that is read or written answers. Assumes nothing.
use Rattle.std.specs.Prelude.{ℕ, ◌≡◌, Result, Ok, Err}
use mathlib.Core.Path.{refl, ap, ◌∙◌}
use Rattle.model.specs.declared.answers.Fault.{Fault}
use Rattle.certfile.specs.declared.Header.{Header}
use Rattle.certfile.specs.Outcome.{outcome_in}
use Rattle.writer.specs.Written.{written_in}
use Rattle.results.specs.declared.Numbered.{Numbered}
use Rattle.results.specs.Lists.{numbered, read_by, written_by, refusal_or, number_or, written_or}

-- whatever number a refusal has
module _ {E : Type 0} (told : E → Numbered) where
  pub any_read : (n : ℕ) (r : Result Header E) → refusal_or told n r ≡ number_or n (read_by told r)
  unfolding number_or
  any_read n (Ok h) = refl
  any_read n (Err e) = refl

  pub any_written : (n : ℕ) (r : Result ℕ E) → refusal_or told n r ≡ written_or n (written_by told r)
  unfolding written_or
  any_written n (Ok bytes) = refl
  any_written n (Err e) = refl

-- of what `certfile` and `writer` answer
pub read_fault : (r : Result Header Fault) → read_by numbered r ≡ outcome_in r
read_fault (Ok h) = refl
read_fault (Err f) = refl

pub written_fault : (r : Result ℕ Fault) → written_by numbered r ≡ written_in r
written_fault (Ok bytes) = refl
written_fault (Err f) = refl

pub refusal_read : (n : ℕ) (r : Result Header Fault) → refusal_or numbered n r ≡ number_or n (outcome_in r)
refusal_read n r = any_read numbered n r ∙ ap (number_or n) (read_fault r)

pub refusal_written : (n : ℕ) (r : Result ℕ Fault) → refusal_or numbered n r ≡ written_or n (written_in r)
refusal_written n r = any_written numbered n r ∙ ap (written_or n) (written_fault r)
