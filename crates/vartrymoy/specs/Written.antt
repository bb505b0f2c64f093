-- What writing a file answers as exported: a number, two numbers in a list, and the buffer.
use Rattle.std.specs.Prelude.{ℕ, ◌≡◌, cond, List, eqb, length}
use Rattle.model.specs.Tables.{Model, Claim}
use Rattle.writer.specs.File.{file_of, written_of, buffer_of}
use Rattle.results.specs.Lists.{written_or, pair_of}

-- the writer as exported: a result list that is not 2 long is 5, after the writer's refusals, and then nothing is written
pub record FileWrittenInto
    (kind : ℕ)
    (t : Model)
    (u : Claim)
    (before result-before : List ℕ)
    (r : ℕ)
    (after result-after : List ℕ)
    : Type 0 where
  pub number : r ≡ written_or (cond (eqb (length result-before) 2) 0 5) (written_of kind t u (length before))
  pub result : result-after ≡ cond (eqb (length result-before) 2) (pair_of (written_of kind t u (length before))) result-before
  pub buffer : after ≡
      cond (eqb (length result-before) 2) (buffer_of (written_of kind t u (length before)) (file_of kind t u) before) before
