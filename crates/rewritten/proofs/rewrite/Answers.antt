-- `rewritten::rewrite` meets its contract: what is written lies within the buffer. Assumes nothing.
use Rattle.std.proofs.Common.{◌≡◌, ◌≤◌, ℕ, List, Result, Ok, Err, IfOk, length, sym}
use native.Mathlib.Omega.{arith}
use Rattle.model.specs.declared.answers.Fault.{Fault}
use Rattle.model.specs.Tables.{Model, Claim}
use Rattle.writer.specs.File.{written_of}
use Rattle.writer.specs.Written.{written_in}
use Rattle.writer.proofs.Judged.{length_told}
use Rattle.rewritten.proofs.rewrite.Goals as goal

within : (kind : ℕ) (t : Model) (u : Claim) (before after : List ℕ) → length after ≡ length before → (r : Result ℕ Fault)
    → written_in r ≡ written_of kind t u (length before)
    → IfOk r (λ n. n ≤ length after)
within kind t u before after same (Ok n) e =
    let l = length_told kind t u (length before) n (sym e) in
    omega (arith, l.1, l.2, same)
within kind t u before after same (Err f) e = tt

pub returns : goal.returns
returns c = within _ _ _ _ c.write.new.buffer c.write.auto.buffer _ c.write.ensures.answer
