-- `program::unprinted` meets its contract: the refusal over the tables of a file that was read, or the reader's. Assumes nothing.
use Rattle.program.proofs.Taken.{number_read, number_refused}
use Rattle.program.proofs.unprinted.Goals as goal

pub returns-in-Ok-clause-unprinted : goal.returns-in-Ok-clause-unprinted
returns-in-Ok-clause-unprinted c =
    number_read _ _ _ _ c.in-Ok.ensures.filled _ c.in-Ok.ensures.answer _ _ _
    c.refusal.ensures (rw c.number.ensures at c.require.ensures) c.number-in-Ok.ensures

pub returns-in-Err-clause-unprinted : goal.returns-in-Err-clause-unprinted
returns-in-Err-clause-unprinted c =
    number_refused _ _ _ _ _ c.in-Err.ensures.filled _ c.in-Err.ensures.answer _ c.number-in-Err.ensures
