-- `conditions::judge` meets its contract: the states below s meet their conditions, and their choices stand in the room.
-- Assumes nothing.
use Rattle.model.specs.Tables.{model_in, claim_in}
use Rattle.conditions.proofs.States.{Going}
use Rattle.conditions.proofs.judge.Given as goal

abbrev pub invariant-loop-s : goal.invariant-loop-s
invariant-loop-s l = Going l.kind (model_in l.t) (claim_in l.u) l.initial.room l.room l.s
