-- `rows::action_test` meets its contract: the branches below j are right, and total is the sum of their weights.
-- Assumes nothing.
use Rattle.model.specs.Tables.{model_in}
use Rattle.rows.proofs.Counting.{Counting}
use Rattle.rows.proofs.action_test.Given as goal

abbrev pub invariant-loop-j : goal.invariant-loop-j
invariant-loop-j l = Counting (model_in l.t) l.a l.total l.j
