-- `rows::walk_test` meets its contract: the actions below a are right. Assumes nothing.
use Rattle.model.specs.Tables.{model_in, actions}
use Rattle.model.specs.Answers.{pass}
use Rattle.model.specs.Refusals.{action_test, walk_test}
use Rattle.model.proofs.Tried.{Trying}
use Rattle.rows.proofs.walk_test.Given as goal

abbrev pub invariant-loop-a : goal.invariant-loop-a
invariant-loop-a l = Trying (action_test (model_in l.t)) (actions (model_in l.t)) pass (walk_test (model_in l.t)) l.a
