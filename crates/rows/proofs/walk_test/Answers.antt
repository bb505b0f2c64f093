-- `rows::walk_test` meets its contract: the actions below a are right. Assumes nothing.
use Rattle.std.proofs.Common.{rules, ◌≡◌, ◌∙◌}
use Prim.Native.Nat.{zero-le}
use Rattle.model.specs.Tables.{model_in, actions}
use Rattle.model.specs.Answers.{pass, tested, given}
use Rattle.model.specs.Refusals.{action_test, walk_test}
use Rattle.model.proofs.Searched.{ok_goes, err_stops}
use Rattle.model.proofs.Tried.{try_start, try_pass, try_stop, try_end}
use Rattle.rows.proofs.walk_test.Goals as goal

pub loop-a-init : goal.loop-a-init
unfolding walk_test
loop-a-init c = try_start (action_test (model_in c.args.t.now)) 0 (actions (model_in c.args.t.now)) pass zero-le

pub returns-in_err-action_test : goal.returns-in_err-action_test
returns-in_err-action_test c =
    let r : tested c.from_residual.result ≡ given c.in_err-action_test.field-0.0 = search rules in
    r ∙ c.in_err-action_test.ensures ∙ try_stop c.loop-a.invariant c.loop-a-test.true (err_stops _ c.in_err-action_test.ensures)

pub loop-a-preserved : goal.loop-a-preserved
loop-a-preserved c = try_pass c.loop-a.invariant c.loop-a-test.true (ok_goes c.in_ok-action_test.ensures)

pub returns : goal.returns
returns c = try_end c.loop-a.invariant c.loop-a-test.false
