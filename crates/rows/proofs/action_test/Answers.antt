-- `rows::action_test` meets its contract: the branches below j are right, and total is the sum of their weights.
-- Assumes nothing.
use Rattle.std.proofs.Common.{rules, tests, ◌≡◌, ◌∙◌, ap}
use Rattle.model.specs.Tables.{model_in, weight}
use Rattle.model.specs.Answers.{tested, given, require}
use Rattle.model.specs.Refusals.{between}
use Rattle.rows.proofs.Counting.{count_start, count_pass, count_end, stop_nine, stop_ten}
use Rattle.rows.proofs.action_test.Goals as goal

pub loop-j-init : goal.loop-j-init
loop-j-init c = count_start (model_in c.args.t.now) c.args.a c.requires.walkable c.requires.inside

pub returns-in_err-unless : goal.returns-in_err-unless
returns-in_err-unless c =
    let r : tested c.from_residual.result ≡ given c.in_err-unless.field-0.0 = search rules in
    r ∙ stop_nine c.loop-j.invariant c.loop-j-test.true _ c.in_err-unless.ensures

pub returns-in_err-unless-2 : goal.returns-in_err-unless-2
returns-in_err-unless-2 c =
    let r : tested c.from_residual-in_err-unless-2.result ≡ given c.in_err-unless-2.field-0.0 = search rules in
    let b : c.if-weight-ge1.unless ≡ between 1 c.args.t.now.d (weight (model_in c.args.t.now) c.loop-j.j) = search (rules, tests) in
    r ∙ stop_ten c.loop-j.invariant c.loop-j-test.true c.in_ok-unless.ensures _ (c.in_err-unless-2.ensures ∙ ap (λ x. require x 10 c.loop-j.j) b)

pub loop-j-preserved : goal.loop-j-preserved
loop-j-preserved c =
    let b : c.if-weight-ge1.unless ≡ between 1 c.args.t.now.d (weight (model_in c.args.t.now) c.loop-j.j) = search (rules, tests) in
    count_pass c.loop-j.invariant c.loop-j-test.true c.in_ok-unless.ensures
    (c.in_ok-unless-2.ensures ∙ ap (λ x. require x 10 c.loop-j.j) b) (search rules)

pub returns : goal.returns
returns c = c.unless-2.ensures ∙ count_end c.loop-j.invariant c.loop-j-test.false
