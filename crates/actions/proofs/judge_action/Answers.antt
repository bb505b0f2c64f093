-- `actions::judge_action` meets its contract: the numbers that it compares are those of the definition. Assumes nothing.
use mathlib.Core.Path.{◌∙◌}
use borrow.Author.Tests.{lt-ltb, le-ltb}
use Rattle.actions.proofs.Action.{keeps_unasked, keeps_asked}
use Rattle.actions.proofs.judge_action.Goals as goal

pub returns-then-swept-state : goal.returns-then-swept-state
returns-then-swept-state c =
    let s = c.sweep-swept in
    let k = keeps_asked c.requires.walkable c.args.a s.ensures.sum_value c.requires.inside s.ensures.least_value in
    rw c.if-asked.true (c.suits.ensures ∙ rw (lt-ltb s.result.least c.args.state.rank c.if-swept-state.true) at k)

pub returns-else-swept-state : goal.returns-else-swept-state
returns-else-swept-state c =
    let s = c.sweep-swept in
    let k = keeps_asked c.requires.walkable c.args.a s.ensures.sum_value c.requires.inside s.ensures.least_value in
    let e = le-ltb s.result.least c.args.state.rank c.if-swept-state.false in
    rw (c.if-asked.true, e) (rw e at k)

pub returns-else-asked : goal.returns-else-asked
returns-else-asked c = rw c.if-asked.false (c.suits-else-asked.ensures ∙ keeps_unasked c.requires.walkable c.args.a c.weighted.ensures)
