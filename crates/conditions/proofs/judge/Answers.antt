-- `conditions::judge` meets its contract: the states below s meet their conditions, and their choices stand in the room.
-- Assumes nothing.
use Rattle.std.proofs.Common.{ℕ, ap, ◌∙◌}
use Rattle.std.proofs.lemmas.Result.{err_from_is_err_and}
use Rattle.model.specs.declared.answers.Verdict.TheVariants.{Accepted}
use Rattle.conditions.proofs.Standing.{read_walkable, read_judged}
use Rattle.conditions.proofs.States.{go_start, go_pass, go_stop, go_end}
use Rattle.conditions.proofs.judge.Goals as goal

pub loop-s-init : goal.loop-s-init
loop-s-init c = go_start _ _ _ _ c.requires.marks_in_bounds

pub judge_state-requires : goal.judge_state-requires
judge_state-requires c =
    read_walkable _ _ _ _ _ _ c.number_at.ensures c.number_at-in-loop-s.ensures c.requires.ready c.loop-s-test.true

-- the state is judged as the definition judges it
pub returns-in_err-room : goal.returns-in_err-room
returns-in_err-room c =
    let p = err_from_is_err_and c.from_residual.result c.from_residual.ensures.1 in
    let j = read_judged _ _ _ _ _ _ c.number_at.ensures c.number_at-in-loop-s.ensures c.in_err-room.ensures in
    rw (p.1, p.2) (go_stop c.loop-s.invariant c.loop-s-test.true _ j)

pub loop-s-preserved : goal.loop-s-preserved
loop-s-preserved c =
    go_pass c.loop-s.invariant c.loop-s-test.true
    (read_judged _ _ _ _ _ _ c.number_at.ensures c.number_at-in-loop-s.ensures c.in_ok-room.ensures)

pub returns : goal.returns
returns c =
    let r = go_end c.loop-s.invariant c.loop-s-test.false in
    (ap (λ (x : ℕ). Accepted x) c.greatest_rank.ensures ∙ r.0, r.1)
