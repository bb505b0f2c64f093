-- `conditions::judge_open` meets its contract: what the two searches find says which condition breaks first, or the choice.
-- Assumes nothing.
use Rattle.std.proofs.Common.{sym, ◌∙◌}
use Rattle.std.proofs.lemmas.Result.{err_from_is_err_and}
use Rattle.conditions.proofs.State.{fall_least, judged_ok, judged_err, open_met, open_picked, open_unsuited, open_unfallen}
use Rattle.conditions.proofs.judge_open.Goals.{then-is_some-some-2, else-is_some-some-2}
use Rattle.conditions.proofs.judge_open.Goals as goal

pub lowest-found-requires-clause-asked_at_least : goal.lowest-found-requires-clause-asked_at_least
lowest-found-requires-clause-asked_at_least c = λ e. fall_least _ _ (sym c.fall_asked-asked.ensures ∙ e)

pub returns-in_err-ranked : goal.returns-in_err-ranked
returns-in_err-ranked c =
    let p = err_from_is_err_and c.from_residual.result c.from_residual.ensures.1 in
    let m = open_met _ _ _ _ c.is_some-some.ensures _ c.lowest-found.ensures c.is_some.ensures c.fall_asked-asked.ensures c.if-is_some-some.true in
    rw (p.1, p.2) (judged_err _ (c.in_err-ranked.ensures ∙ sym m))

pub returns-then-is_some-some : goal.returns-then-is_some-some
returns-then-is_some-some c =
    let who = c.is_some-some.ensures in
    let f = c.fall_asked-asked.ensures in
    let m = open_met _ _ _ _ who _ c.lowest-found.ensures c.is_some.ensures f c.if-is_some-some.true in
    judged_ok (c.in_ok-ranked.ensures ∙ sym m)
    (c.unwrap_or.ensures ∙ open_picked _ _ _ _ who _ c.lowest-found.ensures c.is_some.ensures f c.if-is_some-some.true)

pub returns : goal.returns
returns c =
    let who = c.is_some-some.ensures in
    elim c.if-is_some-some-2.branch [
      | then-is_some-some-2 w ↦
          rw (c.unwrap_or-2.ensures, w.condition-is)
          (judged_err _
          (open_unfallen _ _ _ _ who c.lowest-suits.ensures c.is_some-2.ensures w.if-is_some-some-2.true _ c.fall_asked-asked.ensures
          c.lowest-found.ensures c.is_some.ensures c.if-is_some-some.false))
      | else-is_some-some-2 w ↦
          rw (c.unwrap_or-2.ensures, w.condition-is)
          (judged_err _ (open_unsuited _ _ _ _ who c.lowest-suits.ensures c.is_some-2.ensures w.if-is_some-some-2.false))
    ]
