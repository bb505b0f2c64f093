-- `conditions::judge_target` meets its contract. Assumes nothing.
use Rattle.std.proofs.Common.{rules, ◌≡◌, sym, ◌∙◌}
use Rattle.model.specs.Answers.{held, broken}
use Rattle.conditions.proofs.State.{target_met, target_broken}
use Rattle.conditions.proofs.judge_target.Goals as goal

pub returns-in_err-unless : goal.returns-in_err-unless
returns-in_err-unless c =
    let r : held c.from_residual.result ≡ broken c.in_err-unless.field-0.0 = search rules in
    r ∙ target_broken _ _ _ c.target_claim-met.ensures _ c.in_err-unless.ensures

pub returns : goal.returns
returns c = c.ranked.ensures ∙ sym (target_met _ _ _ c.target_claim-met.ensures c.in_ok-unless.ensures)
