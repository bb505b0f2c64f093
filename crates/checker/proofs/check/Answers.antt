-- `checker::check` meets its contract: judged as its kind is, or 1. Assumes nothing.
use Rattle.std.proofs.Common.{rules, refl, ◌≡◌}
use Rattle.model.specs.Answers.{given}
use Rattle.checker.proofs.Whole.{known_kept, unknown_kept}
use Rattle.checker.proofs.check.Goals as goal

pub returns-in-Ok : goal.returns-in-Ok
returns-in-Ok c = known_kept _ _ _ _ _ _ c.in-Ok.ensures _ c.check_kind-verdict.ensures.0 c.check_kind-verdict.ensures.1

pub returns-in-Err : goal.returns-in-Err
returns-in-Err c =
    let r : c.into-verdict.result ≡ given c.in-Err.fault = search rules in
    unknown_kept _ _ _ _ _ _ c.in-Err.ensures _ r refl
