-- What `checker::check` promises goes into the list, which has the length that is asked.
use Rattle.std.proofs.Common.{rules}
use Rattle.vartrymoy.proofs.Judged.{answered}
use Rattle.vartrymoy.proofs.vartrymoy_check.Goals as goal

pub returns : goal.returns
returns c = answered _ _ _ _ _ (search rules) _ _ _ _ c.check.ensures c.put.ensures.number c.put.ensures.answer
