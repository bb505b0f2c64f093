-- `report::print` meets its contract: what is put at the beginning stands before what is left of the text. Assumes nothing.
use native.Mathlib.Omega.{arith}
use Rattle.std.proofs.Common.{rules}
use Rattle.walk.proofs.Putting.{put_whole}
use Rattle.report.proofs.print.Goals as goal

pub returns-clause-length : goal.returns-clause-length
returns-clause-length c = (put_whole c.all.ensures.put (omega (arith, c.requires, c.all.ensures.short))).0

pub returns-clause-text : goal.returns-clause-text
returns-clause-text c =
    let whole = put_whole c.all.ensures.put (omega (arith, c.requires, c.all.ensures.short)) in
    search (rules, whole.1)
