-- `report::Text::lines` meets its contract: one line after the other. Assumes nothing.
use mathlib.Core.Path.{◌∙◌}
use Rattle.report.specs.Text.{lines_of}
use Rattle.report.proofs.Listing.{list_pass, list_end}
use Rattle.report.proofs.Text.lines.Goals as goal

pub loop-i-preserved : goal.loop-i-preserved
loop-i-preserved c =
    let ((name, long), listing) = c.loop-i.invariant in
    ((c.line.ensures.same.0 ∙ name, c.line.ensures.same.1 ∙ long), list_pass listing c.loop-i-test.true c.line.ensures.put c.line.ensures.short)

pub returns-clause-put : goal.returns-clause-put
unfolding lines_of
returns-clause-put c = list_end c.loop-i.invariant.1 c.loop-i-test.false
