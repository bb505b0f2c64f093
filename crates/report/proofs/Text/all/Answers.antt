-- `report::Text::all` meets its contract: the verdict's line, and after acceptance the choices. Assumes nothing.
use mathlib.Core.Path.{sym, ◌∙◌}
use Rattle.walk.proofs.Putting.{put_then, put_same}
use Rattle.report.proofs.Digits.{text_accepted, text_alone}
use Rattle.report.proofs.Text.all.Goals as goal

pub returns-then-accepts-clause-put : goal.returns-then-accepts-clause-put
returns-then-accepts-clause-put c =
    put_same (put_then c.head.ensures.put c.lines.ensures.put) (text_accepted _ _ (sym c.accepts.ensures ∙ c.if-accepts.true))

pub returns-else-accepts-clause-put : goal.returns-else-accepts-clause-put
returns-else-accepts-clause-put c = put_same c.head.ensures.put (text_alone _ _ (sym c.accepts.ensures ∙ c.if-accepts.false))
