-- `report::Text::line` meets its contract: a number, an action and a newline go in one after the other. Assumes nothing.
use mathlib.Core.List.{append_assoc}
use Rattle.report.specs.Text.{line, line_of}
use Rattle.walk.proofs.Putting.{put_then, put_same}
use Rattle.report.proofs.Text.line.Goals as goal

pub returns-clause-put : goal.returns-clause-put
unfolding line line_of
returns-clause-put c = put_same (put_then (put_then c.number.ensures.put c.action.ensures.put) c.byte.ensures.put) (simp append_assoc)
