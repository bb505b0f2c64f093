-- `report::Text::head` meets its contract: the words of each case go in one after the other. Assumes nothing.
use mathlib.Core.Path.{sym, ap, ◌∙◌}
use mathlib.Core.List.{append_assoc}
use Rattle.report.specs.Text.{line, head_of}
use Rattle.walk.proofs.Putting.{put_then, put_same}
use Rattle.report.proofs.Text.head.Goals as goal
use Rattle.report.proofs.Text.head.Goals.{in-Accepted, in-Refused, in-Violated}

pub returns-clause-put : goal.returns-clause-put
unfolding head_of line
returns-clause-put c =
    elim c.match-verdict.branch [
      | in-Accepted w ↦
          let words = put_then w.word.ensures.put w.spaced.ensures.put in
          put_same (put_then words (rw w.self-is at c.byte.ensures.put))
          ((simp append_assoc) ∙ sym (ap head_of w.in-Accepted.is))
      | in-Refused w ↦
          let words = put_then (put_then w.word-in-Refused.ensures.put w.spaced-in-Refused.ensures.put) w.spaced-in-Refused-2.ensures.put in
          put_same (put_then words (rw w.self-is at c.byte.ensures.put))
          ((simp append_assoc) ∙ sym (ap head_of w.in-Refused.is))
      | in-Violated w ↦
          let numbers = put_then (put_then w.word-in-Violated.ensures.put w.spaced-in-Violated.ensures.put) w.spaced-in-Violated-2.ensures.put in
          put_same (put_then (put_then numbers w.action.ensures.put) (rw w.self-is at c.byte.ensures.put))
          ((simp append_assoc) ∙ sym (ap head_of w.in-Violated.is))
    ]
