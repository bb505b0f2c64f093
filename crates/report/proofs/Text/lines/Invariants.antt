-- `report::Text::lines`: the text is the same lent one, and holds the lines of the states below i.
use lib.ListN.{length, get_or}
use Rattle.report.specs.Text.{line_of}
use Rattle.report.specs.Puts.{Same}
use Rattle.report.proofs.Listing.{Listing}
use Rattle.report.proofs.Text.lines.Given as goal

abbrev pub invariant-loop-i : goal.invariant-loop-i
invariant-loop-i l =
    Same l.initial.self l.self
    × Listing (λ s. line_of s (get_or l.choices s 0)) 32 (length l.choices) l.initial.self.bytes.now l.initial.self.at l.i l.self.at l.self.bytes.now
