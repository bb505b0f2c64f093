-- `wire::fill` meets its contract: the numbers go in one after the other. Assumes nothing.
use Rattle.wire.proofs.Reading.{Reading}
use Rattle.wire.proofs.fill.Given as goal

abbrev pub invariant-loop-i : goal.invariant-loop-i
invariant-loop-i g l = Reading g.W.Word.table g.W.Word.number g.met.W.Word.each_number g.W.Word.BYTES l.file l.at l.initial.table l.i l.table
