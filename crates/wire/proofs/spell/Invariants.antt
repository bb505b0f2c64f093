-- `wire::spell` meets its contract: one number after the other. Assumes nothing.
use Rattle.wire.proofs.Spelled.{Spelling}
use Rattle.wire.proofs.spell.Given as goal

abbrev pub invariant-loop-x : goal.invariant-loop-x
invariant-loop-x g l = Spelling g.W.Word.texts g.W.Word.BYTES l.table l.initial.file l.at l.x-index l.end l.file
