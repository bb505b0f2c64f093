-- `wire::fill` meets its contract: the numbers go in one after the other. Assumes nothing.
use Rattle.std.proofs.Common.{rules}
use Rattle.wire.proofs.Reading.{read_start, read_pass, all_read}
use Rattle.wire.proofs.fill.Goals as goal

pub loop-i-init : goal.loop-i-init
loop-i-init g c = read_start g.W.Word.table g.W.Word.number g.met.W.Word.each_number _ _ _ _

pub loop-i-preserved : goal.loop-i-preserved
loop-i-preserved g c =
    let read = rw c.BYTES.ensures at c.read.ensures in
    read_pass g.W.Word.table g.W.Word.number g.met.W.Word.each_number _ _ _ c.loop-i.invariant (search rules) _ read

pub returns : goal.returns
returns g c = all_read g.W.Word.table g.W.Word.number g.met.W.Word.each_number _ _ _ c.loop-i.invariant (search rules)
