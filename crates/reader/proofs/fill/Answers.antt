-- `reader::fill` meets its contract: the numbers go into the first entries, and the others stay. Assumes nothing.
use Rattle.wire.proofs.Reading.{front_read}
use Rattle.reader.proofs.fill.Goals as goal

pub returns : goal.returns
returns g c =
    rw (← c.new.ensures.0, ← c.new.ensures.1)
    (front_read g.W.Word.table g.W.Word.number g.met.W.Word.each_number _ _ _ c.args.count c.args.table.now _ c.requires.1 c.fill.ensures)
