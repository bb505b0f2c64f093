-- `wire::spell` meets its contract: one number after the other. Assumes nothing.
use Rattle.std.proofs.Common.{rules, ◌+◌, ◌≤◌, length}
use native.Mathlib.Omega.{arith}
use Rattle.wire.proofs.Spelled.{spell_start, spell_room, spell_pass, spell_end}
use Rattle.wire.proofs.spell.Goals as goal

pub loop-x-init : goal.loop-x-init
loop-x-init g c =
    let w = g.met.W.Word in
    spell_start g.W.Word.texts g.W.Word.text g.W.Word.BYTES w.no_bytes w.more_bytes w.counted _ _ _

pub put-end-requires : goal.put-end-requires
put-end-requires g c =
    let w = g.met.W.Word in
    let room : c.loop-x.end + g.W.Word.BYTES ≤ length c.loop-x.file =
    spell_room g.W.Word.texts g.W.Word.text g.W.Word.BYTES w.no_bytes w.more_bytes w.counted c.loop-x.invariant (search rules)
    (omega (arith, c.requires, c.loop-x.auto.file)) in
    omega (arith, room, c.loop-x.invariant.place)

pub loop-x-preserved : goal.loop-x-preserved
loop-x-preserved g c =
    let w = g.met.W.Word in
    spell_pass g.W.Word.texts g.W.Word.text g.W.Word.BYTES w.no_bytes w.more_bytes w.counted c.loop-x.invariant _ (search rules)
    c.x-item.is c.put-end.ensures

pub returns : goal.returns
returns g c =
    let w = g.met.W.Word in
    spell_end g.W.Word.texts g.W.Word.text g.W.Word.BYTES w.no_bytes w.more_bytes w.counted c.loop-x.invariant (search rules)
