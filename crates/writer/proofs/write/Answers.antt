-- `writer::write` meets its contract: what would be answered is answered, and only where that is a length do the header and the tables
-- go in, one after the other. Assumes nothing.
use Rattle.std.proofs.Common.{rules, ◌≡◌, refl}
use Rattle.model.specs.Tables.{model_in, claim_in}
use Rattle.model.specs.Answers.{code}
use Rattle.writer.specs.Written.{Refused, written_in}
use Rattle.writer.proofs.Judged.{marks_told, head_told, room_told, left, put_in}
use Rattle.writer.proofs.Laid.{laid}
use Rattle.writer.proofs.write.Goals as goal

pub returns-in_err-bytes : goal.returns-in_err-bytes
returns-in_err-bytes c =
    let f = c.in_err-bytes.field-0.0 in
    let r : written_in c.from_residual.result ≡ Refused (code f.refusal) f.place = search rules in
    rw r (left c.args.kind (model_in c.args.t.now) (claim_in c.args.u.now) _ _ c.in_err-bytes.ensures _ _ refl)

pub head-at-requires : goal.head-at-requires
head-at-requires c = head_told c.args.kind (model_in c.args.t.now) (claim_in c.args.u.now) _ _ c.in_ok-bytes.ensures _ c.header.ensures

pub returns : goal.returns
returns c =
    let t = model_in c.args.t.now in
    let u = claim_in c.args.u.now in
    let e = c.in_ok-bytes.ensures in
    put_in c.args.kind t u _ _ e _ _ c.header.ensures
    (laid _ t u (marks_told c.args.kind t u _ _ e) _ (room_told c.args.kind t u _ _ e)
    c.head-at.ensures c.spell-at.ensures c.spell-at-2.ensures c.spell-at-3.ensures c.spell-at-4.ensures
    c.spell-at-5.ensures c.spell-at-6.ensures c.spell-at-7.ensures c.spell.ensures)
