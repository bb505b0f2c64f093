-- `stream::skip` meets its contract: the input loses more in each piece that is dropped.
use Rattle.std.proofs.Common.{[], arith, length-take}
use Rattle.std.proofs.KnownBytes.{Consumes-nil}
use Rattle.stream.proofs.Lost.{lost_more, loses_more}
use Rattle.stream.proofs.skip.Goals as goal

pub loop-left-init : goal.loop-left-init
loop-left-init g c = ([], Consumes-nil _, omega arith)

pub returns-in_err-n-clause-left : goal.returns-in_err-n-clause-left
returns-in_err-n-clause-left g c = loses_more _ _ _ (_, c.loop-left.invariant.1) c.in_err-n.ensures.err

pub returns-then-n-eq0 : goal.returns-then-n-eq0
returns-then-n-eq0 g c =
    let gone = c.loop-left.invariant in
    let all = lost_more _ _ _ _ _ gone.1 c.in_ok-n.ensures.read in
    let piece = length-take c.min-most.result c.loop-left.piece in
    record {
      ok = (all.0, (all.1, omega (arith, all.2, gone.2, c.in_ok-n.ensures.count), λ few. c.in_ok-n.ensures.end (omega (arith, piece, c.fill.auto.bytes))));
      left = (all.0, all.1);
    }

pub loop-left-preserved : goal.loop-left-preserved
loop-left-preserved g c =
    let gone = c.loop-left.invariant in
    let all = lost_more _ _ _ _ _ gone.1 c.in_ok-n.ensures.read in
    let piece = length-take c.min-most.result c.loop-left.piece in
    (all.0, all.1, omega (arith, all.2, gone.2, c.in_ok-n.ensures.count, piece, c.fill.auto.bytes))

pub returns : goal.returns
returns g c =
    let gone = c.loop-left.invariant in
    record { ok = (gone.0, (gone.1, omega (arith, gone.2), λ few. absurd (omega (arith, gone.2, few)))); left = (gone.0, gone.1) }
