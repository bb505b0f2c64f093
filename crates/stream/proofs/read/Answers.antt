-- `stream::read` meets its contract: the input gives a head, the bytes that there is room for and those that are dropped.
use Rattle.std.proofs.Common.{◌≡◌, ◌++◌, length, drop, length-append, length-drop, length-take, arith, subst, take_all}
use Rattle.std.specs.Io.KnownBytes.{Consumes}
use Rattle.stream.specs.Case.{GivesSome}
use Rattle.stream.proofs.Given.{gives_filled}
use Rattle.stream.proofs.Lost.{loses_more}
use Rattle.stream.proofs.read.Goals as goal

pub returns-in_err-bytes-clause-left : goal.returns-in_err-bytes-clause-left
returns-in_err-bytes-clause-left g c = loses_more _ _ _ (_, c.in_ok-fill.ensures.read) c.in_err-bytes.ensures.err

pub returns-in_err-skip-clause-left : goal.returns-in_err-skip-clause-left
returns-in_err-skip-clause-left g c =
    loses_more _ _ _ (_, c.in_ok-fill.ensures.read) (loses_more _ _ _ (_, c.in_ok-bytes.ensures.read) c.skip.ensures.left)

pub returns-clause-case : goal.returns-clause-case
returns-clause-case g c =
    let whole : length c.fill.new.bytes ≡ 4 = omega (arith, c.fill.auto.bytes) in
    let front : length c.fill-2.new.bytes ≡ c.min-most.result =
    omega (arith, c.fill-2.auto.bytes, length-take c.min-most.result c.args.file.now) in
    let room : length (c.fill-2.new.bytes ++ drop c.min-most.result c.args.file.now) ≡ length c.args.file.now =
    simp (length-append, length-drop) (omega (arith, front)) in
    let got = c.in_ok-bytes.ensures in
    record {
      head = c.fill.new.bytes;
      headed = g.R.Read.remaining c.fill.new.input;
      kept = g.R.Read.remaining c.fill-2.new.input;
      heads = (
        subst (Consumes _ _) (take_all _ _ (omega (arith, whole))) c.in_ok-fill.ensures.read,
        omega (arith, whole),
        λ few. absurd (omega (arith, whole, few)),
      );
      whole = whole;
      gives = gives_filled _ _ _ _ c.fill-2.new.bytes _ (omega (arith, room, front)) got.count got.read got.end;
      drops = subst (GivesSome _ _) (omega (arith, room)) c.in_ok-skip.ensures.ok;
    }

pub returns-clause-left : goal.returns-clause-left
returns-clause-left g c =
    loses_more _ _ _ (_, c.in_ok-fill.ensures.read) (loses_more _ _ _ (_, c.in_ok-bytes.ensures.read) c.skip.ensures.left)
