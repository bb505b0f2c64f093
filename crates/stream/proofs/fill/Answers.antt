-- `stream::fill` meets its contract: what a read puts behind what is there is what the input lost.
use Rattle.std.proofs.Common.{rules, subst, length-take-le}
use Rattle.std.specs.Io.KnownBytes.{Consumes}
use Rattle.std.proofs.KnownBytes.{Consumes-trans}
use Rattle.stream.proofs.Given.{front_more}
use Rattle.stream.proofs.fill.Goals as goal

pub loop-done-preserved : goal.loop-done-preserved
loop-done-preserved g c =
    let known = c.loop-done.invariant in (
      search rules,
      search rules,
      subst (Consumes _ _) (front_more _ _ _ c.read.new.buf _ (length-take-le _ _ known.1) c.in_ok-n.ensures.bound.0)
          (Consumes-trans _ _ _ _ _ known.2 c.in_ok-n.ensures.bytes.0),
    )
