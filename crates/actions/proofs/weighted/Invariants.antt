-- `actions::weighted` meets its contract: total is the sum over the branches that the range no longer has.
use Rattle.std.proofs.Common.{◌≡◌}
use Rattle.actions.proofs.Weighing.{Weighing}
use Rattle.actions.proofs.weighted.Given as goal

abbrev pub invariant-loop-j : goal.invariant-loop-j
invariant-loop-j l = record {
  same_end : l.j-iterator.end ≡ l.fn.stretch.end;
  weighing : Weighing l.t.destinations.now l.t.weights.now l.u.claims.now l.fn.stretch.start l.fn.stretch.end l.total l.j-iterator.start;
}
