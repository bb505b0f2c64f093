-- `actions::sweep` meets its contract: the sum and the least rank over the branches that the range no longer has.
use Rattle.std.proofs.Common.{◌≡◌}
use Rattle.actions.proofs.Weighing.{Sweeping}
use Rattle.actions.proofs.sweep.Given as goal

abbrev pub invariant-loop-j : goal.invariant-loop-j
invariant-loop-j l =
    let r = l.fn.stretch in
    record {
      same_end : l.j-iterator.end ≡ r.end;
      sweeping : Sweeping l.t.destinations.now l.t.weights.now l.u.claims.now l.u.ranks.now r.start r.end l.swept.sum l.swept.least l.j-iterator.start;
    }
