-- `actions::weighted` meets its contract: total is the sum over the branches that the range no longer has.
use Rattle.std.proofs.Common.{arith, ◌∙◌}
use Rattle.actions.proofs.Weighing.{weigh_pass, weigh_end, sum_fits}
use Rattle.actions.proofs.weighted.Goals as goal

pub overflow_mul-total : goal.overflow_mul-total
overflow_mul-total c =
    let s = c.in-Some.ensures.steps in rw s.1.1 (omega (arith, sum_fits c.loop-j.invariant.weighing (omega arith)))

pub overflow_add-total : goal.overflow_add-total
overflow_add-total c =
    let s = c.in-Some.ensures.steps in rw s.1.1 (omega (arith, sum_fits c.loop-j.invariant.weighing (omega arith)))

pub loop-j-preserved : goal.loop-j-preserved
loop-j-preserved c =
    let s = c.in-Some.ensures.steps in
    record {
      same_end = s.0 ∙ c.loop-j.invariant.same_end;
      weighing = rw (s.1.1, s.1.2) (weigh_pass c.loop-j.invariant.weighing (omega arith));
    }

pub returns : goal.returns
returns c = let s = c.in-None.ensures.steps in weigh_end c.loop-j.invariant.weighing (omega arith)
