-- `actions::sweep` meets its contract: the sum and the least rank over the branches that the range no longer has.
use Rattle.std.proofs.Common.{arith, refl, ◌∙◌}
use Rattle.walk.proofs.Loop.{sink_end}
use Rattle.actions.proofs.Weighing.{sum_fits, weigh_end, sweep_start, sweep_pass}
use Rattle.actions.proofs.sweep.Goals as goal

pub loop-j-init : goal.loop-j-init
loop-j-init c =
    rw c.into_iter-j-iterator.ensures.into_iter_gives
    (record { same_end = refl; sweeping = sweep_start c.requires.weighable c.requires.ranks_len })

pub overflow_mul-swept : goal.overflow_mul-swept
overflow_mul-swept c =
    let s = c.in-Some.ensures.steps in rw s.1.1 (omega (arith, sum_fits c.loop-j.invariant.sweeping.weighing (omega arith)))

pub overflow_add-swept : goal.overflow_add-swept
overflow_add-swept c =
    let s = c.in-Some.ensures.steps in rw s.1.1 (omega (arith, sum_fits c.loop-j.invariant.sweeping.weighing (omega arith)))

pub loop-j-preserved : goal.loop-j-preserved
loop-j-preserved c =
    let s = c.in-Some.ensures.steps in
    record {
      same_end = s.0 ∙ c.loop-j.invariant.same_end;
      sweeping = rw (s.1.1, s.1.2) (sweep_pass c.loop-j.invariant.sweeping (omega arith) (rw s.1.1 at c.min.ensures));
    }

pub returns-clause-sum_value : goal.returns-clause-sum_value
returns-clause-sum_value c = let s = c.in-None.ensures.steps in weigh_end c.loop-j.invariant.sweeping.weighing (omega arith)

pub returns-clause-least_value : goal.returns-clause-least_value
returns-clause-least_value c =
    let s = c.in-None.ensures.steps in let w = c.loop-j.invariant.sweeping in sink_end w.sinking (omega arith) w.small
