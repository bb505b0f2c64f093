-- `rows::count` meets its contract: 6, 7, 8 and the walk, tried in order. Assumes nothing.
use Rattle.std.proofs.Common.{arith, length}
use Rattle.model.specs.Tables.{model_in, branches}
use Rattle.model.specs.Refusals.{start_right, starts_test}
use Rattle.model.proofs.Formed.{starts_right}
use Rattle.model.proofs.Searched.{ok_goes}
use Rattle.model.proofs.Tried.{throughout_all}
use Rattle.rows.proofs.count.Goals as goal

pub walk_test-requires : goal.walk_test-requires
unfolding starts_test
walk_test-requires c =
    let t = model_in c.args.t.now in
    record {
      starts =
          starts_right t.branch_starts (branches t) (omega (arith, c.requires.table3_least))
          (throughout_all (start_right t.branch_starts (branches t)) (length t.branch_starts) 7 (ok_goes c.in_ok-starts_test-2.ensures));
      table3_least = c.requires.table3_least;
      table3_most = c.requires.table3_most;
      table4 = c.requires.table4;
      table5 = c.requires.table5;
    }
