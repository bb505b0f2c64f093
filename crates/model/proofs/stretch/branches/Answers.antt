-- `model::branches` meets its contract: the part that it lends is the action's stretch. Assumes nothing.
use mathlib.Core.Path.{ap}
use lib.ListN.{length}
use native.Mathlib.Omega.{arith}
use Prim.Native.Nat.{ℕ}
use Rattle.std.specs.declared.ops.Range.{Range}
use Rattle.model.specs.Branches.{within}
use Rattle.model.proofs.Owned.{inside}
use Rattle.model.proofs.stretch.branches.Goals as goal

pub offset_bounds-table-stretch_of : goal.offset_bounds-table-stretch_of
offset_bounds-table-stretch_of c =
    let i = inside (length c.args.table.now) c.args.branch_starts.now c.args.action in
    rw c.stretch_of.ensures (omega (arith, i.0, i.1))

pub slice_bounds-result-count : goal.slice_bounds-result-count
slice_bounds-result-count c = rw c.stretch_of.ensures (inside _ _ _).0

pub slice_bounds-result-start : goal.slice_bounds-result-start
slice_bounds-result-start c = rw c.stretch_of.ensures (inside _ _ _).0

pub slice_bounds-result-end : goal.slice_bounds-result-end
slice_bounds-result-end c = rw c.stretch_of.ensures (inside _ _ _).1

pub returns-clause-entries : goal.returns-clause-entries
unfolding within
returns-clause-entries c = ap (λ (x : Range ℕ). within c.args.table.now x) c.stretch_of.ensures
