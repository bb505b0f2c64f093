-- `each` called its function at the cases so far, one in each turn.
use Rattle.std.proofs.Common.{◌≡◌, ℕ, List, length}
use Rattle.std.specs.Fn.{CalledAt}
use Rattle.std.specs.List.{FoldsTo}
use Rattle.stream.specs.Lost.{Loses}
use Rattle.stream.specs.Calls.{CallsOnNext}
use Rattle.stream.proofs.each.Given as goal

abbrev pub invariant-cases : goal.invariant-cases
invariant-cases g l = record {
  callable : goal.F-IsAlwaysCallable g l.answer;
  lost : Loses (g.R.Read.remaining l.initial.input) (g.R.Read.remaining l.input);
  done : (cases : List (List ℕ)) × (length cases ≡ l.counter)
      × FoldsTo (CallsOnNext (CalledAt g.F.FnMut) (length l.initial.file)) (g.R.Read.remaining l.initial.input, l.initial.answer) cases
      (g.R.Read.remaining l.input, l.answer);
}
