-- `stream::each` meets its contract: each turn reads the next case and calls the function at it.
use Rattle.std.proofs.Common.{◌∷◌, [], refl, ◌++◌, arith, of_calls, length-append, subst, ◌∙◌, take, Ok, inl, inr}
use Rattle.std.proofs.KnownBytes.{Consumes-nil}
use Rattle.std.proofs.lemmas.Fn.{FoldsTo-push}
use Rattle.std.specs.Fn.{CalledAt}
use Rattle.stream.specs.Case.{IsCase}
use Rattle.stream.proofs.Lost.{loses_more}
use Rattle.stream.proofs.each.Goals as goal

pub cases-init : goal.cases-init
cases-init g c = record { callable = search of_calls; lost = ([], Consumes-nil _); done = ([], refl, refl) }

pub returns-in_err-bytes-clause-left : goal.returns-in_err-bytes-clause-left
returns-in_err-bytes-clause-left g c = loses_more _ _ _ c.cases.invariant.lost c.read.ensures.left

pub returns-in_default-clause-calls : goal.returns-in_default-clause-calls
returns-in_default-clause-calls g c = record {
  cases = c.cases.invariant.done.0;
  rest = g.R.Read.remaining c.cases.input;
  last = c.cases.answer;
  calls = c.cases.invariant.done.2;
  ends = inl (rw c.in_default.is at c.in_ok-bytes.ensures.case);
}

pub returns-in_default-clause-left : goal.returns-in_default-clause-left
returns-in_default-clause-left g c = loses_more _ _ _ c.cases.invariant.lost c.read.ensures.left

pub returns-in_err-answer-clause-left : goal.returns-in_err-answer-clause-left
returns-in_err-answer-clause-left g c = loses_more _ _ _ c.cases.invariant.lost c.read.ensures.left

pub cases-preserved : goal.cases-preserved
cases-preserved g c = record {
  callable = search of_calls;
  lost = loses_more _ _ _ c.cases.invariant.lost c.read.ensures.left;
  done =
      let done = c.cases.invariant.done in
      let case = take c.in-Some.bytes c.read.new.file in
      let next = subst (λ k. IsCase (g.R.Read.remaining c.cases.input) (g.R.Read.remaining c.read.new.input) k case)
      (c.read.auto.file ∙ c.cases.auto.file)
      (rw c.in-Some.is at c.in_ok-bytes.ensures.case) in
      let call : CalledAt g.F.FnMut c.cases.answer case (Ok tt) c.answer.new.self =
      record { shown = _; shows = refl; called = c.in_ok-answer.ensures } in
      (done.0 ++ case ∷ [], omega (arith, length-append done.0 (case ∷ []), done.1), FoldsTo-push _ _ _ _ _ _ done.2 (next, call));
}

pub returns-clause-calls : goal.returns-clause-calls
returns-clause-calls g c = record {
  cases = c.cases.invariant.done.0;
  rest = g.R.Read.remaining c.cases.input;
  last = c.cases.answer;
  calls = c.cases.invariant.done.2;
  ends = inr (omega arith, refl);
}
