-- `program::answer_within` meets its contract: a file that was read is checked, and a refusal is printed. Assumes nothing.
use Rattle.std.proofs.Common.{rules, ◌≡◌, sym}
use lib.Seq.{length-take-le}
use native.Mathlib.Omega.{arith}
use Rattle.model.specs.Answers.{given}
use Rattle.program.proofs.Chosen.{long_enough, still_fits, still_cut, first_entries}
use Rattle.program.proofs.Taken.{printed_read, printed_refused}
use Rattle.program.proofs.answer_within.Goals as goal

pub slice_bounds-lent-end : goal.slice_bounds-lent-end
slice_bounds-lent-end c =
    (long_enough _ _ _ _ c.in-Ok.ensures.answer _ _ _ c.choice_count-chosen.ensures c.requires).choices

pub slice_bounds-lent-end-in-Ok : goal.slice_bounds-lent-end-in-Ok
slice_bounds-lent-end-in-Ok c =
    let long = long_enough _ _ _ _ c.in-Ok.ensures.answer _ _ _ c.choice_count-chosen.ensures c.requires in
    sym (length-take-le _ _ long.choices)

pub slice_bounds-tell-end : goal.slice_bounds-tell-end
slice_bounds-tell-end c =
    let long = long_enough _ _ _ _ c.in-Ok.ensures.answer _ _ _ c.choice_count-chosen.ensures c.requires in
    still_fits _ _ c.check-answer.new.choices long.choices c.check-answer.auto.choices

pub slice_bounds-tell-end-in-Ok : goal.slice_bounds-tell-end-in-Ok
slice_bounds-tell-end-in-Ok c =
    let long = long_enough _ _ _ _ c.in-Ok.ensures.answer _ _ _ c.choice_count-chosen.ensures c.requires in
    still_cut _ _ c.check-answer.new.choices long.choices c.check-answer.auto.choices

pub tell-requires : goal.tell-requires
tell-requires c =
    let long = long_enough _ _ _ _ c.in-Ok.ensures.answer _ _ _ c.choice_count-chosen.ensures c.requires in
    omega (arith, still_cut _ _ c.check-answer.new.choices long.choices c.check-answer.auto.choices, long.printed)

pub returns-in-Ok-clause-answered : goal.returns-in-Ok-clause-answered
returns-in-Ok-clause-answered c =
    let long = long_enough _ _ _ _ c.in-Ok.ensures.answer _ _ _ c.choice_count-chosen.ensures c.requires in
    printed_read _ _ _ _ c.in-Ok.ensures.filled _ c.in-Ok.ensures.answer _ c.check-answer.new.choices _ _ _ _ _ _ _
    c.model.ensures c.claim.ensures c.choice_count-chosen.ensures c.check-answer.ensures
    (first_entries _ _ c.check-answer.new.choices long.choices c.check-answer.auto.choices) c.tell.ensures.number c.tell.ensures.shows

pub returns-in-Err-clause-answered : goal.returns-in-Err-clause-answered
returns-in-Err-clause-answered c =
    let r : c.into.result ≡ given c.in-Err.fault = search rules in
    printed_refused _ _ _ _ _ c.in-Err.ensures.filled _ c.in-Err.ensures.answer _ _ _ _
    (rw r at c.tell-in-Err.ensures.number) (rw r at c.tell-in-Err.ensures.shows)
