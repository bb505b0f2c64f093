-- `certfile::read` meets its contract: each table is filled from its place on where the file passed, and left where it was refused.
-- Assumes nothing.
use Rattle.std.proofs.Common.{rules, ◌≡◌}
use Rattle.model.specs.Answers.{code}
use Rattle.certfile.specs.Outcome.{Refused, outcome_in}
use Rattle.certfile.proofs.Passed.{rooms, all_filled, roomy_read, untouched}
use Rattle.certfile.proofs.read.Goals as goal

pub returns-in_err-h-clause-read : goal.returns-in_err-h-clause-read
returns-in_err-h-clause-read c =
    let f = c.in_err-h.field-0.0 in
    let r : outcome_in c.from_residual.result ≡ Refused (code f.refusal) f.place = search rules in
    rw r (untouched _ _ _ _ _ c.lengths.ensures.listed c.in_err-h.ensures)

pub fill-requires : goal.fill-requires
fill-requires c =
    (rooms _ _ _ _ _ _ c.places_of-place.ensures c.counts_of-count.ensures.counts c.lengths.ensures.listed c.in_ok-h.ensures).marks

pub fill-requires-2 : goal.fill-requires-2
fill-requires-2 c =
    (rooms _ _ _ _ _ _ c.places_of-place.ensures c.counts_of-count.ensures.counts c.lengths.ensures.listed c.in_ok-h.ensures).action_starts

pub fill-requires-3 : goal.fill-requires-3
fill-requires-3 c =
    (rooms _ _ _ _ _ _ c.places_of-place.ensures c.counts_of-count.ensures.counts c.lengths.ensures.listed c.in_ok-h.ensures).branch_starts

pub fill-requires-4 : goal.fill-requires-4
fill-requires-4 c =
    (rooms _ _ _ _ _ _ c.places_of-place.ensures c.counts_of-count.ensures.counts c.lengths.ensures.listed c.in_ok-h.ensures).destinations

pub fill-requires-5 : goal.fill-requires-5
fill-requires-5 c =
    (rooms _ _ _ _ _ _ c.places_of-place.ensures c.counts_of-count.ensures.counts c.lengths.ensures.listed c.in_ok-h.ensures).weights

pub fill-requires-6 : goal.fill-requires-6
fill-requires-6 c =
    (rooms _ _ _ _ _ _ c.places_of-place.ensures c.counts_of-count.ensures.counts c.lengths.ensures.listed c.in_ok-h.ensures).costs

pub fill-requires-7 : goal.fill-requires-7
fill-requires-7 c =
    (rooms _ _ _ _ _ _ c.places_of-place.ensures c.counts_of-count.ensures.counts c.lengths.ensures.listed c.in_ok-h.ensures).claims

pub fill-requires-8 : goal.fill-requires-8
fill-requires-8 c =
    (rooms _ _ _ _ _ _ c.places_of-place.ensures c.counts_of-count.ensures.counts c.lengths.ensures.listed c.in_ok-h.ensures).ranks

pub returns-clause-read : goal.returns-clause-read
returns-clause-read c =
    all_filled _ _ _ _ _ _ c.places_of-place.ensures c.counts_of-count.ensures.counts c.lengths.ensures.listed c.in_ok-h.ensures _
    c.fill.ensures c.fill-2.ensures c.fill-3.ensures c.fill-4.ensures c.fill-5.ensures c.fill-6.ensures c.fill-7.ensures c.fill-8.ensures

pub returns-clause-roomy : goal.returns-clause-roomy
returns-clause-roomy c = roomy_read _ _ _ _ (returns-clause-read c)
