-- The proved set of document 01's worked cases: the definitions give the answers and the choices that stand there.
-- Assumes nothing.
use mathlib.Core.Path.{◌≡◌, refl}
use mathlib.Core.List.{map}
use Rattle.model.specs.Refusals.{size_tests, weight_scale_test, claim_scale_test, states_test, model_lengths, claim_lengths, length_test}
use Rattle.model.specs.Refusals.{row_tests, starts_test, start_right, marks_test, walk_test, action_test, range_tests, costs_test, claims_test, ranks_test}
use Rattle.model.specs.Conditions.{condition21, condition22, condition23, condition24}
use Rattle.model.specs.Checked.{answer_of, choices_of}
use Rattle.cases.specs.Worked.{Case, proved}

pub right : (map (λ (x : Case). (answer_of x.kind x.model x.claim x.choices).verdict) proved ≡ map (λ (x : Case). x.answer) proved)
    × (map (λ (x : Case). choices_of x.kind x.model x.claim x.choices) proved ≡ map (λ (x : Case). x.chosen) proved)
unfolding choices_of size_tests weight_scale_test claim_scale_test states_test model_lengths claim_lengths length_test
    row_tests starts_test start_right marks_test walk_test action_test range_tests costs_test claims_test ranks_test
    condition21 condition22 condition23 condition24
right = (refl, refl)
