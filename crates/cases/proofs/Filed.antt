-- Model A as a kind 1 file takes 137 bytes, and its length field is 133; a buffer one byte shorter is refused, but only where 1 to 14
-- do not refuse. Assumes nothing.
use mathlib.Core.Path.{◌≡◌, refl}
use mathlib.Core.List.{[], ◌∷◌}
use lib.ListN.{length, take}
use Rattle.walk.specs.Fold.{any}
use Rattle.model.specs.Limits.{none}
use Rattle.model.specs.Tables.{Claim}
use Rattle.model.specs.Refusals.{size_tests, weight_scale_test, claim_scale_test, states_test, model_lengths, claim_lengths, length_test}
use Rattle.model.specs.Refusals.{row_tests, starts_test, start_right, marks_test, walk_test, action_test, range_tests, costs_test, claims_test, ranks_test}
use Rattle.writer.specs.Written.{Length, Refused}
use Rattle.writer.specs.File.{file_of, written_of}
use Rattle.cases.specs.Worked.{model_a, arrival}

-- the case that document 01 accepts first
abbrev claims : Claim
claims = arrival 8 (4 ∷ 0 ∷ 8 ∷ []) []

pub bytes_of_A : length (file_of 1 model_a claims) ≡ 137
unfolding file_of
bytes_of_A = refl

-- the length field, the version and the kind
pub front_of_A : take 6 (file_of 1 model_a claims) ≡ 0 ∷ 0 ∷ 0 ∷ 133 ∷ 1 ∷ 1 ∷ []
unfolding file_of
front_of_A = refl

pub room_for_A : (written_of 1 model_a claims 137 ≡ Length 137) × (written_of 1 model_a claims 136 ≡ Refused 35 0)
unfolding any written_of size_tests weight_scale_test claim_scale_test states_test model_lengths claim_lengths length_test
    row_tests starts_test start_right marks_test walk_test action_test range_tests costs_test claims_test ranks_test
room_for_A = (refl, refl)

-- a rank that is out of range is refused before a buffer that is too short
pub fourteen_first : written_of 4 model_a (arrival 8 (4 ∷ 0 ∷ 8 ∷ []) (1 ∷ none ∷ 3 ∷ [])) 0 ≡ Refused 14 2
unfolding any written_of size_tests weight_scale_test claim_scale_test states_test model_lengths claim_lengths length_test
    row_tests starts_test start_right marks_test walk_test action_test range_tests costs_test claims_test ranks_test
fourteen_first = refl
