-- Tests of the sizes that `?` tries one after another, and one list after another, are those tests tried in order. Assumes nothing.
use mathlib.Core.Path.{◌≡◌, refl, ◌∙◌}
use mathlib.Core.List.{List, [], ◌∷◌, ◌++◌}
use Prim.Native.Nat.{ℕ, ◌+◌}
use lib.Dec.{leb, eqb}
use Rattle.model.specs.Limits.{most_weight_scale, most_states, most_actions, most_branches}
use Rattle.model.specs.declared.kinds.Kind.{Kind}
use Rattle.model.specs.declared.tables.Lengths.{Lengths}
use Rattle.model.specs.declared.answers.Fault.{Fault}
use Rattle.model.specs.declared.answers.Verdict.{Verdict}
use Rattle.model.specs.Answers.{pass, given, then, tried, require}
use Rattle.model.specs.Refusals.{between, entries, claim_scale_right, sizes_of, model_lengths, claim_lengths, length_test}
use Rattle.model.specs.Refusals.{weight_scale_test, claim_scale_test, states_test, lengths_of, tests, size_tests, row_tests, range_tests, ranges_of}
use Rattle.model.specs.Tables.{Model, Claim, states}
use Rattle.model.proofs.Tried.{tried_append}
use Rattle.model.proofs.Searched.{tried_ok, tried_err, tried_word}

module _ (xs ys : List Verdict) where
  -- where the first list lets pass, the second says it
  pub list_ok : pass ≡ tried xs pass → tried (xs ++ ys) pass ≡ tried ys pass
  unfolding then
  list_ok e = tried_append xs ys pass ∙ rw (← e)

  -- and where it refuses, the second says nothing
  pub list_err : (f : Fault) → given f ≡ tried xs pass → tried (xs ++ ys) pass ≡ given f
  unfolding then
  list_err f e = tried_append xs ys pass ∙ rw (← e)

-- the tests of the lists, each with its number and its place
module _ (k : Kind) (l : Lengths) where
  pub all_sizes : (d c : ℕ) → sizes_of k d c l ≡ require (between 1 most_weight_scale d) 2 0
      ∷ require (claim_scale_right k c) 3 0 ∷ require (between 1 most_states l.marks) 4 0 ∷ (model_lengths l ++ claim_lengths k l)
  unfolding sizes_of weight_scale_test claim_scale_test states_test
  all_sizes d c = refl

  pub all_claim_lengths : claim_lengths k l ≡ require (eqb l.costs (entries k.costs l.marks)) 5 6
      ∷ require (eqb l.claims l.marks) 5 7 ∷ require (eqb l.ranks (entries k.ranks l.marks)) 5 8 ∷ require (eqb l.choices (entries k.choices l.marks)) 5 9 ∷ []
  unfolding claim_lengths length_test
  all_claim_lengths = refl

pub all_model_lengths : (l : Lengths) → model_lengths l ≡ require (eqb l.action_starts (l.marks + 1)) 5 2
    ∷ require (between 2 (most_actions + 1) l.branch_starts) 5 3 ∷ require (leb l.destinations most_branches) 5 4
    ∷ require (eqb l.weights l.destinations) 5 5 ∷ []
unfolding model_lengths length_test
all_model_lengths l = refl

pub all_tests : (k : Kind) (t : Model) (u : Claim) (chosen : ℕ) → tests k t u chosen
    ≡ sizes_of k t.d u.c (lengths_of t u chosen) ++ (row_tests t ++ ranges_of k (states t) u.c u.costs u.claims u.ranks)
unfolding tests size_tests range_tests
all_tests k t u chosen = refl

-- what `?` on the tests of the sizes takes, and `?` on the three lists of tests, in one name each
pub ruleset in_turn = (tried_ok, tried_err, tried_word, list_ok, list_err, all_sizes, all_claim_lengths, all_model_lengths)

pub ruleset part_by_part = (list_ok, list_err, all_tests)
