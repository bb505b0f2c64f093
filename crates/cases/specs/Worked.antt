-- The small models that document 01 works out, and all its cases in one table, as W-202 changed them.
use Rattle.std.specs.Prelude.{ℕ, List, [], ◌∷◌, set}
use Rattle.model.specs.declared.answers.Verdict.{Verdict}
use Rattle.model.specs.declared.answers.Verdict.TheVariants.{Accepted, Refused, Violated}
use Rattle.model.specs.Limits.{none}
use Rattle.model.specs.Tables.{Model, Claim}

abbrev pub model_a : Model
model_a =
    record {
      d = 4;
      marks = 0 ∷ 0 ∷ 1 ∷ [];
      action_starts = 0 ∷ 2 ∷ 3 ∷ 4 ∷ [];
      branch_starts = 0 ∷ 3 ∷ 4 ∷ 5 ∷ 6 ∷ [];
      destinations = 0 ∷ 1 ∷ 2 ∷ 1 ∷ 1 ∷ 2 ∷ [];
      weights = 2 ∷ 1 ∷ 1 ∷ 4 ∷ 4 ∷ 4 ∷ [];
    }

abbrev pub model_b : Model
model_b =
    record {
      d = 4;
      marks = 0 ∷ 1 ∷ 0 ∷ [];
      action_starts = 0 ∷ 2 ∷ 3 ∷ 4 ∷ [];
      branch_starts = 0 ∷ 1 ∷ 3 ∷ 4 ∷ 5 ∷ [];
      destinations = 0 ∷ 1 ∷ 2 ∷ 1 ∷ 2 ∷ [];
      weights = 4 ∷ 1 ∷ 3 ∷ 4 ∷ 4 ∷ [];
    }

-- model A with another weight at a branch
abbrev pub reweighted : ℕ → ℕ → Model
reweighted branch weight =
    record {
      d = model_a.d;
      marks = model_a.marks;
      action_starts = model_a.action_starts;
      branch_starts = model_a.branch_starts;
      destinations = model_a.destinations;
      weights = set model_a.weights branch weight;
    }

-- claims about arrival in model A have C = 8, in model B C = 4; about cost, C = 1 and the costs of model A
abbrev pub arrival : ℕ → List ℕ → List ℕ → Claim
arrival c claims ranks = record { c = c; costs = []; claims = claims; ranks = ranks }

abbrev pub costly : List ℕ → List ℕ → Claim
costly claims ranks = record { c = 1; costs = 3 ∷ 0 ∷ 5 ∷ []; claims = claims; ranks = ranks }

-- a choice list as lent to a claim that writes none, and to one that writes it
abbrev pub unlent : List ℕ
unlent = []

abbrev pub lent : List ℕ
lent = 7 ∷ 7 ∷ 7 ∷ []

pub record Case : Type 0 where
  pub model : Model
  pub kind : ℕ
  pub claim : Claim
  pub choices : List ℕ
  pub answer : Verdict
  pub chosen : List ℕ

abbrev case : Model → ℕ → Claim → List ℕ → Verdict → List ℕ → Case
case t k u w v x = record { model = t; kind = k; claim = u; choices = w; answer = v; chosen = x }

-- The cases marked P, the refusals named below the table, and a target's claim on both sides of its cost and without a rank: the
-- proved set. Before W-202 model A, kind 5, claims 6 0 0 and kind 6, claims 3 0 0 were accepted, and kind 8, claims 8 0 5 broke 21.
abbrev pub proved : List Case
proved =
    case model_a 1 (arrival 8 (4 ∷ 0 ∷ 8 ∷ []) []) unlent (Accepted 0) unlent
    ∷ case model_a 1 (arrival 8 (3 ∷ 0 ∷ 8 ∷ []) []) unlent (Violated 22 0 0) unlent
    ∷ case model_a 1 (arrival 8 (4 ∷ 0 ∷ 7 ∷ []) []) unlent (Violated 21 2 none) unlent
    ∷ case model_a 2 (arrival 8 (1 ∷ 0 ∷ 8 ∷ []) (1 ∷ none ∷ 0 ∷ [])) unlent (Violated 22 0 1) unlent
    ∷ case model_a 3 (arrival 8 (0 ∷ 0 ∷ 8 ∷ []) []) lent (Accepted 0) (1 ∷ 2 ∷ none ∷ [])
    ∷ case model_a 4 (arrival 8 (4 ∷ 0 ∷ 8 ∷ []) (1 ∷ none ∷ 0 ∷ [])) lent (Accepted 1) (0 ∷ 2 ∷ none ∷ [])
    ∷ case model_a 4 (arrival 8 (4 ∷ 8 ∷ 8 ∷ []) (1 ∷ none ∷ 0 ∷ [])) lent (Violated 23 1 none) lent
    ∷ case model_a 4 (arrival 8 (4 ∷ 8 ∷ 8 ∷ []) (2 ∷ 1 ∷ 0 ∷ [])) lent (Violated 24 1 none) lent
    ∷ case model_a 5 (costly (9 ∷ 0 ∷ 5 ∷ []) []) unlent (Accepted 0) unlent
    ∷ case model_a 5 (costly (8 ∷ 0 ∷ 5 ∷ []) []) unlent (Violated 22 0 0) unlent
    ∷ case model_a 5 (costly (9 ∷ 0 ∷ 6 ∷ []) []) unlent (Accepted 0) unlent
    ∷ case model_a 5 (costly (9 ∷ 0 ∷ 4 ∷ []) []) unlent (Violated 21 2 none) unlent
    ∷ case model_a 5 (costly (6 ∷ 0 ∷ 0 ∷ []) []) unlent (Violated 21 2 none) unlent
    ∷ case model_a 6 (costly (3 ∷ 0 ∷ 0 ∷ []) []) lent (Violated 21 2 none) lent
    ∷ case model_a 6 (costly (3 ∷ 0 ∷ 5 ∷ []) []) lent (Accepted 0) (1 ∷ 2 ∷ none ∷ [])
    ∷ case model_a 7 (costly (3 ∷ 0 ∷ 0 ∷ []) (1 ∷ none ∷ 0 ∷ [])) unlent (Violated 24 0 1) unlent
    ∷ case model_a 8 (costly (8 ∷ 0 ∷ 5 ∷ []) (1 ∷ none ∷ 0 ∷ [])) lent (Accepted 1) (0 ∷ 2 ∷ none ∷ [])
    ∷ case model_a 8 (costly (8 ∷ 0 ∷ 4 ∷ []) (1 ∷ none ∷ 0 ∷ [])) lent (Accepted 1) (0 ∷ 2 ∷ none ∷ [])
    ∷ case model_a 8 (costly (8 ∷ 0 ∷ 6 ∷ []) (1 ∷ none ∷ 0 ∷ [])) lent (Violated 21 2 none) lent
    ∷ case model_a 8 (costly (0 ∷ 0 ∷ 5 ∷ []) (none ∷ none ∷ none ∷ [])) lent (Violated 23 2 none) lent
    ∷ case model_b 4 (arrival 4 (4 ∷ 4 ∷ 0 ∷ []) (1 ∷ 0 ∷ none ∷ [])) lent (Violated 24 0 none) lent
    ∷ case (reweighted 0 3) 1 (arrival 8 (4 ∷ 0 ∷ 8 ∷ []) []) unlent (Refused 11 0) unlent
    ∷ case (reweighted 2 0) 1 (arrival 8 (4 ∷ 0 ∷ 8 ∷ []) []) unlent (Refused 10 2) unlent
    ∷ case (reweighted 2 5) 1 (arrival 8 (4 ∷ 0 ∷ 8 ∷ []) []) unlent (Refused 10 2) unlent
    ∷ case model_a 4 (arrival 8 (4 ∷ 0 ∷ 8 ∷ []) (2 ∷ none ∷ 0 ∷ [])) lent (Accepted 2) (0 ∷ 2 ∷ none ∷ [])
    ∷ case model_a 4 (arrival 8 (4 ∷ 0 ∷ 8 ∷ []) (3 ∷ none ∷ 0 ∷ [])) lent (Refused 14 0) lent
    ∷ []

-- the other case of the table, which is run
abbrev pub run : List Case
run =
    case model_a 8 (costly (6 ∷ 0 ∷ 0 ∷ []) (1 ∷ none ∷ 0 ∷ [])) lent (Accepted 1) (0 ∷ 2 ∷ none ∷ [])
    ∷ []
