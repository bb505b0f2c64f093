-- The tables of a model and a claim, and what stands in them.
use Rattle.std.specs.Prelude.{ℕ, ◌-◌, Bool, not, List, eqb, length, get_or}
use Rattle.model.specs.declared.tables.Model as lent_model
use Rattle.model.specs.declared.tables.Claim as lent_claim
use Rattle.model.specs.Limits.{none}

-- the scale D of weights, and tables 1 to 5
pub record Model : Type 0 where
  pub d : ℕ
  pub marks : List ℕ
  pub action_starts : List ℕ
  pub branch_starts : List ℕ
  pub destinations : List ℕ
  pub weights : List ℕ

-- the scale C of claims, and tables 6 to 8
pub record Claim : Type 0 where
  pub c : ℕ
  pub costs : List ℕ
  pub claims : List ℕ
  pub ranks : List ℕ

-- the records of lent tables
abbrev pub model_of : ℕ → List ℕ → List ℕ → List ℕ → List ℕ → List ℕ → Model
model_of d marks action_starts branch_starts destinations weights =
    record {
      d = d;
      marks = marks;
      action_starts = action_starts;
      branch_starts = branch_starts;
      destinations = destinations;
      weights = weights;
    }

abbrev pub claim_of : ℕ → List ℕ → List ℕ → List ℕ → Claim
claim_of c costs claims ranks = record { c = c; costs = costs; claims = claims; ranks = ranks }

-- the records of tables that are lent together
abbrev pub model_in : lent_model.Model → Model
model_in t = model_of t.d t.marks.now t.action_starts.now t.branch_starts.now t.destinations.now t.weights.now

abbrev pub claim_in : lent_claim.Claim → Claim
claim_in u = claim_of u.c u.costs.now u.claims.now u.ranks.now

-- n states, m actions and b branches
abbrev pub states : Model → ℕ
states t = length t.marks

abbrev pub actions : Model → ℕ
actions t = length t.branch_starts - 1

abbrev pub branches : Model → ℕ
branches t = length t.destinations

-- state s is a target
abbrev pub target : Model → ℕ → Bool
target t s = eqb (get_or t.marks s 0) 1

-- state s owns the actions from its first up to, not with, the first of state s + 1
abbrev pub first_action : Model → ℕ → ℕ
first_action t s = get_or t.action_starts s 0

-- action a owns the branches from its first up to, not with, the first of action a + 1
abbrev pub first_branch : Model → ℕ → ℕ
first_branch t a = get_or t.branch_starts a 0

-- where branch j leads, and its weight
abbrev pub destination_at : List ℕ → ℕ → ℕ
destination_at destinations j = get_or destinations j 0

abbrev pub weight_at : List ℕ → ℕ → ℕ
weight_at weights j = get_or weights j 0

abbrev pub destination : Model → ℕ → ℕ
destination t j = destination_at t.destinations j

abbrev pub weight : Model → ℕ → ℕ
weight t j = weight_at t.weights j

-- what the weights of action a add up to, and its conditions are taken over
abbrev pub scale : Model → ℕ → ℕ
scale t a = t.d

abbrev pub cost : Claim → ℕ → ℕ
cost u s = get_or u.costs s 0

abbrev pub claim : Claim → ℕ → ℕ
claim u s = get_or u.claims s 0

abbrev pub rank : Claim → ℕ → ℕ
rank u s = get_or u.ranks s 0

-- a rank that is not none
abbrev pub is_rank : ℕ → Bool
is_rank r = not (eqb r none)

abbrev pub ranked : Claim → ℕ → Bool
ranked u s = is_rank (rank u s)
