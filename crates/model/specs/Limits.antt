-- The limits of document 01 and the none mark, each once.
use Rattle.std.specs.Prelude.{ℕ}

-- a model's greatest counts of states, actions and branches
abbrev pub most_states : ℕ
most_states = 20000

abbrev pub most_actions : ℕ
most_actions = 100000

abbrev pub most_branches : ℕ
most_branches = 1000000

-- the greatest scale D of weights
abbrev pub most_weight_scale : ℕ
most_weight_scale = 1000000

-- the greatest scale C of arrival claims; cost claims have scale 1
abbrev pub most_claim_scale : ℕ
most_claim_scale = 1000000000

-- the greatest cost of a state, and the greatest claim of a cost kind
abbrev pub most_cost : ℕ
most_cost = 1000000000

abbrev pub most_cost_claim : ℕ
most_cost_claim = 1000000000000

-- the mark for none: of a rank, of a choice and of the action of an answer
abbrev pub none : ℕ
none = 4294967295
