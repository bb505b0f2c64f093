-- What the row tests ask of the tables before they count: their lengths, and of the walk over rows that the starts are right.
use Rattle.std.specs.Prelude.{◌+◌, ◌≤◌, ◌≡◌, length}
use Rattle.model.specs.Limits.{most_states, most_actions, most_branches}
use Rattle.model.specs.Tables.{Model, states, branches}
use Rattle.model.specs.WellFormed.{Starts}

pub record Fitting (t : Model) : Type 0 where
  pub n_most : states t ≤ most_states
  pub table2 : length t.action_starts ≡ states t + 1
  pub table3_least : 2 ≤ length t.branch_starts
  pub table3_most : length t.branch_starts ≤ most_actions + 1
  pub table4 : branches t ≤ most_branches
  pub table5 : length t.weights ≡ branches t

-- the actions and their branches
pub record Walkable (t : Model) : Type 0 where
  pub starts : Starts t.branch_starts (branches t)
  pub table3_least : 2 ≤ length t.branch_starts
  pub table3_most : length t.branch_starts ≤ most_actions + 1
  pub table4 : branches t ≤ most_branches
  pub table5 : length t.weights ≡ branches t
