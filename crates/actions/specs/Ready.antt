-- What judging an action asks of its state's numbers and of the tables that it walks: no place is outside, and no sum wraps.
use Rattle.std.specs.Prelude.{ℕ, ◌+◌, ◌*◌, ◌≤◌, ◌<◌, ◌≡◌, true, false, List, length, get_or}
use Rattle.model.specs.declared.kinds.Kind.{Kind}
use Rattle.model.specs.Limits.{most_weight_scale, most_cost, most_cost_claim, none}
use Rattle.model.specs.Kinds.{is_cost, is_at_least}
use Rattle.model.specs.Tables.{destination_at}
use Rattle.model.specs.Conditions.{weighted_over}
use Rattle.actions.specs.declared.State.{State}
use Rattle.actions.specs.Judging.{Rows}

-- a stretch of branches whose weighted sum can be taken: its places are in the tables, and the sum fits
pub record Weighable (destinations weights claims : List ℕ) (lo hi : ℕ) : Type 0 where
  pub low : lo ≤ hi
  pub in_destinations : hi ≤ length destinations
  pub in_weights : hi ≤ length weights
  pub inside : (j : ℕ) → lo ≤ j → j < hi → destination_at destinations j < length claims
  pub light : weighted_over destinations weights claims lo hi ≤ most_weight_scale * most_cost_claim

-- numbers of a state in their ranges; a claim that is not about cost has none
pub record Standing (k : Kind) (x : State) : Type 0 where
  pub scale_most : x.scale ≤ most_weight_scale
  pub claim_most : x.claim ≤ most_cost_claim
  pub cost_most : x.cost ≤ most_cost
  pub no_cost : is_cost k.measure ≡ false → x.cost ≡ 0
  pub rank_most : x.rank ≤ none

-- a state whose actions can be walked
pub record Walkable (k : Kind) (x : State) (y : Rows) : Type 0 where
  pub standing : Standing k x
  pub rises : x.first ≤ x.end
  pub within : x.end < length y.branch_starts
  pub stretches : (a : ℕ) → a < x.end
      → Weighable y.destinations y.weights y.claims (get_or y.branch_starts a 0) (get_or y.branch_starts (a + 1) 0)
  pub ranked : is_at_least k.bound ≡ true → length y.ranks ≡ length y.claims
