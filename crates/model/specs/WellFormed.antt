-- Well-formed tables, as propositions: what holds where no refusal from 2 to 14 stands.
use Rattle.std.specs.Prelude.{ℕ, ◌+◌, ◌≤◌, ◌<◌, ◌≡◌, true, List, ◌⊎◌, length, get_or}
use Rattle.walk.specs.Fold.{sum}
use Rattle.model.specs.declared.kinds.Kind.{Kind}
use Rattle.model.specs.Limits.{most_states, most_actions, most_branches, most_weight_scale, most_claim_scale, most_cost, none}
use Rattle.model.specs.Kinds.{is_cost}
use Rattle.model.specs.Tables.{Model, Claim, states, actions, branches, first_branch, destination, weight, scale, cost, claim, rank}
use Rattle.model.specs.Refusals.{entries, limit_of}

-- 2 to 5: scales, counts and lengths are right
pub record Sized (k : Kind) (t : Model) (u : Claim) (chosen : ℕ) : Type 0 where
  pub d_least : 1 ≤ t.d
  pub d_most : t.d ≤ most_weight_scale
  pub c_least : 1 ≤ u.c
  pub c_most : u.c ≤ most_claim_scale
  pub c_cost : is_cost k.measure ≡ true → u.c ≡ 1
  pub n_least : 1 ≤ states t
  pub n_most : states t ≤ most_states
  pub table2 : length t.action_starts ≡ states t + 1
  pub table3_least : 2 ≤ length t.branch_starts
  pub table3_most : length t.branch_starts ≤ most_actions + 1
  pub table4 : branches t ≤ most_branches
  pub table5 : length t.weights ≡ branches t
  pub table6 : length u.costs ≡ entries k.costs (states t)
  pub table7 : length u.claims ≡ states t
  pub table8 : length u.ranks ≡ entries k.ranks (states t)
  pub table9 : chosen ≡ entries k.choices (states t)

-- the starts of a table begin at 0, rise strictly and end at the end
pub record Starts (starts : List ℕ) (end : ℕ) : Type 0 where
  pub begins : get_or starts 0 0 ≡ 0
  pub rises : (i : ℕ) → i + 1 < length starts → get_or starts i 0 < get_or starts (i + 1) 0
  pub ends : (i : ℕ) → i + 1 ≡ length starts → get_or starts i 0 ≡ end

-- 9 to 11: the rows of one action are right
pub record Row (t : Model) (a : ℕ) : Type 0 where
  pub destinations : (j : ℕ) → first_branch t a ≤ j → j < first_branch t (a + 1) → destination t j < states t
  pub weight_least : (j : ℕ) → first_branch t a ≤ j → j < first_branch t (a + 1) → 1 ≤ weight t j
  pub weight_most : (j : ℕ) → first_branch t a ≤ j → j < first_branch t (a + 1) → weight t j ≤ scale t a
  pub total : sum (weight t) (first_branch t a) (first_branch t (a + 1)) ≡ scale t a

-- 6 to 11: the rows are counted
pub record Counted (t : Model) : Type 0 where
  pub action-starts : Starts t.action_starts (actions t)
  pub branch-starts : Starts t.branch_starts (branches t)
  pub marks : (s : ℕ) → s < states t → get_or t.marks s 0 ≤ 1
  pub rows : (a : ℕ) → a < actions t → Row t a

-- 12 to 14: costs, claims and ranks are in range
pub record InRange (k : Kind) (t : Model) (u : Claim) : Type 0 where
  pub costs : (s : ℕ) → s < length u.costs → cost u s ≤ most_cost
  pub claims : (s : ℕ) → s < length u.claims → claim u s ≤ limit_of k u.c
  pub ranks : (s : ℕ) → s < length u.ranks → (rank u s < states t) ⊎ (rank u s ≡ none)

pub record WellFormed (k : Kind) (t : Model) (u : Claim) (chosen : ℕ) : Type 0 where
  pub sized : Sized k t u chosen
  pub counted : Counted t
  pub in_range : InRange k t u
