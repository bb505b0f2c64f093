-- What one action is judged by, and the lowest action of a state: over the numbers of the state and the tables that are walked.
use Rattle.std.specs.Prelude.{ℕ, ◌+◌, ◌*◌, Bool, cond, not, ◌&&◌, ◌||◌, List, Option, None, Some, ltb, get_or}
use Rattle.std.specs.Bool.{beq}
use Rattle.walk.specs.Fold.{first, least, sum, any}
use Rattle.model.specs.declared.kinds.Kind.{Kind}
use Rattle.model.specs.Limits.{none}
use Rattle.model.specs.Tables.{Model, Claim, first_action, destination_at, cost, claim, rank}
use Rattle.model.specs.Conditions.{weighted_over, expected_of, suits_by, falls_over}
use Rattle.actions.specs.declared.State.{State}

-- the tables that judging a state's actions walks
pub record Rows : Type 0 where
  pub branch_starts : List ℕ
  pub destinations : List ℕ
  pub weights : List ℕ
  pub claims : List ℕ
  pub ranks : List ℕ

abbrev pub rows_of : (a b c d e : List ℕ) → Rows
rows_of a b c d e = record { branch_starts = a; destinations = b; weights = c; claims = d; ranks = e }

-- the rows of a model and a claim, and the numbers of a state
abbrev pub rows_in : Model → Claim → Rows
rows_in t u = rows_of t.branch_starts t.destinations t.weights u.claims u.ranks

abbrev pub state_of : Model → Claim → ℕ → State
state_of t u s =
    record {
      place = s;
      mark = get_or t.marks s 0;
      first = first_action t s;
      end = first_action t (s + 1);
      scale = t.d;
      claim = claim u s;
      cost = cost u s;
      rank = rank u s;
    }

-- the least rank of the destinations of a stretch of branches, or none
unfoldable pub least_of : List ℕ → List ℕ → ℕ → ℕ → ℕ
unfolding least
least_of destinations ranks lo hi = least (λ j. get_or ranks (destination_at destinations j) 0) none lo hi

-- an action suits and, where 24 is asked, falls
abbrev pub kept : (asked suits falls : Bool) → Bool
kept asked suits falls = suits && (not asked || falls)

-- by its branches, from lo up to, not with, hi
unfoldable pub suits_over : Kind → State → (destinations weights claims : List ℕ) → (lo hi : ℕ) → Bool
unfolding sum
suits_over k x destinations weights claims lo hi =
    suits_by k (x.scale * x.claim) (expected_of k x.scale x.cost (weighted_over destinations weights claims lo hi))

-- by its number
unfoldable pub suits_in : Kind → State → Rows → ℕ → Bool
unfolding suits_over
suits_in k x y a =
    suits_over k x y.destinations y.weights y.claims (get_or y.branch_starts a 0) (get_or y.branch_starts (a + 1) 0)

unfoldable pub falls_in : State → Rows → ℕ → Bool
unfolding any
falls_in x y a = falls_over y.destinations y.ranks x.rank (get_or y.branch_starts a 0) (get_or y.branch_starts (a + 1) 0)

-- the lowest action of a state that does so, or that does not, as wanted; the end of its actions if there is none
unfoldable pub lowest_of : Kind → (wanted asked : Bool) → State → Rows → ℕ
unfolding first suits_in falls_in
lowest_of k wanted asked x y = first (λ a. beq (kept asked (suits_in k x y a) (falls_in x y a)) wanted) x.first x.end

-- an action, where it is below the end
abbrev pub below : ℕ → ℕ → Option ℕ
below a end = cond (ltb a end) (Some a) None
