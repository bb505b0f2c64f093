-- Refusals 1 to 14: rows before claims, in number order, each number beside its test.
use Rattle.std.specs.Prelude.{ℕ, ◌+◌, ◌-◌, Bool, cond, not, ◌&&◌, ◌||◌, List, [], ◌∷◌, ◌++◌, leb, ltb, eqb, length, get_or}
use Rattle.walk.specs.Fold.{sum}
use Rattle.model.specs.declared.answers.Verdict.{Verdict}
use Rattle.model.specs.declared.kinds.Kind.{Kind}
use Rattle.model.specs.declared.tables.Lengths.{Lengths}
use Rattle.model.specs.Limits.{most_states, most_actions, most_branches, most_weight_scale, most_claim_scale}
use Rattle.model.specs.Limits.{most_cost, most_cost_claim, none}
use Rattle.model.specs.Kinds.{is_cost, is_kind, kind_of}
use Rattle.model.specs.Tables.{Model, Claim, states, actions, branches, first_branch, destination_at, weight_at, scale}
use Rattle.model.specs.Answers.{pass, tried, each, require, throughout}

abbrev pub between : ℕ → ℕ → ℕ → Bool
between lo hi x = leb lo x && leb x hi

-- 1: the kind is 1 to 8
unfoldable pub kind_test : ℕ → Verdict
unfolding require
kind_test kind = require (is_kind kind) 1 0

-- 2: D is 1 to 1,000,000
unfoldable pub weight_scale_test : ℕ → Verdict
unfolding require
weight_scale_test d = require (between 1 most_weight_scale d) 2 0

-- C is 1 to 1,000,000,000; for cost kinds exactly 1
abbrev pub claim_scale_right : Kind → ℕ → Bool
claim_scale_right k c = cond (is_cost k.measure) (eqb c 1) (between 1 most_claim_scale c)

-- 3: so is C
unfoldable pub claim_scale_test : Kind → ℕ → Verdict
unfolding require
claim_scale_test k c = require (claim_scale_right k c) 3 0

-- 4: there are 1 to 20,000 states
unfoldable pub states_test : ℕ → Verdict
unfolding require
states_test n = require (between 1 most_states n) 4 0

-- 5: a table has the length that it should have
unfoldable pub length_test : ℕ → Bool → Verdict
unfolding require
length_test table right = require right 5 table

-- the entries of a table that the claim has, or has not
abbrev pub entries : Bool → ℕ → ℕ
entries has n = cond has n 0

-- the entries of the choice list
abbrev pub choice_count : ℕ → ℕ → ℕ
choice_count kind n = entries (kind_of kind).choices n

-- the lengths of tables 1 to 8 and of the choice list
abbrev pub lengths_of : Model → Claim → ℕ → Lengths
lengths_of t u chosen =
    record {
      marks = length t.marks;
      action_starts = length t.action_starts;
      branch_starts = length t.branch_starts;
      destinations = length t.destinations;
      weights = length t.weights;
      costs = length u.costs;
      claims = length u.claims;
      ranks = length u.ranks;
      choices = chosen;
    }

-- tables 2 to 5, by n, m and b; and tables 6 to 9, by n and the kind
unfoldable pub model_lengths : Lengths → List Verdict
model_lengths l =
    length_test 2 (eqb l.action_starts (l.marks + 1))
    ∷ length_test 3 (between 2 (most_actions + 1) l.branch_starts)
    ∷ length_test 4 (leb l.destinations most_branches)
    ∷ length_test 5 (eqb l.weights l.destinations)
    ∷ []

unfoldable pub claim_lengths : Kind → Lengths → List Verdict
claim_lengths k l =
    length_test 6 (eqb l.costs (entries k.costs l.marks))
    ∷ length_test 7 (eqb l.claims l.marks)
    ∷ length_test 8 (eqb l.ranks (entries k.ranks l.marks))
    ∷ length_test 9 (eqb l.choices (entries k.choices l.marks))
    ∷ []

-- the first start is 0, and any other is above the one before it
abbrev pub start_rises : List ℕ → ℕ → Bool
start_rises starts i = cond (eqb i 0) (eqb (get_or starts i 0) 0) (ltb (get_or starts (i - 1) 0) (get_or starts i 0))

-- the last start is the end
abbrev pub start_ends : List ℕ → ℕ → ℕ → Bool
start_ends starts end i = not (eqb (i + 1) (length starts)) || eqb (get_or starts i 0) end

unfoldable pub start_right : List ℕ → ℕ → ℕ → Bool
start_right starts end i = start_rises starts i && start_ends starts end i

-- 6 and 7: the starts begin at 0, rise strictly and end at m, or b
unfoldable pub starts_test : ℕ → List ℕ → ℕ → Verdict
unfolding throughout
starts_test number starts end = throughout (start_right starts end) (length starts) number

-- 8: a target mark is 0 or 1
unfoldable pub marks_test : List ℕ → Verdict
unfolding throughout
marks_test marks = throughout (λ s. leb (get_or marks s 0) 1) (length marks) 8

-- 9: a destination is a state; 10: a weight is 1 to D
abbrev pub branch_over : (scale n : ℕ) → (destinations weights : List ℕ) → ℕ → Verdict
branch_over scale n destinations weights j =
    tried (require (ltb (destination_at destinations j) n) 9 j ∷ require (between 1 scale (weight_at weights j)) 10 j ∷ []) pass

unfoldable pub branch_test : Model → ℕ → ℕ → Verdict
unfolding tried require
branch_test t a j = branch_over (scale t a) (states t) t.destinations t.weights j

-- 11: the weights of action a, its branches from lo up to, not with, hi, add up to D
abbrev pub total_over : (scale : ℕ) → (weights : List ℕ) → (a lo hi : ℕ) → Verdict
total_over scale weights a lo hi = require (eqb (sum (weight_at weights) lo hi) scale) 11 a

unfoldable pub total_test : Model → ℕ → Verdict
unfolding require sum
total_test t a = total_over (scale t a) t.weights a (first_branch t a) (first_branch t (a + 1))

-- the branches of an action in order, and then their total
abbrev pub row_over : (scale n : ℕ) → (destinations weights : List ℕ) → (a lo hi : ℕ) → Verdict
row_over scale n destinations weights a lo hi =
    each (branch_over scale n destinations weights) lo hi (total_over scale weights a lo hi)

unfoldable pub action_test : Model → ℕ → Verdict
unfolding each tried require sum
action_test t a = row_over (scale t a) (states t) t.destinations t.weights a (first_branch t a) (first_branch t (a + 1))

-- 9, 10 and 11 are one walk over the actions in order
unfoldable pub walk_test : Model → Verdict
unfolding each
walk_test t = each (action_test t) 0 (actions t) pass

-- 6 to 11: the rows counted, in tables whose lengths are right
unfoldable pub row_tests : Model → List Verdict
row_tests t =
    starts_test 6 t.action_starts (actions t)
    ∷ starts_test 7 t.branch_starts (branches t)
    ∷ marks_test t.marks
    ∷ walk_test t
    ∷ []

-- 12: a cost is at most 1,000,000,000
unfoldable pub costs_test : List ℕ → Verdict
unfolding throughout
costs_test costs = throughout (λ s. leb (get_or costs s 0) most_cost) (length costs) 12

-- an arrival claim is 0 to C, a cost claim 0 to 1,000,000,000,000
abbrev pub limit_of : Kind → ℕ → ℕ
limit_of k c = cond (is_cost k.measure) most_cost_claim c

-- 13: a claim is 0 to its limit
unfoldable pub claims_test : ℕ → List ℕ → Verdict
unfolding throughout
claims_test limit claims = throughout (λ s. leb (get_or claims s 0) limit) (length claims) 13

-- 14: a rank is 0 to n - 1, or none
abbrev pub rank_right : ℕ → ℕ → Bool
rank_right n r = ltb r n || eqb r none

unfoldable pub ranks_test : ℕ → List ℕ → Verdict
unfolding throughout
ranks_test n ranks = throughout (λ s. rank_right n (get_or ranks s 0)) (length ranks) 14

-- 2 to 5: the scales, the number of states and the lengths of the tables
unfoldable pub sizes_of : Kind → ℕ → ℕ → Lengths → List Verdict
sizes_of k d c l = weight_scale_test d ∷ claim_scale_test k c ∷ states_test l.marks ∷ (model_lengths l ++ claim_lengths k l)

unfoldable pub size_tests : Kind → Model → Claim → ℕ → List Verdict
unfolding sizes_of
size_tests k t u chosen = sizes_of k t.d u.c (lengths_of t u chosen)

-- 12 to 14: costs, claims and ranks in their ranges
unfoldable pub ranges_of : Kind → ℕ → ℕ → List ℕ → List ℕ → List ℕ → List Verdict
ranges_of k n c costs claims ranks = costs_test costs ∷ claims_test (limit_of k c) claims ∷ ranks_test n ranks ∷ []

unfoldable pub range_tests : Kind → Model → Claim → List Verdict
unfolding ranges_of
range_tests k t u = ranges_of k (states t) u.c u.costs u.claims u.ranks

-- the refusals 2 to 14 of a claim of kind k with a choice list so long, in number order
unfoldable pub tests : Kind → Model → Claim → ℕ → List Verdict
tests k t u chosen = size_tests k t u chosen ++ (row_tests t ++ range_tests k t u)
