-- The fixed point conditions 21 to 24, each over the numbers that it judges, and then at a state, in the order in which they are
-- tried.
use Rattle.std.specs.Prelude.{ℕ, ◌+◌, ◌*◌, Bool, true, cond, not, ◌&&◌, ◌||◌, List, [], ◌∷◌, leb, ltb, eqb, get_or}
use Rattle.walk.specs.Fold.{sum, any, all, first}
use Rattle.model.specs.declared.answers.Verdict.{Verdict}
use Rattle.model.specs.declared.answers.Verdict.TheVariants.{Violated}
use Rattle.model.specs.declared.kinds.Kind.{Kind}
use Rattle.model.specs.Limits.{none}
use Rattle.model.specs.Kinds.{is_cost, is_at_least, is_some}
use Rattle.model.specs.Tables.{Model, Claim, target, first_action, first_branch, destination_at, weight_at, scale, cost, claim}
use Rattle.model.specs.Tables.{rank, is_rank}
use Rattle.model.specs.Answers.{pass, tried}

-- the sum over the branches from lo up to, not with, hi of weight times the destination's claim
abbrev pub weighted_over : (destinations weights claims : List ℕ) → (lo hi : ℕ) → ℕ
weighted_over destinations weights claims lo hi = sum (λ j. weight_at weights j * get_or claims (destination_at destinations j) 0) lo hi

unfoldable pub weighted : Model → Claim → ℕ → ℕ
unfolding sum
weighted t u a = weighted_over t.destinations t.weights u.claims (first_branch t a) (first_branch t (a + 1))

-- E: that sum, plus, for cost kinds, D times the cost of s
abbrev pub expected_of : Kind → (scale cost sum : ℕ) → ℕ
expected_of k scale cost sum = sum + cond (is_cost k.measure) (scale * cost) 0

unfoldable pub expected : Kind → Model → Claim → ℕ → ℕ → ℕ
unfolding weighted
expected k t u s a = expected_of k (scale t a) (cost u s) (weighted t u a)

-- the action suits: E <= D * claim(s) ("at most") or E >= D * claim(s) ("at least")
abbrev pub suits_by : Kind → (due e : ℕ) → Bool
suits_by k due e = cond (is_at_least k.bound) (leb due e) (leb e due)

unfoldable pub suits : Kind → Model → Claim → ℕ → ℕ → Bool
unfolding expected
suits k t u s a = suits_by k (scale t a * claim u s) (expected k t u s a)

-- the action falls: some branch has a destination with a rank that is not none and is below the rank of s
abbrev pub falls_over : (destinations ranks : List ℕ) → (r lo hi : ℕ) → Bool
falls_over destinations ranks r lo hi =
    any (λ j. is_rank (get_or ranks (destination_at destinations j) 0) && ltb (get_or ranks (destination_at destinations j) 0) r) lo hi

unfoldable pub falls : Model → Claim → ℕ → ℕ → Bool
unfolding any
falls t u s a = falls_over t.destinations u.ranks (rank u s) (first_branch t a) (first_branch t (a + 1))

-- a test of all actions of a state, or of at least one
abbrev pub every_action : Model → ℕ → (ℕ → Bool) → Bool
every_action t s p = all p (first_action t s) (first_action t (s + 1))

abbrev pub some_action : Model → ℕ → (ℕ → Bool) → Bool
some_action t s p = any p (first_action t s) (first_action t (s + 1))

-- the lowest action of a state for which the test holds
abbrev pub lowest_action : Model → ℕ → (ℕ → Bool) → ℕ
lowest_action t s p = first p (first_action t s) (first_action t (s + 1))

-- violated with this number at this state and action, unless it is met
unfoldable pub ask : Bool → ℕ → ℕ → ℕ → Verdict
ask met number s a = cond met pass (Violated number s a)

-- "every": all actions, and the lowest that breaks it is named; "some": at least one, and none is named
abbrev pub ask_over : Kind → (number s lo hi : ℕ) → (every some : ℕ → Bool) → Verdict
ask_over k number s lo hi every some =
    cond (is_some k.who)
    (ask (any some lo hi) number s none)
    (ask (all every lo hi) number s (first (λ a. not (every a)) lo hi))

unfoldable pub ask_actions : Kind → Model → ℕ → ℕ → (every some : ℕ → Bool) → Verdict
unfolding ask any all first
ask_actions k t number s every some = ask_over k number s (first_action t s) (first_action t (s + 1)) every some

-- what 21 asks of a target's claim: C (arrival, at most); no less than the target's cost (cost, at most), or no more (cost, at least);
-- of arrival, at least, it asks nothing
unfoldable pub target_asks : Kind → (c cost claim : ℕ) → Bool
target_asks k c cost claim =
    cond (is_cost k.measure)
    (cond (is_at_least k.bound) (leb claim cost) (leb cost claim))
    (cond (is_at_least k.bound) true (eqb claim c))

-- 21: a target's claim
unfoldable pub condition21 : Kind → Model → Claim → ℕ → Verdict
unfolding ask target_asks
condition21 k t u s = ask (not (target t s) || target_asks k u.c (cost u s) (claim u s)) 21 s none

-- 22: non-target: all actions suit ("every"), or at least one does ("some")
unfoldable pub condition22 : Kind → Model → Claim → ℕ → Verdict
unfolding ask_actions suits
condition22 k t u s = cond (target t s) pass (ask_actions k t 22 s (suits k t u s) (suits k t u s))

-- 23, "at least" only, targets too: a claim above 0 has a rank that is not none
unfoldable pub rank_asks : Kind → (claim rank : ℕ) → Bool
rank_asks k claim rank = not (is_at_least k.bound) || (eqb claim 0 || is_rank rank)

unfoldable pub condition23 : Kind → Claim → ℕ → Verdict
unfolding ask rank_asks
condition23 k u s = ask (rank_asks k (claim u s) (rank u s)) 23 s none

-- 24 is asked at a non-target with a rank, "at least" only
unfoldable pub fall_asked : Kind → (rank : ℕ) → Bool
fall_asked k rank = is_at_least k.bound && is_rank rank

unfoldable pub asks_fall : Kind → Model → Claim → ℕ → Bool
unfolding fall_asked
asks_fall k t u s = not (target t s) && fall_asked k (rank u s)

-- 24: all actions fall ("every"), or at least one both suits and falls ("some")
unfoldable pub condition24 : Kind → Model → Claim → ℕ → Verdict
unfolding ask_actions asks_fall suits falls
condition24 k t u s =
    cond (asks_fall k t u s) (ask_actions k t 24 s (falls t u s) (λ a. suits k t u s a && falls t u s a)) pass

-- the conditions of one state, in order
unfoldable pub judged : Kind → Model → Claim → ℕ → Verdict
unfolding tried
judged k t u s = tried (condition21 k t u s ∷ condition22 k t u s ∷ condition23 k u s ∷ condition24 k t u s ∷ []) pass
