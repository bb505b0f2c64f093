-- The whole check: refusals, then the conditions of the states in order, then acceptance with R and the choices.
use Rattle.std.specs.Prelude.{ℕ, Bool, true, false, cond, ◌&&◌, List, eqb, length, get_or}
use Rattle.walk.specs.Fold.{greatest, listed}
use Rattle.model.specs.declared.answers.Verdict.{Verdict}
use Rattle.model.specs.declared.answers.Verdict.TheVariants.{Accepted, Refused, Violated}
use Rattle.model.specs.declared.answers.Answer.{Answer}
use Rattle.model.specs.declared.kinds.Kind.{Kind}
use Rattle.model.specs.Limits.{none}
use Rattle.model.specs.Kinds.{kind_of}
use Rattle.model.specs.Tables.{Model, Claim, states, target}
use Rattle.model.specs.Answers.{pass, then, tried, each}
use Rattle.model.specs.Refusals.{choice_count, kind_test, tests}
use Rattle.model.specs.Conditions.{suits, falls, lowest_action, asks_fall, judged}

-- a rank that is not none, else 0
abbrev pub rank_or_zero : ℕ → ℕ
rank_or_zero r = cond (eqb r none) 0 r

-- R, the greatest rank that is not none; 0 if there is none or no ranks
unfoldable pub greatest_rank : List ℕ → ℕ
unfolding greatest
greatest_rank ranks = greatest (λ s. rank_or_zero (get_or ranks s 0)) 0 (length ranks)

-- the states in order, and acceptance where none breaks a condition
unfoldable pub conditions : Kind → Model → Claim → Verdict
unfolding each judged greatest_rank
conditions k t u = each (judged k t u) 0 (states t) (Accepted (greatest_rank u.ranks))

-- the verdict on a claim of kind k
unfoldable pub verdict_of : Kind → Model → Claim → List ℕ → Verdict
unfolding tried tests conditions
verdict_of k t u choices = tried (tests k t u (length choices)) (conditions k t u)

-- the refusal from 1 to 14 that stands with a choice list so long, or a pass
unfoldable pub refusal_of : ℕ → Model → Claim → ℕ → Verdict
unfolding then kind_test tried tests
refusal_of kind t u chosen = then (kind_test kind) (tried (tests (kind_of kind) t u chosen) pass)

-- the choice list aside: as if it were as long as it should be
unfoldable pub aside_of : ℕ → Model → Claim → Verdict
unfolding refusal_of
aside_of kind t u = refusal_of kind t u (choice_count kind (states t))

-- the answer: the kind's number as lent, and the verdict
unfoldable pub answer_of : ℕ → Model → Claim → List ℕ → Answer
unfolding then kind_test verdict_of
answer_of kind t u choices = record { kind = kind; verdict = then (kind_test kind) (verdict_of (kind_of kind) t u choices) }

-- the choice at a state: none at a target; where 24 is asked the lowest action that suits and falls; else the lowest that suits
unfoldable pub choice : Kind → Model → Claim → ℕ → ℕ
unfolding suits falls asks_fall
choice k t u s =
    cond (target t s) none
    (cond (asks_fall k t u s)
    (lowest_action t s (λ a. suits k t u s a && falls t u s a))
    (lowest_action t s (suits k t u s)))

abbrev pub accepts : Verdict → Bool
accepts (Accepted r) = true
accepts (Refused k p) = false
accepts (Violated k s a) = false

-- the choice list after a verdict: written whole on acceptance of a "some" kind, and else as it was
unfoldable pub chosen_of : Kind → Model → Claim → List ℕ → Verdict → List ℕ
unfolding choice listed
chosen_of k t u choices v = cond (accepts v && k.choices) (listed (choice k t u) 0 (states t)) choices

-- the choice list at exit
unfoldable pub choices_of : ℕ → Model → Claim → List ℕ → List ℕ
unfolding answer_of chosen_of
choices_of kind t u choices = chosen_of (kind_of kind) t u choices (answer_of kind t u choices).verdict
