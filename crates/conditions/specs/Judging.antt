-- What the states are judged by, one state by its own numbers, and the room for their choices.
use Rattle.std.specs.Prelude.{ℕ, ◌≡◌, true, cond, not, ◌&&◌, List, [], ◌∷◌, ◌++◌, Result, Ok, eqb, drop}
use Rattle.walk.specs.Fold.{first, any, all, listed}
use Rattle.model.specs.declared.answers.Verdict.{Verdict}
use Rattle.model.specs.declared.kinds.Kind.{Kind}
use Rattle.model.specs.Limits.{none}
use Rattle.model.specs.Kinds.{is_some}
use Rattle.model.specs.Tables.{Model, Claim, states}
use Rattle.model.specs.declared.answers.Violation.{Violation}
use Rattle.model.specs.Answers.{pass, held, tried}
use Rattle.model.specs.Conditions.{ask, ask_over, target_asks, rank_asks, fall_asked, judged}
use Rattle.model.specs.Checked.{accepts, choice}
use Rattle.actions.specs.declared.State.{State}
use Rattle.actions.specs.Judging.{Rows, suits_in, falls_in, lowest_of}

-- 23
unfoldable pub verdict23 : Kind → State → Verdict
unfolding ask rank_asks
verdict23 k x = ask (rank_asks k x.claim x.rank) 23 x.place none

-- 21 and 23 at a target
unfoldable pub target_verdict : Kind → ℕ → State → Verdict
unfolding tried ask target_asks verdict23
target_verdict k c x = tried (ask (target_asks k c x.cost x.claim) 21 x.place none ∷ verdict23 k x ∷ []) pass

-- 22 to 24 at a non-target, and the action chosen
unfoldable pub open_verdict : Kind → State → Rows → Verdict
unfolding tried ask any all first suits_in falls_in verdict23 fall_asked
open_verdict k x y =
    tried
    (ask_over k 22 x.place x.first x.end (suits_in k x y) (suits_in k x y)
    ∷ verdict23 k x
    ∷ cond (fall_asked k x.rank)
    (ask_over k 24 x.place x.first x.end (falls_in x y) (λ a. suits_in k x y a && falls_in x y a)) pass
    ∷ [])
    pass

unfoldable pub open_choice : Kind → State → Rows → ℕ
unfolding lowest_of fall_asked
open_choice k x y = cond (is_some k.who) (lowest_of k true (fall_asked k x.rank) x y) none

-- 21 to 24 at a state, and its choice: none of an "every" kind and at a target
unfoldable pub state_verdict : Kind → ℕ → State → Rows → Verdict
unfolding target_verdict open_verdict
state_verdict k c x y = cond (eqb x.mark 1) (target_verdict k c x) (open_verdict k x y)

unfoldable pub state_choice : Kind → State → Rows → ℕ
unfolding open_choice
state_choice k x y = cond (eqb x.mark 1) none (open_choice k x y)

-- a state is judged: what is said of it and, where nothing breaks, its choice
pub record Judges (v : Verdict) (a : ℕ) (r : Result ℕ Violation) : Type 0 where
  pub verdict : held r ≡ v
  pub choice : (x : ℕ) → r ≡ Ok x → x ≡ a

-- the choice of a "some" kind, none of an "every" kind
unfoldable pub picked : Kind → Model → Claim → ℕ → ℕ
unfolding choice
picked k t u s = cond (is_some k.who) (choice k t u s) none

-- the lowest state that breaks a condition, or n
unfoldable pub broken : Kind → Model → Claim → ℕ
unfolding first judged
broken k t u = first (λ s. not (accepts (judged k t u s))) 0 (states t)

-- the room for choices once the states are judged: written up to the state that breaks a condition
unfoldable pub room_of : Kind → Model → Claim → List ℕ → List ℕ
unfolding listed picked broken
room_of k t u room = listed (picked k t u) 0 (broken k t u) ++ drop (broken k t u) room
