-- What the exported functions answer: numbers, and lists of numbers.
use Rattle.std.specs.Prelude.{ℕ, ◌≡◌, cond, List, eqb, length}
use Rattle.model.specs.declared.answers.Verdict.TheVariants.{Accepted, Refused}
use Rattle.model.specs.Answers.{number, then}
use Rattle.model.specs.Tables.{Model, Claim}
use Rattle.model.specs.Checked.{refusal_of, answer_of, choices_of}
use Rattle.model.specs.Kinds.{kind_of}
use Rattle.soundness.specs.Demand3.{Holds}
use Rattle.results.specs.Lists.{numbers_of}

-- the number that comes back: an answer list that is not 4 long is 5, after the numbered refusals
unfoldable pub number_of : ℕ → Model → Claim → List ℕ → List ℕ → ℕ
unfolding answer_of refusal_of then
number_of kind t u choices answer =
    cond (eqb (length answer) 4)
    (number (answer_of kind t u choices).verdict)
    (number (then (refusal_of kind t u (length choices)) (Refused 5 0)))

-- the check as exported: an answer list that is not 4 long is left alone, and so is the choice list then
pub record CheckedInto
    (kind : ℕ)
    (t : Model)
    (u : Claim)
    (before answer-before : List ℕ)
    (r : ℕ)
    (after answer-after : List ℕ)
    : Type 0 where
  pub result : r ≡ number_of kind t u before answer-before
  pub choices : after ≡ cond (eqb (length answer-before) 4) (choices_of kind t u before) before
  pub answer : answer-after ≡ cond (eqb (length answer-before) 4) (numbers_of (answer_of kind t u before)) answer-before
  pub sound : length answer-before ≡ 4 → (R : ℕ) → (answer_of kind t u before).verdict ≡ Accepted R → Holds (kind_of kind) t u R after
