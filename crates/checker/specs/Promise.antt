-- What the check promises: the answer and the choice list at exit, and demand 3 of what it accepts.
use Rattle.std.specs.Prelude.{ℕ, ◌≡◌, List}
use Rattle.model.specs.declared.answers.Answer.{Answer}
use Rattle.model.specs.declared.answers.Verdict.TheVariants.{Accepted}
use Rattle.model.specs.Kinds.{kind_of}
use Rattle.model.specs.Tables.{Model, Claim}
use Rattle.model.specs.Checked.{answer_of, choices_of}
use Rattle.soundness.specs.Demand3.{Holds}

-- the answer and the choice list at exit are those of the definition, and an accepted claim holds for its strategies
pub record Checked (kind : ℕ) (t : Model) (u : Claim) (before : List ℕ) (r : Answer) (after : List ℕ) : Type 0 where
  pub answer : r ≡ answer_of kind t u before
  pub choices : after ≡ choices_of kind t u before
  pub sound : (R : ℕ) → r.verdict ≡ Accepted R → Holds (kind_of kind) t u R after
