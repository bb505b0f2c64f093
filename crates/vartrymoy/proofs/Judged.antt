-- What is judged, by the length of the answer list. Assumes nothing.
use mathlib.Core.Path.{◌≡◌, ap, ◌∙◌}
use mathlib.Core.List.{List}
use Prim.Native.Nat.{ℕ}
use borrow.Author.Tests.{eq-eqb, ne_eqb}
use lib.ListN.{length}
use Rattle.model.specs.declared.answers.Answer.{Answer}
use Rattle.model.specs.declared.answers.Verdict.{Verdict}
use Rattle.model.specs.declared.answers.Verdict.TheVariants.{Refused}
use Rattle.model.specs.Answers.{number, then}
use Rattle.model.specs.Tables.{Model, Claim}
use Rattle.model.specs.Checked.{refusal_of}
use Rattle.checker.specs.Promise.{Checked}
use Rattle.results.specs.Lists.{numbers_of}
use Rattle.vartrymoy.specs.Exported.{number_of, CheckedInto}

module _ (kind : ℕ) (t : Model) (u : Claim) (before answer : List ℕ) where
  pub shut : (length answer ≡ 4 → ⊥) → (v : Verdict) (r : ℕ) → v ≡ refusal_of kind t u (length before) → r ≡ number (then v (Refused 5 0))
      → CheckedInto kind t u before answer r before answer
  unfolding number_of
  shut n v r e f =
      record {
        result = f ∙ rw (e, ne_eqb (length answer) 4 n);
        choices = rw (ne_eqb (length answer) 4 n);
        answer = rw (ne_eqb (length answer) 4 n);
        sound = λ l. absurd (n l);
      }

  pub answered : length answer ≡ 4 → (x : Answer) (r : ℕ) (after written : List ℕ) → Checked kind t u before x after → r ≡ number x.verdict
      → written ≡ numbers_of x
      → CheckedInto kind t u before answer r after written
  unfolding number_of
  answered l x r after written w e f =
      record {
        result = rw (eq-eqb (length answer) 4 l) (e ∙ ap (λ (y : Answer). number y.verdict) w.answer);
        choices = rw (eq-eqb (length answer) 4 l) w.choices;
        answer = rw (eq-eqb (length answer) 4 l) (f ∙ ap numbers_of w.answer);
        sound = λ q R h. w.sound R (ap (λ (y : Answer). y.verdict) w.answer ∙ h);
      }
