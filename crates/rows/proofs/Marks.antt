-- A walk over the marks: at a mark, it is 0 or 1, or the walk ends there. Assumes nothing.
use mathlib.Core.Path.{◌≡◌}
use mathlib.Core.Bool.{Bool, false, not}
use mathlib.Core.Logic.{◌⊎◌, inl, inr, ⊎_elim}
use mathlib.Core.List.{List}
use Prim.Native.Nat.{ℕ, ◌<◌, ◌≤◌}
use lib.Dec.{leb}
use lib.ListN.{length, get_or}
use borrow.Author.Tests.{lt-leb}
use Rattle.walk.specs.Fold.{first}
use Rattle.walk.proofs.Fold.{at_end}
use Rattle.walk.proofs.Loop.{Seeking, seek_hit}
use Rattle.model.specs.declared.answers.Verdict.TheVariants.{Refused}
use Rattle.model.specs.Answers.{throughout}
use Rattle.model.specs.Refusals.{marks_test}
use Rattle.model.proofs.Tried.{throughout_stop}

-- the test of a table at each index below i
pub record Through (right : ℕ → Bool) (n i : ℕ) : Type 0 where
  pub seeking : Seeking (λ j. not (right j)) n (first (λ j. not (right j)) 0 n) i

pub through_stop : {right : ℕ → Bool} {n i : ℕ} → Through right n i → (k : ℕ) → i < n → right i ≡ false → Refused k i ≡ throughout right n k
through_stop {right} {n} {i} w k h e = throughout_stop right n k i h (seek_hit w.seeking h (rw e))

pub mark_stop : (marks : List ℕ) (s : ℕ) → Through (λ j. leb (get_or marks j 0) 1) (length marks) s → s < length marks
    → (get_or marks s 0 ≤ 1) ⊎ (Refused 8 s ≡ marks_test marks)
unfolding marks_test
mark_stop marks s w h =
    ⊎_elim (λ (q : get_or marks s 0 ≤ 1). inl q) (λ (q : 1 < get_or marks s 0). inr (through_stop w 8 h (lt-leb (get_or marks s 0) 1 q)))
    (at_end 1 (get_or marks s 0))
