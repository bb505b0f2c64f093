-- A computed test of every index of a range, or of some index, says what it is named for. Assumes nothing.
use mathlib.Core.Bool.{Bool, not}
use mathlib.Core.Logic.{⊎_elim}
use Prim.Native.Nat.{ℕ, ◌≤◌, ◌<◌}
use native.Mathlib.Omega.{arith}
use lib.Dec.{T, ltb→lt, lt→ltb}
use Rattle.walk.specs.Fold.{first, any, all}
use Rattle.walk.proofs.Bools.{holds, fails, by_not, not_by, by_contradiction}
use Rattle.walk.proofs.Fold.{at_end, first_end, lowest, Lowest}

module _ (p : ℕ → Bool) (lo hi : ℕ) where
  -- the first index at which the test holds, where there is one
  pub any_first : T (any p lo hi) → (lo ≤ first p lo hi) × (first p lo hi < hi) × T (p (first p lo hi))
  unfolding any
  any_first h = ⊎_elim (λ e. absurd (omega (arith, found, first_end p lo hi e))) (λ l. at (lowest p hi lo (omega arith))) (at_end lo hi)
    where
      found : first p lo hi < hi
      found = ltb→lt (first p lo hi) hi h

      at : Lowest p lo hi (first p lo hi) → (lo ≤ first p lo hi) × (first p lo hi < hi) × T (p (first p lo hi))
      at w = (w.low, found, holds (w.hit found))

  pub any_at : T (any p lo hi) → (i : ℕ) × (lo ≤ i) × (i < hi) × T (p i)
  any_at h = let f = any_first h in (first p lo hi, f.0, f.1, f.2)

  pub at_any : (i : ℕ) → lo ≤ i → i < hi → T (p i) → T (any p lo hi)
  unfolding any
  at_any i l u q = ⊎_elim (λ e. absurd (fails (w.passed i l (omega arith)) q)) (λ e. lt→ltb (first p lo hi) hi e) (at_end (first p lo hi) hi)
    where
      w : Lowest p lo hi (first p lo hi)
      w = lowest p hi lo (omega arith)

module _ (p : ℕ → Bool) (lo hi : ℕ) where
  pub all_at : T (all p lo hi) → (i : ℕ) → lo ≤ i → i < hi → T (p i)
  unfolding all
  all_at h i l u = by_contradiction (p i) (λ n. by_not (any (λ j. not (p j)) lo hi) h (at_any (λ j. not (p j)) lo hi i l u n))

  pub at_all : ((i : ℕ) → lo ≤ i → i < hi → T (p i)) → T (all p lo hi)
  unfolding all
  at_all h = not_by (any (λ j. not (p j)) lo hi) (λ n. let f = any_at (λ j. not (p j)) lo hi n in by_not (p f.0) f.3 (h f.0 f.1 f.2))
