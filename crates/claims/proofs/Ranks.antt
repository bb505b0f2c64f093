-- The greatest of the ranks that are not none is the greatest of all where none counts as 0. Assumes nothing.
use mathlib.Core.Path.{◌≡◌, refl, sym, ◌∙◌}
use mathlib.Core.Bool.{Bool, true, false}
use mathlib.Core.List.{List, [], ◌∷◌}
use Prim.Native.Nat.{ℕ, suc, ◌+◌, max}
use native.Mathlib.Numerals.{add-one}
use native.Mathlib.Omega.{arith}
use lib.Dec.{eqb}
use lib.ListN.{length, get_or}
use Rattle.std.specs.List.{filter, fold, reduce}
use Rattle.std.specs.Option.{unwrap_or}
use Rattle.walk.specs.Fold.{greatest}
use Rattle.walk.proofs.Fold.{down, greatest_end, greatest_step}
use Rattle.model.specs.Limits.{none}
use Rattle.model.specs.Tables.{is_rank}
use Rattle.model.specs.Checked.{rank_or_zero, greatest_rank}

abbrev top : List ℕ → ℕ
top ys = unwrap_or (reduce max ys) 0

fold_max : (a : ℕ) (ys : List ℕ) → fold max a ys ≡ max a (top ys)
fold_max a [] = omega arith
fold_max a (y ∷ ys) = omega (arith, fold_max (max a y) ys, fold_max y ys)

-- the greatest of a list without its first entry
shift : (f : ℕ → ℕ) (n lo : ℕ) → greatest f (lo + 1) (suc n) ≡ greatest (λ i. f (suc i)) lo n
shift f n = down
    (λ lo. greatest f (lo + 1) (suc n) ≡ greatest (λ i. f (suc i)) lo n) n
    (λ i h. rw (greatest_end f (i + 1) (suc n) (omega arith), greatest_end (λ i. f (suc i)) i n h))
    (λ i h ih. rw (greatest_step f (i + 1) (suc n) (omega arith), greatest_step (λ i. f (suc i)) i n h, ih, add-one i))

pub greatest_of : (xs : List ℕ) → top (filter is_rank xs) ≡ greatest_rank xs
unfolding greatest_rank
greatest_of [] = sym (greatest_end (λ s. rank_or_zero (get_or [] s 0)) 0 0 (omega arith))
greatest_of (x ∷ xs) = by (eqb x none) refl ∙ sym (greatest_step f 0 (suc (length xs)) (omega arith) ∙ rw (shift f (length xs) 0, ← greatest_of xs))
  where
    f : ℕ → ℕ
    f s = rank_or_zero (get_or (x ∷ xs) s 0)

    by : (b : Bool) → eqb x none ≡ b → top (filter is_rank (x ∷ xs)) ≡ max (rank_or_zero x) (top (filter is_rank xs))
    by true e = rw e (omega arith)
    by false e = rw e (fold_max x (filter is_rank xs))
