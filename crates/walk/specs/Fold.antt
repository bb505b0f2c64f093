-- Folds over an index range: what the loops of this project compute.
use Rattle.std.specs.Prelude.{ℕ, zero, suc, ◌+◌, ◌-◌, max, min, Bool, cond, not, List, [], ◌∷◌, ltb}

module _ {A : Type 0} where
  -- the step at i, then at the next index, and so on k times; z where they end
  unfoldable pub times : (ℕ → A → A) → A → ℕ → ℕ → A
  times step z i zero = z
  times step z i (suc k) = step i (times step z (suc i) k)

  -- the step at each index from lo up to, not with, hi; z where they end
  unfoldable pub from : (ℕ → A → A) → A → ℕ → ℕ → A
  unfolding times
  from step z lo hi = times step z lo (hi - lo)

-- the lowest index from lo up to, not with, hi at which p holds; hi if there is none
unfoldable pub first : (ℕ → Bool) → ℕ → ℕ → ℕ
unfolding from
first p lo hi = from (λ i rest. cond (p i) i rest) hi lo hi

-- p holds at some index from lo up to, not with, hi
unfoldable pub any : (ℕ → Bool) → ℕ → ℕ → Bool
unfolding first
any p lo hi = ltb (first p lo hi) hi

-- p holds at every index from lo up to, not with, hi
unfoldable pub all : (ℕ → Bool) → ℕ → ℕ → Bool
unfolding any
all p lo hi = not (any (λ i. not (p i)) lo hi)

-- the sum of f over the indices from lo up to, not with, hi
unfoldable pub sum : (ℕ → ℕ) → ℕ → ℕ → ℕ
unfolding from
sum f lo hi = from (λ i rest. f i + rest) 0 lo hi

-- the greatest of f over the indices from lo up to, not with, hi; 0 if there is none
unfoldable pub greatest : (ℕ → ℕ) → ℕ → ℕ → ℕ
unfolding from
greatest f lo hi = from (λ i rest. max (f i) rest) 0 lo hi

-- the least of z and of f over the indices from lo up to, not with, hi
unfoldable pub least : (ℕ → ℕ) → ℕ → ℕ → ℕ → ℕ
unfolding from
least f z lo hi = from (λ i rest. min (f i) rest) z lo hi

-- the values of f at the indices from lo up to, not with, hi
unfoldable pub listed : (ℕ → ℕ) → ℕ → ℕ → List ℕ
unfolding from
listed f lo hi = from (λ i rest. f i ∷ rest) [] lo hi
