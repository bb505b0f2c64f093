-- The laws of the folds over an index range. Assumes nothing.
use mathlib.Core.Path.{◌≡◌, refl, ap, subst, ◌∙◌}
use mathlib.Core.Bool.{Bool, true, false, cond}
use mathlib.Core.List.{[], ◌∷◌, ◌++◌}
use mathlib.Core.Logic.{◌⊎◌, inl, inr, ⊎_elim}
use Prim.Native.Nat.{ℕ, zero, suc, ◌+◌, ◌-◌, ◌*◌, ◌≤◌, ◌<◌, max, min}
use native.Mathlib.Nat.{sub-eq-zero_of_le, le_refl}
use native.Mathlib.Numerals.{add-one}
use native.Mathlib.Decide.{dec_le}
use native.Mathlib.Omega.{arith}
use lib.Dec.{T, ltb}
use lib.ListN.{length, get_or}
use borrow.Author.Tests.{lt-ltb, le-ltb}
use Rattle.walk.specs.Fold.{times, from, first, any, sum, greatest, least, listed}

-- an index is at the end of its range, or before it
pub at_end : (i hi : ℕ) → (hi ≤ i) ⊎ (i < hi)
at_end i hi = elim (dec_le hi i) [ yes p ↦ inl p | no q ↦ inr (omega arith) ]

-- an induction over an index range, from hi down to lo
pub down : (P : ℕ → Type 0) (hi : ℕ) → ((i : ℕ) → hi ≤ i → P i) → ((i : ℕ) → i < hi → P (i + 1) → P i) → (lo : ℕ) → P lo
down P hi end step lo = go (hi - lo) lo (omega arith)
  where
    go : (k i : ℕ) → hi ≤ i + k → P i
    go zero i h = end i (omega arith)
    go (suc k) i h = ⊎_elim (end i) (λ l. step i l (go k (i + 1) (omega arith))) (at_end i hi)

module _ {A : Type 0} (step : ℕ → A → A) (z : A) where
  pub from_end : (lo hi : ℕ) → hi ≤ lo → from step z lo hi ≡ z
  unfolding from times
  from_end lo hi h = rw (sub-eq-zero_of_le h)

  pub from_step : (lo hi : ℕ) → lo < hi → from step z lo hi ≡ step lo (from step z (lo + 1) hi)
  unfolding from times
  from_step lo hi h = by (hi - lo) refl
    where
      by : (d : ℕ) → hi - lo ≡ d → from step z lo hi ≡ step lo (from step z (lo + 1) hi)
      by zero e = absurd (omega arith)
      by (suc d) e =
          let f : hi - suc lo ≡ d = omega arith in
          rw (add-one lo, e, f)

-- the folds with a name, at their end and at a step

module _ (p : ℕ → Bool) where
  pub first_end : (lo hi : ℕ) → hi ≤ lo → first p lo hi ≡ hi
  unfolding first
  first_end lo hi h = from_end (λ i rest. cond (p i) i rest) hi lo hi h

  pub first_step : (lo hi : ℕ) → lo < hi → first p lo hi ≡ cond (p lo) lo (first p (lo + 1) hi)
  unfolding first
  first_step lo hi h = from_step (λ i rest. cond (p i) i rest) hi lo hi h

  pub first_hit : (lo hi : ℕ) → lo < hi → p lo ≡ true → first p lo hi ≡ lo
  first_hit lo hi h e = first_step lo hi h ∙ rw e

  pub first_pass : (lo hi : ℕ) → lo < hi → p lo ≡ false → first p lo hi ≡ first p (lo + 1) hi
  first_pass lo hi h e = first_step lo hi h ∙ rw e

module _ (p : ℕ → Bool) where
  pub any_end : (lo hi : ℕ) → hi ≤ lo → any p lo hi ≡ false
  unfolding any
  any_end lo hi h = rw (first_end p lo hi h) (le-ltb hi hi (le_refl hi))

  pub any_hit : (lo hi : ℕ) → lo < hi → p lo ≡ true → any p lo hi ≡ true
  unfolding any
  any_hit lo hi h e = rw (first_hit p lo hi h e) (lt-ltb lo hi h)

  pub any_pass : (lo hi : ℕ) → lo < hi → p lo ≡ false → any p lo hi ≡ any p (lo + 1) hi
  unfolding any
  any_pass lo hi h e = rw (first_pass p lo hi h e)

-- what a first index is: within its range, hit there, and passed before
pub record Lowest (p : ℕ → Bool) (lo hi k : ℕ) : Type 0 where
  pub low : lo ≤ k
  pub high : k ≤ hi
  pub hit : k < hi → p k ≡ true
  pub passed : (i : ℕ) → lo ≤ i → i < k → p i ≡ false

module _ (p : ℕ → Bool) (hi : ℕ) where
  pub lowest : (lo : ℕ) → lo ≤ hi → Lowest p lo hi (first p lo hi)
  lowest = down (λ lo. lo ≤ hi → Lowest p lo hi (first p lo hi)) hi (λ i h l. ends i h l) (λ i h ih l. by i h (ih (omega arith)) (p i) refl)
    where
      ends : (i : ℕ) → hi ≤ i → i ≤ hi → Lowest p i hi (first p i hi)
      ends i h l =
          rw (first_end p i hi h)
          (record { low = l; high = le_refl hi; hit = λ q. absurd (omega arith); passed = λ k u v. absurd (omega arith) })

      by : (i : ℕ) → i < hi → Lowest p (i + 1) hi (first p (i + 1) hi) → (b : Bool) → p i ≡ b → Lowest p i hi (first p i hi)
      by i h ih true e =
          rw (first_hit p i hi h e)
          (record { low = le_refl i; high = omega arith; hit = λ q. e; passed = λ k u v. absurd (omega arith) })
      by i h ih false e =
          rw (first_pass p i hi h e)
          (record {
            low = omega (arith, ih.low);
            high = ih.high;
            hit = ih.hit;
            passed = λ k u v.
                ⊎_elim (λ w. let q : k ≡ i = omega arith in rw q e) (λ w. ih.passed k (omega arith) v) (at_end i k);
          })

  -- an index that is so is the first
  pub lowest_is : (lo k : ℕ) → lo ≤ hi → Lowest p lo hi k → first p lo hi ≡ k
  lowest_is lo k h r = by (at_end (first p lo hi) k) (at_end k (first p lo hi))
    where
      s : Lowest p lo hi (first p lo hi)
      s = lowest lo h

      clash : (j : ℕ) → p j ≡ true → p j ≡ false → ⊥
      clash j e f = let q : true ≡ false = (cc) in subst T q tt

      by : (k ≤ first p lo hi) ⊎ (first p lo hi < k) → (first p lo hi ≤ k) ⊎ (k < first p lo hi) → first p lo hi ≡ k
      by (inl a) (inl b) = omega arith
      by (inr a) q = absurd (clash (first p lo hi) (s.hit (omega (arith, r.high))) (r.passed (first p lo hi) s.low a))
      by (inl a) (inr b) = absurd (clash k (r.hit (omega (arith, s.high))) (s.passed k r.low b))

-- tests that agree between lo and hi have the same first index
pub first_same : (p q : ℕ → Bool) (hi lo : ℕ) → ((i : ℕ) → lo ≤ i → i < hi → p i ≡ q i) → first p lo hi ≡ first q lo hi
first_same p q hi = down
    (λ lo. ((i : ℕ) → lo ≤ i → i < hi → p i ≡ q i) → first p lo hi ≡ first q lo hi) hi
    (λ i h k. rw (first_end p i hi h, first_end q i hi h))
    (λ i h ih k.
    let b : first p (i + 1) hi ≡ first q (i + 1) hi = ih (λ j u v. k j (omega arith) v) in
    rw (first_step p i hi h, first_step q i hi h, k i (le_refl i) h, b))

module _ (f : ℕ → ℕ) where
  pub sum_end : (lo hi : ℕ) → hi ≤ lo → sum f lo hi ≡ 0
  unfolding sum
  sum_end lo hi h = from_end (λ i rest. f i + rest) 0 lo hi h

  pub sum_step : (lo hi : ℕ) → lo < hi → sum f lo hi ≡ f lo + sum f (lo + 1) hi
  unfolding sum
  sum_step lo hi h = from_step (λ i rest. f i + rest) 0 lo hi h

  pub greatest_end : (lo hi : ℕ) → hi ≤ lo → greatest f lo hi ≡ 0
  unfolding greatest
  greatest_end lo hi h = from_end (λ i rest. max (f i) rest) 0 lo hi h

  pub greatest_step : (lo hi : ℕ) → lo < hi → greatest f lo hi ≡ max (f lo) (greatest f (lo + 1) hi)
  unfolding greatest
  greatest_step lo hi h = from_step (λ i rest. max (f i) rest) 0 lo hi h

  pub listed_end : (lo hi : ℕ) → hi ≤ lo → listed f lo hi ≡ []
  unfolding listed
  listed_end lo hi h = from_end (λ i rest. f i ∷ rest) [] lo hi h

  pub listed_step : (lo hi : ℕ) → lo < hi → listed f lo hi ≡ f lo ∷ listed f (lo + 1) hi
  unfolding listed
  listed_step lo hi h = from_step (λ i rest. f i ∷ rest) [] lo hi h

-- sums: compared term by term, bounded, times a number, one after the other

pub sum_le : (f g : ℕ → ℕ) (hi : ℕ) (lo : ℕ) → ((i : ℕ) → lo ≤ i → i < hi → f i ≤ g i) → sum f lo hi ≤ sum g lo hi
sum_le f g hi = down
    (λ lo. ((i : ℕ) → lo ≤ i → i < hi → f i ≤ g i) → sum f lo hi ≤ sum g lo hi) hi
    (λ i h k. rw (sum_end f i hi h, sum_end g i hi h) (le_refl 0))
    (λ i h ih k.
    let a : f i ≤ g i = k i (le_refl i) h in
    let b : sum f (i + 1) hi ≤ sum g (i + 1) hi = ih (λ j u v. k j (omega arith) v) in
    rw (sum_step f i hi h, sum_step g i hi h) (omega arith))

pub sum_times : (f : ℕ → ℕ) (c hi lo : ℕ) → sum (λ i. f i * c) lo hi ≡ sum f lo hi * c
sum_times f c hi = down
    (λ lo. sum (λ i. f i * c) lo hi ≡ sum f lo hi * c) hi
    (λ i h. rw (sum_end (λ j. f j * c) i hi h, sum_end f i hi h) (omega arith))
    (λ i h ih. rw (sum_step (λ j. f j * c) i hi h, sum_step f i hi h) (omega arith))

pub sum_plus : (f g : ℕ → ℕ) (hi lo : ℕ) → sum (λ i. f i + g i) lo hi ≡ sum f lo hi + sum g lo hi
sum_plus f g hi = down
    (λ lo. sum (λ i. f i + g i) lo hi ≡ sum f lo hi + sum g lo hi) hi
    (λ i h. rw (sum_end (λ j. f j + g j) i hi h, sum_end f i hi h, sum_end g i hi h) (omega arith))
    (λ i h ih. rw (sum_step (λ j. f j + g j) i hi h, sum_step f i hi h, sum_step g i hi h) (omega arith))

-- what is listed has as many entries as the range, and f of the index at each
pub listed_length : (f : ℕ → ℕ) (hi lo : ℕ) → length (listed f lo hi) ≡ hi - lo
listed_length f hi = down
    (λ lo. length (listed f lo hi) ≡ hi - lo) hi
    (λ i h. rw (listed_end f i hi h) (omega arith))
    (λ i h ih. rw (listed_step f i hi h) (omega arith))

pub listed_more : (f : ℕ → ℕ) (hi lo : ℕ) → lo ≤ hi → listed f lo (hi + 1) ≡ listed f lo hi ++ (f hi ∷ [])
listed_more f hi = down
    (λ lo. lo ≤ hi → listed f lo (hi + 1) ≡ listed f lo hi ++ (f hi ∷ [])) hi
    (λ i h l.
    let q : i ≡ hi = omega arith in
    rw (q, listed_end f hi hi (le_refl hi), listed_step f hi (hi + 1) (omega arith), listed_end f (hi + 1) (hi + 1) (le_refl (hi + 1))))
    (λ i h ih l. rw (listed_step f i hi h, listed_step f i (hi + 1) (omega arith), ih (omega arith)))

pub listed_at : (f : ℕ → ℕ) (d hi lo k : ℕ) → lo + k < hi → get_or (listed f lo hi) k d ≡ f (lo + k)
listed_at f d hi = down
    (λ lo. (k : ℕ) → lo + k < hi → get_or (listed f lo hi) k d ≡ f (lo + k)) hi
    (λ i h k u. absurd (omega arith))
    (λ i h ih k u. rw (listed_step f i hi h) (by i ih k u))
  where
    by : (i : ℕ) → ((k : ℕ) → i + 1 + k < hi → get_or (listed f (i + 1) hi) k d ≡ f (i + 1 + k)) → (k : ℕ) → i + k < hi →
        get_or (f i ∷ listed f (i + 1) hi) k d ≡ f (i + k)
    by i ih zero u = ap f (omega arith)
    by i ih (suc k) u = ih k (omega arith) ∙ ap f (omega arith)

-- the greatest is no less than each
pub le_greatest : (f : ℕ → ℕ) (hi k lo : ℕ) → lo ≤ k → k < hi → f k ≤ greatest f lo hi
le_greatest f hi k = down
    (λ lo. lo ≤ k → k < hi → f k ≤ greatest f lo hi) hi
    (λ i h l u. absurd (omega arith))
    (λ i h ih l u.
    rw (greatest_step f i hi h)
    (⊎_elim
    (λ (w : k ≤ i). let q : k ≡ i = omega arith in rw q (omega arith))
    (λ (w : i < k). let b = ih (omega arith) u in omega arith)
    (at_end i k)))

-- it is one of them, or 0
pub greatest_is : (f : ℕ → ℕ) (hi lo : ℕ) → (greatest f lo hi ≡ 0) ⊎ ((i : ℕ) × (lo ≤ i) × (i < hi) × (f i ≡ greatest f lo hi))
greatest_is f hi = down
    (λ lo. (greatest f lo hi ≡ 0) ⊎ ((i : ℕ) × (lo ≤ i) × (i < hi) × (f i ≡ greatest f lo hi))) hi
    (λ lo h. inl (greatest_end f lo hi h))
    (λ lo h ih. by lo h ih (at_end (greatest f (lo + 1) hi) (f lo)))
  where
    by : (lo : ℕ) → lo < hi → (greatest f (lo + 1) hi ≡ 0) ⊎ ((i : ℕ) × (lo + 1 ≤ i) × (i < hi) × (f i ≡ greatest f (lo + 1) hi))
        → (f lo ≤ greatest f (lo + 1) hi) ⊎ (greatest f (lo + 1) hi < f lo)
        → (greatest f lo hi ≡ 0) ⊎ ((i : ℕ) × (lo ≤ i) × (i < hi) × (f i ≡ greatest f lo hi))
    by lo h (inl z) (inl l) = inl (omega (arith, greatest_step f lo hi h))
    by lo h (inr w) (inl l) = inr (w.0, omega (arith, w.1), w.2, omega (arith, w.3, greatest_step f lo hi h))
    by lo h ih (inr l) = inr (lo, le_refl lo, h, omega (arith, greatest_step f lo hi h))

-- the least is no more than z, and below a number exactly where z or one of them is

module _ (f : ℕ → ℕ) (z : ℕ) where
  pub least_end : (lo hi : ℕ) → hi ≤ lo → least f z lo hi ≡ z
  unfolding least
  least_end lo hi h = from_end (λ i rest. min (f i) rest) z lo hi h

  pub least_step : (lo hi : ℕ) → lo < hi → least f z lo hi ≡ min (f lo) (least f z (lo + 1) hi)
  unfolding least
  least_step lo hi h = from_step (λ i rest. min (f i) rest) z lo hi h

  pub least_le : (hi lo : ℕ) → least f z lo hi ≤ z
  least_le hi = down
      (λ lo. least f z lo hi ≤ z) hi
      (λ i h. rw (least_end i hi h) (le_refl z))
      (λ i h ih. rw (least_step i hi h) (omega arith))

  pub least_below : (r hi lo : ℕ) → r ≤ z → lo ≤ hi → ltb (least f z lo hi) r ≡ any (λ i. ltb (f i) r) lo hi
  least_below r hi lo q = down
      (λ lo. lo ≤ hi → ltb (least f z lo hi) r ≡ any (λ i. ltb (f i) r) lo hi) hi
      (λ i h l. rw (least_end i hi h, any_end (λ i. ltb (f i) r) i hi h) (le-ltb z r q))
      (λ i h ih l. by i h (ih (omega arith)) (at_end (f i) r))
      lo
    where
      by : (i : ℕ) → i < hi → ltb (least f z (i + 1) hi) r ≡ any (λ i. ltb (f i) r) (i + 1) hi → (r ≤ f i) ⊎ (f i < r) → ltb (least f z i hi) r
          ≡ any (λ i. ltb (f i) r) i hi
      by i h ih (inr p) =
          rw (least_step i hi h, any_hit (λ i. ltb (f i) r) i hi h (lt-ltb (f i) r p)) (lt-ltb (min (f i) (least f z (i + 1) hi)) r (omega arith))
      by i h ih (inl p) =
          rw (least_step i hi h, any_pass (λ i. ltb (f i) r) i hi h (le-ltb (f i) r p), ← ih) (same (at_end (least f z (i + 1) hi) r))
        where
          same : (r ≤ least f z (i + 1) hi) ⊎ (least f z (i + 1) hi < r) → ltb (min (f i) (least f z (i + 1) hi)) r ≡ ltb (least f z (i + 1) hi) r
          same (inl g) = rw (le-ltb (least f z (i + 1) hi) r g) (le-ltb (min (f i) (least f z (i + 1) hi)) r (omega arith))
          same (inr g) = rw (lt-ltb (least f z (i + 1) hi) r g) (lt-ltb (min (f i) (least f z (i + 1) hi)) r (omega arith))
