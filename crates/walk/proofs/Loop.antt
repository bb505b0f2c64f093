-- The invariants of the loops that compute a fold: each holds at the start, passes a turn, and gives the whole at the end.
-- Assumes nothing.
use mathlib.Core.Path.{◌≡◌, refl, sym, ◌∙◌}
use mathlib.Core.Bool.{Bool, true, false}
use mathlib.Core.List.{List, [], ◌∷◌, ◌++◌, append_assoc}
use Prim.Native.Nat.{ℕ, suc, ◌+◌, ◌≤◌, ◌<◌, min, zero-le}
use native.Mathlib.Nat.{le_refl}
use native.Mathlib.Numerals.{add-one}
use native.Mathlib.Omega.{arith}
use lib.ListN.{length, get_or, drop, set}
use lib.Seq.{drop-cons, set_at}
use Rattle.walk.specs.Fold.{first, sum, least, listed}
use Rattle.walk.proofs.Fold

-- A search: the lowest index from i on is the lowest of all.
pub record Seeking (p : ℕ → Bool) (hi whole i : ℕ) : Type 0 where
  pub high : i ≤ hi
  pub rest : first p i hi ≡ whole

pub seek_start : (p : ℕ → Bool) (lo hi : ℕ) → lo ≤ hi → Seeking p hi (first p lo hi) lo
seek_start p lo hi h = record { high = h; rest = refl }

module _ {p : ℕ → Bool} {hi whole i : ℕ} (w : Seeking p hi whole i) where
  pub seek_pass : i < hi → p i ≡ false → Seeking p hi whole (i + 1)
  seek_pass h e = record { high = omega arith; rest = sym (Fold.first_pass p i hi h e) ∙ w.rest }

  pub seek_hit : i < hi → p i ≡ true → i ≡ whole
  seek_hit h e = sym (Fold.first_hit p i hi h e) ∙ w.rest

  pub seek_end : hi ≤ i → hi ≡ whole
  seek_end h = sym (Fold.first_end p i hi h) ∙ w.rest

-- A sum: what was added so far and the rest come to the whole.
pub record Summing (f : ℕ → ℕ) (hi whole i acc : ℕ) : Type 0 where
  pub high : i ≤ hi
  pub rest : acc + sum f i hi ≡ whole

pub sum_start : (f : ℕ → ℕ) (lo hi : ℕ) → lo ≤ hi → Summing f hi (sum f lo hi) lo 0
sum_start f lo hi h = record { high = h; rest = omega arith }

module _ {f : ℕ → ℕ} {hi whole i acc : ℕ} (w : Summing f hi whole i acc) where
  pub sum_pass : i < hi → Summing f hi whole (i + 1) (acc + f i)
  sum_pass h = record { high = omega arith; rest = omega (arith, Fold.sum_step f i hi h, w.rest) }

  -- so no sum on the way is more than the whole
  pub sum_within : i < hi → acc + f i ≤ whole
  sum_within h = omega (arith, Fold.sum_step f i hi h, w.rest)

  pub sum_ends : hi ≤ i → acc ≡ whole
  sum_ends h = omega (arith, Fold.sum_end f i hi h, w.rest)

-- A minimum: the least so far and that of the rest come to the whole.
pub record Sinking (f : ℕ → ℕ) (z hi whole i acc : ℕ) : Type 0 where
  pub high : i ≤ hi
  pub rest : min acc (least f z i hi) ≡ whole

pub sink_start : (f : ℕ → ℕ) (z lo hi : ℕ) → lo ≤ hi → Sinking f z hi (least f z lo hi) lo z
sink_start f z lo hi h = record { high = h; rest = omega (arith, Fold.least_le f z hi lo) }

module _ {f : ℕ → ℕ} {z hi whole i acc : ℕ} (w : Sinking f z hi whole i acc) where
  pub sink_pass : i < hi → (next : ℕ) → next ≡ min acc (f i) → Sinking f z hi whole (i + 1) next
  sink_pass h next e = record { high = omega arith; rest = omega (arith, Fold.least_step f z i hi h, w.rest, e) }

  pub sink_end : hi ≤ i → acc ≤ z → acc ≡ whole
  sink_end h l = omega (arith, Fold.least_end f z i hi h, w.rest)

-- A list filled from the front: f of each index below i, then the entries that were there.
pub record Filling (f : ℕ → ℕ) (start : List ℕ) (hi i : ℕ) (now : List ℕ) : Type 0 where
  pub high : i ≤ hi
  pub room : hi ≤ length start
  pub filled : now ≡ listed f 0 i ++ drop i start

pub fill_start : (f : ℕ → ℕ) (start : List ℕ) (hi : ℕ) → hi ≤ length start → Filling f start hi 0 start
fill_start f start hi h = record { high = zero-le; room = h; filled = rw (Fold.listed_end f 0 0 (le_refl 0)) }

module _ {f : ℕ → ℕ} {start : List ℕ} {hi i : ℕ} {now : List ℕ} (w : Filling f start hi i now) where
  pub fill_pass : i < hi → (v : ℕ) → v ≡ f i → Filling f start hi (i + 1) (set now i v)
  fill_pass h v e =
      record {
        high = omega arith;
        room = w.room;
        filled =
            rw (w.filled, drop-cons start i 0 (omega (arith, w.room)), e)
            (set_at (listed f 0 i) (get_or start i 0) (drop (suc i) start) (f i) i (Fold.listed_length f i 0 ∙ omega arith)
            ∙ rw (Fold.listed_more f i 0 zero-le, add-one i) (sym (append_assoc (listed f 0 i) (f i ∷ []) (drop (suc i) start))));
      }

  pub fill_end : hi ≤ i → now ≡ listed f 0 hi ++ drop hi start
  fill_end h = let q : i ≡ hi = omega (arith, w.high) in rw (← q) w.filled
