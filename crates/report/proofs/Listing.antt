-- Lines put one after the other: the laws of the loop that prints them. Assumes nothing.
use mathlib.Core.Path.{◌≡◌, refl, sym, ap, ◌∙◌}
use mathlib.Core.List.{List, [], ◌++◌, append_assoc, append-nil}
use Prim.Native.Nat.{ℕ, ◌+◌, ◌*◌, ◌≤◌, ◌<◌}
use native.Mathlib.Nat.{add-zero}
use native.Mathlib.Omega.{arith}
use Rattle.walk.specs.Fold.{from}
use Rattle.walk.specs.Put.{Put}
use Rattle.walk.proofs.Fold as Fold
use Rattle.walk.proofs.Putting.{put_then, put_same}

-- Lines that are put one after the other, each of at most so many bytes.
pub record Listing (step : ℕ → List ℕ) (most n : ℕ) (t : List ℕ) (start : ℕ) (i at : ℕ) (now : List ℕ) : Type 0 where
  pub high : i ≤ n
  pub done : List ℕ
  pub put : Put t now start at done
  pub short : at ≤ start + most * i
  pub whole : done ++ from (λ s after. step s ++ after) [] i n ≡ from (λ s after. step s ++ after) [] 0 n

pub list_start : (step : ℕ → List ℕ) (most n : ℕ) (t : List ℕ) (start : ℕ) → Listing step most n t start 0 start t
list_start step most n t start =
    record { high = omega arith; done = []; put = record { next = sym (add-zero start); text = refl }; short = omega arith; whole = refl }

module _ {step : ℕ → List ℕ} {most n : ℕ} {t : List ℕ} {start i at : ℕ} {now : List ℕ} (w : Listing step most n t start i at now) where
  pub list_pass : {now' : List ℕ} {at' : ℕ} → i < n → Put now now' at at' (step i) → at' ≤ at + most → Listing step most n t start (i + 1) at' now'
  list_pass h p l =
      record {
        high = omega arith;
        done = w.done ++ step i;
        put = put_then w.put p;
        short = omega (arith, w.short);
        whole =
            append_assoc w.done (step i) (from (λ s after. step s ++ after) [] (i + 1) n)
            ∙ ap (λ (l : List ℕ). w.done ++ l) (sym (Fold.from_step (λ s after. step s ++ after) [] i n h))
            ∙ w.whole;
      }

  pub list_end : n ≤ i → Put t now start at (from (λ s after. step s ++ after) [] 0 n)
  list_end h =
      put_same w.put
      (sym (append-nil w.done)
      ∙ ap (λ (l : List ℕ). w.done ++ l) (sym (Fold.from_end (λ s after. step s ++ after) [] i n h))
      ∙ w.whole)
