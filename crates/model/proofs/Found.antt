-- The first test that does not pass, by its place, and what holds of a verdict since it holds of all tests. Assumes nothing.
use mathlib.Core.Path.{◌≡◌, refl, sym, ◌∙◌}
use mathlib.Core.Bool.{Bool, true, false}
use mathlib.Core.List.{List, [], ◌∷◌}
use mathlib.Core.Logic.{◌⊎◌, inl, inr, ⊎_elim}
use Prim.Native.Nat.{ℕ, zero, suc, ◌+◌, ◌≤◌, ◌<◌}
use native.Mathlib.Nat.{le_refl}
use native.Mathlib.Omega.{arith}
use lib.Dec.{T}
use lib.ListN.{length, get_or}
use Rattle.walk.proofs.Bools.{holds}
use Rattle.walk.proofs.Fold.{down, at_end}
use Rattle.model.specs.declared.answers.Verdict.{Verdict}
use Rattle.model.specs.declared.answers.Verdict.TheVariants.{Accepted, Refused, Violated}
use Rattle.model.specs.Answers.{pass, then, tried, each}
use Rattle.model.specs.Checked.{accepts}
use Rattle.model.proofs.Tried.{EachOf, AllPass, then_passed, then_stopped, each_end, each_step}

-- the test at this place of the list says r, and all tests before it pass
pub record First (tests : List Verdict) (r : Verdict) : Type 0 where
  pub place : ℕ
  pub within : place < length tests
  pub said : get_or tests place pass ≡ r
  pub before : (j : ℕ) → j < place → T (accepts (get_or tests j pass))

later : (x r : Verdict) (xs : List Verdict) → T (accepts x) → First xs r → First (x ∷ xs) r
later x r xs p f = record { place = suc f.place; within = omega (arith, f.within); said = f.said; before = by }
  where
    by : (j : ℕ) → j < suc f.place → T (accepts (get_or (x ∷ xs) j pass))
    by zero l = p
    by (suc j) l = f.before j (omega arith)

-- what stops a list of tests is what the first that does not pass says, or the last word
pub tried_first : (xs : List Verdict) (v r : Verdict) → accepts r ≡ false → tried xs v ≡ r → First xs r ⊎ (AllPass xs × (v ≡ r))
unfolding tried
tried_first [] v r n e = inr (tt, e)
tried_first (x ∷ xs) v r n e = by (accepts x) refl (tried_first xs v r n)
  where
    by : (b : Bool) → accepts x ≡ b → (tried xs v ≡ r → First xs r ⊎ (AllPass xs × (v ≡ r))) → First (x ∷ xs) r ⊎ (AllPass (x ∷ xs) × (v ≡ r))
    by true p ih = ⊎_elim (λ f. inl (later x r xs (holds p) f)) (λ q. inr ((holds p, q.0), q.1)) (ih (sym (then_passed x (tried xs v) (holds p)) ∙ e))
    by false p ih = inl (record { place = 0; within = omega arith; said = sym (then_stopped x (tried xs v) p) ∙ e; before = λ j l. absurd (omega arith) })

pub first_tried : (xs : List Verdict) (v r : Verdict) → accepts r ≡ false → First xs r → tried xs v ≡ r
unfolding tried
first_tried [] v r n f = absurd (omega (arith, f.within))
first_tried (x ∷ xs) v r n f = by f.place f.within f.said f.before (first_tried xs v r n)
  where
    by : (i : ℕ) → i < suc (length xs) → get_or (x ∷ xs) i pass ≡ r → ((j : ℕ) → j < i → T (accepts (get_or (x ∷ xs) j pass)))
        → (First xs r → tried xs v ≡ r) → then x (tried xs v) ≡ r
    by zero l e b ih = then_stopped x (tried xs v) (rw e n) ∙ e
    by (suc i) l e b ih =
        then_passed x (tried xs v) (b 0 (omega arith))
        ∙ ih (record { place = i; within = omega arith; said = e; before = λ j m. b (suc j) (omega arith) })

-- the test at this index says r, and all tests before it pass
pub record FirstAt (test : ℕ → Verdict) (lo hi : ℕ) (r : Verdict) : Type 0 where
  pub place : ℕ
  pub low : lo ≤ place
  pub high : place < hi
  pub said : test place ≡ r
  pub before : (j : ℕ) → lo ≤ j → j < place → T (accepts (test j))

module _ (test : ℕ → Verdict) (hi : ℕ) (v r : Verdict) (n : accepts r ≡ false) where
  pub each_first : (lo : ℕ) → each test lo hi v ≡ r → FirstAt test lo hi r ⊎ (v ≡ r)
  each_first = down (λ lo. each test lo hi v ≡ r → FirstAt test lo hi r ⊎ (v ≡ r)) hi
      (λ lo h e. inr (sym (each_end test lo hi v h) ∙ e))
      (λ lo h ih e. by lo h (sym (each_step test lo hi v h) ∙ e) ih (accepts (test lo)) refl)
    where
      by : (lo : ℕ) → lo < hi → then (test lo) (each test (lo + 1) hi v) ≡ r → (each test (lo + 1) hi v ≡ r → FirstAt test (lo + 1) hi r ⊎ (v ≡ r))
          → (b : Bool) → accepts (test lo) ≡ b → FirstAt test lo hi r ⊎ (v ≡ r)
      by lo h e ih true p = ⊎_elim
          (λ (f : FirstAt test (lo + 1) hi r).
          inl (record {
            place = f.place;
            low = omega (arith, f.low);
            high = f.high;
            said = f.said;
            before = λ j l u. ⊎_elim
                (λ (w : j ≤ lo). let q : j ≡ lo = omega arith in rw q (holds p)) (λ (w : lo < j). f.before j (omega arith) u) (at_end lo j);
          }))
          inr (ih (sym (then_passed (test lo) (each test (lo + 1) hi v) (holds p)) ∙ e))
      by lo h e ih false p =
          let here = sym (then_stopped (test lo) (each test (lo + 1) hi v) p) ∙ e in
          inl (record { place = lo; low = le_refl lo; high = h; said = here; before = λ j l u. absurd (omega arith) })

  pub first_each : (lo : ℕ) → FirstAt test lo hi r → each test lo hi v ≡ r
  first_each = down (λ lo. FirstAt test lo hi r → each test lo hi v ≡ r) hi
      (λ lo h f. absurd (omega (arith, f.low, f.high)))
      (λ lo h ih f.
      each_step test lo hi v h
      ∙ ⊎_elim
      (λ (w : f.place ≤ lo).
      let q : f.place ≡ lo = omega (arith, f.low) in
      let s : test lo ≡ r = rw q at f.said in
      then_stopped (test lo) (each test (lo + 1) hi v) (rw s n) ∙ s)
      (λ (w : lo < f.place).
      then_passed (test lo) (each test (lo + 1) hi v) (f.before lo (le_refl lo) w)
      ∙ ih (record { place = f.place; low = omega arith; high = f.high; said = f.said; before = λ j l u. f.before j (omega arith) u }))
      (at_end lo f.place))

-- what holds of all tests and the last word holds of the verdict
module _ (P : Verdict → Type 0) where
  -- it holds at any place of a list of such tests
  pub each_of_at : P pass → (xs : List Verdict) → EachOf P xs → (i : ℕ) → P (get_or xs i pass)
  each_of_at p [] h i = p
  each_of_at p (x ∷ xs) h zero = h.0
  each_of_at p (x ∷ xs) h (suc i) = each_of_at p xs h.1 i

  pub then_keeps : (x v : Verdict) → P x → P v → P (then x v)
  unfolding then
  then_keeps (Accepted r) v p q = q
  then_keeps (Refused k a) v p q = p
  then_keeps (Violated k s a) v p q = p

  pub tried_keeps : (xs : List Verdict) (v : Verdict) → EachOf P xs → P v → P (tried xs v)
  unfolding tried
  tried_keeps [] v h q = q
  tried_keeps (x ∷ xs) v h q = then_keeps x (tried xs v) h.0 (tried_keeps xs v h.1 q)

  pub each_keeps : (test : ℕ → Verdict) (hi : ℕ) (v : Verdict) → ((i : ℕ) → P (test i)) → P v → (lo : ℕ) → P (each test lo hi v)
  each_keeps test hi v h q = down (λ lo. P (each test lo hi v)) hi
      (λ lo l. rw (each_end test lo hi v l) q)
      (λ lo l ih. rw (each_step test lo hi v l) (then_keeps (test lo) (each test (lo + 1) hi v) (h lo) ih))
