-- Tests tried in order: what follows when they pass, and what stands when one does not. Assumes nothing.
use mathlib.Core.Path.{◌≡◌, refl, sym, ap, subst, ◌∙◌}
use mathlib.Core.Bool.{Bool, true, false, not}
use mathlib.Core.List.{List, [], ◌∷◌, ◌++◌}
use mathlib.Core.Logic.{◌⊎◌, inl, inr, ⊎_elim}
use Prim.Native.Nat.{ℕ, ◌+◌, ◌≤◌, ◌<◌, zero-le}
use native.Mathlib.Nat.{le_refl}
use native.Mathlib.Omega.{arith}
use lib.Dec.{T}
use borrow.Author.Tests.{lt-ltb, le-ltb, not-true, not-false}
use Rattle.walk.specs.Fold.{first, any}
use Rattle.walk.proofs.Bools.{holds}
use Rattle.walk.proofs.Fold.{down, at_end, from_end, from_step, lowest, Lowest}
use Rattle.model.specs.declared.answers.Verdict.{Verdict}
use Rattle.model.specs.declared.answers.Verdict.TheVariants.{Accepted, Refused, Violated}
use Rattle.model.specs.Answers.{pass, then, tried, each, require, throughout}
use Rattle.model.specs.Checked.{accepts}

-- one test and the next

pub then_passed : (x v : Verdict) → T (accepts x) → then x v ≡ v
unfolding then
then_passed (Accepted r) v h = refl
then_passed (Refused k p) v h = absurd h
then_passed (Violated k s a) v h = absurd h

pub then_stopped : (x v : Verdict) → accepts x ≡ false → then x v ≡ x
unfolding then
then_stopped (Accepted r) v h = absurd (subst T h tt)
then_stopped (Refused k p) v h = refl
then_stopped (Violated k s a) v h = refl

pub then_assoc : (x y v : Verdict) → then (then x y) v ≡ then x (then y v)
unfolding then
then_assoc (Accepted r) y v = refl
then_assoc (Refused k p) y v = refl
then_assoc (Violated k s a) y v = refl

-- where both accept, the first does, and so does the second
pub then_first : (x v : Verdict) → T (accepts (then x v)) → T (accepts x)
unfolding then
then_first (Accepted r) v h = tt
then_first (Refused k p) v h = h
then_first (Violated k s a) v h = h

pub then_second : (x v : Verdict) → T (accepts (then x v)) → T (accepts v)
unfolding then
then_second (Accepted r) v h = h
then_second (Refused k p) v h = absurd h
then_second (Violated k s a) v h = absurd h

-- tests of a list

module _ (P : Verdict → Type 0) where
  abbrev pub EachOf : List Verdict → Type 0
  EachOf [] = Unit {0}
  EachOf (x ∷ xs) = P x × EachOf xs

  pub each_of_append : (xs ys : List Verdict) → EachOf xs → EachOf ys → EachOf (xs ++ ys)
  each_of_append [] ys g h = h
  each_of_append (x ∷ xs) ys g h = (g.0, each_of_append xs ys g.1 h)

pub each_of_map : (P Q : Verdict → Type 0) → ((v : Verdict) → P v → Q v) → (xs : List Verdict) → EachOf P xs → EachOf Q xs
each_of_map P Q f [] h = tt
each_of_map P Q f (x ∷ xs) h = (f x h.0, each_of_map P Q f xs h.1)

abbrev pub AllPass : List Verdict → Type 0
AllPass xs = EachOf (λ x. T (accepts x)) xs

pub tried_passed : (xs : List Verdict) (v : Verdict) → AllPass xs → tried xs v ≡ v
unfolding tried
tried_passed [] v h = refl
tried_passed (x ∷ xs) v h = then_passed x (tried xs v) h.0 ∙ tried_passed xs v h.1

pub tried_go : (x : Verdict) (xs : List Verdict) (v : Verdict) → T (accepts x) → tried (x ∷ xs) v ≡ tried xs v
unfolding tried
tried_go x xs v h = then_passed x (tried xs v) h

pub tried_stop : (x : Verdict) (xs : List Verdict) (v : Verdict) → accepts x ≡ false → tried (x ∷ xs) v ≡ x
unfolding tried
tried_stop x xs v h = then_stopped x (tried xs v) h

-- a test that can only pass or refuse is its own last word
pub settled : (x : Verdict) → (T (accepts x) → x ≡ pass) → then x pass ≡ x
unfolding then
settled (Accepted r) h = sym (h tt)
settled (Refused k p) h = refl
settled (Violated k s a) h = refl

pub tried_all : (xs : List Verdict) (v : Verdict) → T (accepts (tried xs v)) → AllPass xs
unfolding tried
tried_all [] v h = tt
tried_all (x ∷ xs) v h = (then_first x (tried xs v) h, tried_all xs v (then_second x (tried xs v) h))

pub tried_last : (xs : List Verdict) (v : Verdict) → T (accepts (tried xs v)) → T (accepts v)
unfolding tried
tried_last [] v h = h
tried_last (x ∷ xs) v h = tried_last xs v (then_second x (tried xs v) h)

pub tried_append : (xs ys : List Verdict) (v : Verdict) → tried (xs ++ ys) v ≡ then (tried xs pass) (tried ys v)
unfolding tried then
tried_append [] ys v = refl
tried_append (x ∷ xs) ys v = ap (then x) (tried_append xs ys v) ∙ sym (then_assoc x (tried xs pass) (tried ys v))

pub all_append : (xs ys : List Verdict) → AllPass (xs ++ ys) → AllPass xs × AllPass ys
all_append [] ys h = (tt, h)
all_append (x ∷ xs) ys h = let r = all_append xs ys h.1 in ((h.0, r.0), r.1)

pub append_all : (xs ys : List Verdict) → AllPass xs → AllPass ys → AllPass (xs ++ ys)
append_all = each_of_append (λ x. T (accepts x))

-- what is required

pub require_right : (b : Bool) (k p : ℕ) → T (accepts (require b k p)) → T b
unfolding require
require_right true k p h = tt
require_right false k p h = h

pub right_require : (b : Bool) (k p : ℕ) → T b → require b k p ≡ pass
unfolding require
right_require true k p h = refl
right_require false k p h = absurd h

pub passes_require : (b : Bool) (k p : ℕ) → T b → T (accepts (require b k p))
passes_require b k p h = rw (right_require b k p h) tt

-- a test at each index

pub record Trying (test : ℕ → Verdict) (hi : ℕ) (v whole : Verdict) (i : ℕ) : Type 0 where
  pub high : i ≤ hi
  pub rest : each test i hi v ≡ whole

pub each_end : (test : ℕ → Verdict) (lo hi : ℕ) (v : Verdict) → hi ≤ lo → each test lo hi v ≡ v
unfolding each
each_end test lo hi v h = from_end (λ i rest. then (test i) rest) v lo hi h

pub each_step : (test : ℕ → Verdict) (lo hi : ℕ) (v : Verdict) → lo < hi → each test lo hi v ≡ then (test lo) (each test (lo + 1) hi v)
unfolding each
each_step test lo hi v h = from_step (λ i rest. then (test i) rest) v lo hi h

pub try_start : (test : ℕ → Verdict) (lo hi : ℕ) (v : Verdict) → lo ≤ hi → Trying test hi v (each test lo hi v) lo
try_start test lo hi v h = record { high = h; rest = refl }

module _ {test : ℕ → Verdict} {hi : ℕ} {v whole : Verdict} {i : ℕ} (w : Trying test hi v whole i) where
  pub try_pass : i < hi → T (accepts (test i)) → Trying test hi v whole (i + 1)
  try_pass h p = record { high = omega arith; rest = sym (then_passed (test i) (each test (i + 1) hi v) p) ∙ sym (each_step test i hi v h) ∙ w.rest }

  pub try_stop : i < hi → accepts (test i) ≡ false → test i ≡ whole
  try_stop h p = sym (then_stopped (test i) (each test (i + 1) hi v) p) ∙ sym (each_step test i hi v h) ∙ w.rest

  pub try_end : hi ≤ i → v ≡ whole
  try_end h = sym (each_end test i hi v h) ∙ w.rest

-- where the whole accepts, each test passes, and so does the last word
pub each_all : (test : ℕ → Verdict) (hi : ℕ) (v : Verdict) (lo : ℕ) → T (accepts (each test lo hi v))
    → (i : ℕ) → lo ≤ i → i < hi → T (accepts (test i))
each_all test hi v = down
    (λ lo. T (accepts (each test lo hi v)) → (i : ℕ) → lo ≤ i → i < hi → T (accepts (test i))) hi
    (λ lo h p i l u. absurd (omega arith))
    (λ lo h ih p i l u.
    let q : T (accepts (then (test lo) (each test (lo + 1) hi v))) = rw (← each_step test lo hi v h) p in
    ⊎_elim
    (λ (w : i ≤ lo). let e : i ≡ lo = omega arith in rw e (then_first (test lo) (each test (lo + 1) hi v) q))
    (λ (w : lo < i). ih (then_second (test lo) (each test (lo + 1) hi v) q) i (omega arith) u)
    (at_end lo i))

pub each_last : (test : ℕ → Verdict) (hi : ℕ) (v : Verdict) (lo : ℕ) → T (accepts (each test lo hi v)) → T (accepts v)
each_last test hi v = down
    (λ lo. T (accepts (each test lo hi v)) → T (accepts v)) hi
    (λ lo h p. rw (each_end test lo hi v h) at p)
    (λ lo h ih p. ih (then_second (test lo) (each test (lo + 1) hi v) (rw (each_step test lo hi v h) at p)))

pub all_each : (test : ℕ → Verdict) (hi : ℕ) (v : Verdict) (lo : ℕ) → ((i : ℕ) → lo ≤ i → i < hi → T (accepts (test i))) → each test lo hi v ≡ v
all_each test hi v = down
    (λ lo. ((i : ℕ) → lo ≤ i → i < hi → T (accepts (test i))) → each test lo hi v ≡ v) hi
    (λ lo h p. each_end test lo hi v h)
    (λ lo h ih p.
    each_step test lo hi v h ∙ then_passed (test lo) (each test (lo + 1) hi v) (p lo (le_refl lo) h)
    ∙ ih (λ i l u. p i (omega arith) u))

-- a test throughout a table

module _ (right : ℕ → Bool) (n k : ℕ) where
  pub throughout_pass : n ≡ first (λ i. not (right i)) 0 n → pass ≡ throughout right n k
  unfolding throughout require any
  throughout_pass e = rw (← e, le-ltb n n (le_refl n))

  pub throughout_stop : (i : ℕ) → i < n → i ≡ first (λ j. not (right j)) 0 n → Refused k i ≡ throughout right n k
  unfolding throughout require any
  throughout_stop i h e = rw (← e, lt-ltb i n h)

  pub throughout_all : T (accepts (throughout right n k)) → (i : ℕ) → i < n → T (right i)
  unfolding throughout require any
  throughout_all p i h = by (at_end (first (λ j. not (right j)) 0 n) n)
    where
      low : Lowest (λ j. not (right j)) 0 n (first (λ j. not (right j)) 0 n)
      low = lowest (λ j. not (right j)) n 0 zero-le

      by : (n ≤ first (λ j. not (right j)) 0 n) ⊎ (first (λ j. not (right j)) 0 n < n) → T (right i)
      by (inl q) = holds (not-false (right i) (low.passed i zero-le (omega arith)))
      by (inr q) = absurd (rw (lt-ltb (first (λ j. not (right j)) 0 n) n q) at p)

  pub all_throughout : ((i : ℕ) → i < n → T (right i)) → throughout right n k ≡ pass
  all_throughout p = sym (throughout_pass (sym (by (at_end (first (λ j. not (right j)) 0 n) n))))
    where
      low : Lowest (λ j. not (right j)) 0 n (first (λ j. not (right j)) 0 n)
      low = lowest (λ j. not (right j)) n 0 zero-le

      by : (n ≤ first (λ j. not (right j)) 0 n) ⊎ (first (λ j. not (right j)) 0 n < n) → first (λ j. not (right j)) 0 n ≡ n
      by (inl q) = omega (arith, low.high)
      by (inr q) = absurd (subst T (not-true (right (first (λ j. not (right j)) 0 n)) (low.hit q)) (p (first (λ j. not (right j)) 0 n) q))
