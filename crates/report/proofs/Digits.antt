-- Std's digits of a number are document 01's, and how many bytes numbers take. Assumes nothing.
use mathlib.Core.Path.{◌≡◌, refl, sym, ap}
use mathlib.Core.Bool.{true, false}
use mathlib.Core.List.{List, [], ◌∷◌, ◌++◌}
use Prim.Native.Nat.{ℕ, zero, suc, ◌+◌, ◌/◌, ◌%◌, ◌≤◌, ◌<◌}
use native.Mathlib.Omega.{arith}
use mir.Val.{Fits}
use mir.Syntax.{w32, w64}
use lib.ListN.{length}
use borrow.Author.Tests.{lt-ltb, le-ltb, eq-eqb, ne_eqb}
use Rattle.std.specs.Fmt as Fmt
use Rattle.std.proofs.lemmas.Fmt.{AppendsLastDigit, decimal_from_appends, length-decimal-le, length-decimal-le_succ}
use Rattle.model.specs.Limits.{none}
use Rattle.model.specs.declared.answers.Verdict.{Verdict}
use Rattle.model.specs.declared.answers.Verdict.TheVariants.{Accepted, Refused, Violated}
use Rattle.model.specs.Checked.{accepts}
use Rattle.report.specs.Text.{digit, spelled, decimal, dashed, head_of, lines_of, text_of}

-- at most so many digits
last : ℕ → ℕ → List ℕ
last zero n = []
last (suc k) n = spelled k n

appends : AppendsLastDigit last
unfolding spelled last
appends = record { one = one; more = more }
  where
    one : (k n : ℕ) → n < 10 → last (suc k) n ≡ (48 + n) ∷ []
    one zero n h = ap (λ (d : ℕ). digit d ∷ []) (omega arith)
    one (suc k) n h = rw (lt-ltb n 10 h) (ap (λ (d : ℕ). digit d ∷ []) (omega arith))

    more : (k n : ℕ) → 10 ≤ n → last (suc k) n ≡ last k (n / 10) ++ ((48 + n % 10) ∷ [])
    more zero n h = refl
    more (suc k) n h = rw (le-ltb n 10 h)

pub decimal_one : (n : ℕ) → n < 10 → decimal n ≡ digit (n % 10) ∷ []
unfolding decimal spelled
decimal_one zero h = refl
decimal_one (suc n) h = rw (lt-ltb (suc n) 10 h)

pub decimal_is : (n : ℕ) → Fits w64 n → Fmt.decimal n ≡ decimal n
unfolding decimal last
decimal_is n h = sym (decimal_from_appends last appends (suc n) n (omega (arith, h)) (omega (arith, length-decimal-le_succ n (omega (arith, h)))))

-- a number of 32 bits has at most 10 digits, one of 64 bits at most 20
pub short32 : (n : ℕ) → Fits w32 n → length (decimal n) ≤ 10
short32 n h = rw (← decimal_is n (omega (arith, h))) (length-decimal-le 10 n (omega arith) (omega (arith, h)) (omega (arith, h)))

pub short64 : (n : ℕ) → Fits w64 n → length (decimal n) ≤ 20
short64 n h = rw (← decimal_is n h) (length-decimal-le 20 n (omega arith) (omega (arith, h)) (omega (arith, h)))

pub dashed_none : (a : ℕ) → a ≡ none → dashed a ≡ 45 ∷ []
unfolding dashed
dashed_none a e = rw (eq-eqb a none e)

pub dashed_number : (a : ℕ) → (a ≡ none → ⊥) → dashed a ≡ decimal a
unfolding dashed
dashed_number a e = rw (ne_eqb a none e)

-- the choices are printed where the verdict accepts
pub text_accepted : (v : Verdict) (choices : List ℕ) → accepts v ≡ true → head_of v ++ lines_of choices ≡ text_of v choices
unfolding text_of
text_accepted (Accepted r) choices e = refl
text_accepted (Refused k p) choices e = cc
text_accepted (Violated k s a) choices e = cc

pub text_alone : (v : Verdict) (choices : List ℕ) → accepts v ≡ false → head_of v ≡ text_of v choices
unfolding text_of
text_alone (Accepted r) choices e = cc
text_alone (Refused k p) choices e = refl
text_alone (Violated k s a) choices e = refl
