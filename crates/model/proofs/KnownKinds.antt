-- What is known of a kind's number by the kind that it names, or names not. Assumes nothing.
use mathlib.Core.Path.{◌≡◌, refl}
use mathlib.Core.Bool.{Bool, true, false, cond}
use Prim.Native.Nat.{ℕ}
use native.Mathlib.Omega.{arith}
use Rattle.model.specs.declared.kinds.Kind.{Kind}
use Rattle.std.specs.Prelude.{Result, Ok, Err}
use Rattle.model.specs.declared.answers.Fault.{Fault}
use Rattle.model.specs.declared.answers.Refusal.TheVariants as refusal
use Rattle.model.specs.Kinds.{kind_of, is_kind, known_as}

-- what a number that is no kind is refused with
abbrev pub no_kind : Fault
no_kind = record { refusal = refusal.Kind; place = 0 }

abbrev pick : Bool → Kind → Result Kind Fault
pick b x = cond b (Ok x) (Err no_kind)

picked : (b : Bool) (x k : Kind) → pick b x ≡ Ok k → (b ≡ true) × (x ≡ k)
picked true x k e = (refl, cc)
picked false x k e = let z : ◌≡◌ {A = ℕ} 0 1 = cc in absurd (omega arith)

missed : (b : Bool) (x : Kind) (f : Fault) → pick b x ≡ Err f → (b ≡ false) × (f ≡ no_kind)
missed true x f e = let z : ◌≡◌ {A = ℕ} 0 1 = cc in absurd (omega arith)
missed false x f e = (refl, cc)

pub named : (number : ℕ) (k : Kind) → known_as number ≡ Ok k → (is_kind number ≡ true) × (kind_of number ≡ k)
named number k e = picked (is_kind number) (kind_of number) k e

pub unnamed : (number : ℕ) (f : Fault) → known_as number ≡ Err f → (is_kind number ≡ false) × (f ≡ no_kind)
unnamed number f e = missed (is_kind number) (kind_of number) f e
