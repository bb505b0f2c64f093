-- A computed test and the proposition that it holds. Assumes nothing.
use mathlib.Core.Path.{◌≡◌, refl, sym, subst}
use mathlib.Core.Bool.{Bool, true, false, not, ◌&&◌}
use lib.Dec.{T}

pub holds : {b : Bool} → b ≡ true → T b
holds e = subst T (sym e) tt

pub fails : {b : Bool} → b ≡ false → T b → ⊥
fails e h = subst T e h

pub is_true : (b : Bool) → T b → b ≡ true
is_true true h = refl
is_true false h = absurd h

pub is_false : (b : Bool) → (T b → ⊥) → b ≡ false
is_false true h = absurd (h tt)
is_false false h = refl

pub both : (a b : Bool) → T a → T b → T (a && b)
both true b p q = q
both false b p q = p

pub and_left : (a b : Bool) → T (a && b) → T a
and_left true b h = tt
and_left false b h = h

pub and_right : (a b : Bool) → T (a && b) → T b
and_right true b h = h
and_right false b h = absurd h

pub by_not : (b : Bool) → T (not b) → T b → ⊥
by_not true n h = n
by_not false n h = h

pub not_by : (b : Bool) → (T b → ⊥) → T (not b)
not_by true h = h tt
not_by false h = tt

pub by_contradiction : (b : Bool) → (T (not b) → ⊥) → T b
by_contradiction true h = tt
by_contradiction false h = h tt
