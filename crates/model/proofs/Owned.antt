-- The stretch of an action's branches lies within the table. Assumes nothing.
use mathlib.Core.Path.{◌≡◌, refl}
use mathlib.Core.Bool.{Bool, true, false, cond, ◌&&◌}
use mathlib.Core.List.{List}
use Prim.Native.Nat.{ℕ, ◌+◌, ◌≤◌, zero-le}
use native.Mathlib.Nat.{le_refl}
use native.Mathlib.Omega.{arith}
use lib.Dec.{leb, ltb}
use lib.ListN.{length, get_or}
use borrow.Author.Tests.{ltb-true, leb-true}
use Rattle.std.specs.declared.ops.Range.{Range}
use Rattle.model.specs.Branches.{rises, stretch_of}

abbrev nothing : Range ℕ
nothing = record { start = 0; end = 0 }

module _ (long : ℕ) (starts : List ℕ) (a : ℕ) where
  -- it lies within the table
  pub inside : ((stretch_of long starts a).start ≤ (stretch_of long starts a).end) × ((stretch_of long starts a).end ≤ long)
  unfolding stretch_of rises
  inside = by (ltb (a + 1) (length starts)) (ltb (get_or starts a 0) (get_or starts (a + 1) 0)) refl (leb (get_or starts (a + 1) 0) long) refl
    where
      S : Bool → Bool → Bool → Range ℕ
      S p q r = cond (p && (q && r)) (record { start = get_or starts a 0; end = get_or starts (a + 1) 0 }) nothing

      by : (p q : Bool) → ltb (get_or starts a 0) (get_or starts (a + 1) 0) ≡ q → (r : Bool) → leb (get_or starts (a + 1) 0) long ≡ r →
          ((S p q r).start ≤ (S p q r).end) × ((S p q r).end ≤ long)
      by true true e true f = (
        omega (arith, ltb-true (get_or starts a 0) (get_or starts (a + 1) 0) e),
        omega (arith, leb-true (get_or starts (a + 1) 0) long f),
      )
      by true true e false f = (le_refl 0, zero-le)
      by true false e r f = (le_refl 0, zero-le)
      by false q e r f = (le_refl 0, zero-le)
