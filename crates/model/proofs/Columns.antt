-- What each kind has agrees with what it is about, once over the table of kinds. Assumes nothing.
use mathlib.Core.Path.{refl}
use Prim.Native.Nat.{ℕ, zero, suc, ◌-◌}
use lib.ListN.{get_or}
use Rattle.model.specs.declared.kinds.Kind.{Kind}
use Rattle.model.specs.declared.kinds.Measure.{Measure}
use Rattle.model.specs.declared.kinds.Measure.TheVariants.{Arrival, Cost}
use Rattle.model.specs.declared.kinds.Bound.{Bound}
use Rattle.model.specs.declared.kinds.Bound.TheVariants.{AtMost, AtLeast}
use Rattle.model.specs.declared.kinds.Who.{Who}
use Rattle.model.specs.declared.kinds.Who.TheVariants.{Every, Some}
use Rattle.model.specs.Kinds.{row, kinds, kind_of, Columns}

-- what holds of every row of the table of kinds holds of the kind of any number
pub kinds_all : (P : Kind → Type 0) → ((m : Measure) (b : Bound) (w : Who) → P (row m b w)) → (number : ℕ) → P (kind_of number)
kinds_all P f number = by (number - 1)
  where
    by : (i : ℕ) → P (get_or kinds i (row Arrival AtMost Every))
    by zero = f Arrival AtMost Every
    by (suc zero) = f Arrival AtLeast Every
    by (suc (suc zero)) = f Arrival AtMost Some
    by (suc (suc (suc zero))) = f Arrival AtLeast Some
    by (suc (suc (suc (suc zero)))) = f Cost AtMost Every
    by (suc (suc (suc (suc (suc zero))))) = f Cost AtMost Some
    by (suc (suc (suc (suc (suc (suc zero)))))) = f Cost AtLeast Every
    by (suc (suc (suc (suc (suc (suc (suc zero))))))) = f Cost AtLeast Some
    by (suc (suc (suc (suc (suc (suc (suc (suc i)))))))) = f Arrival AtMost Every

-- a kind has costs, ranks and choices as its measure, bound and strategies say
pub columns : (number : ℕ) → Columns (kind_of number)
columns = kinds_all Columns (λ m b w. record { costs = refl; ranks = refl; choices = refl })
