-- The eight kinds of claim, and what each needs.
use Rattle.std.specs.Prelude.{ℕ, ◌-◌, ◌≡◌, Bool, true, false, ◌&&◌, cond, List, [], ◌∷◌, Result, Ok, Err, leb, get_or}
use Rattle.model.specs.declared.kinds.Measure.{Measure}
use Rattle.model.specs.declared.kinds.Measure.TheVariants.{Arrival, Cost}
use Rattle.model.specs.declared.kinds.Bound.{Bound}
use Rattle.model.specs.declared.kinds.Bound.TheVariants.{AtMost, AtLeast}
use Rattle.model.specs.declared.kinds.Who.{Who}
use Rattle.model.specs.declared.kinds.Who.TheVariants.{Every, Some}
use Rattle.model.specs.declared.kinds.Kind.{Kind}
use Rattle.model.specs.declared.answers.Fault.{Fault}
use Rattle.model.specs.declared.answers.Refusal.TheVariants as refusal

abbrev pub is_cost : Measure → Bool
is_cost Arrival = false
is_cost Cost = true

abbrev pub is_at_least : Bound → Bool
is_at_least AtMost = false
is_at_least AtLeast = true

abbrev pub is_some : Who → Bool
is_some Every = false
is_some Some = true

-- a claim has costs where it is about cost, ranks where its bound is "at least", choices where it is for some strategy
abbrev pub row : Measure → Bound → Who → Kind
row m b w = record { measure = m; bound = b; who = w; costs = is_cost m; ranks = is_at_least b; choices = is_some w }

-- kinds 1 to 8
abbrev pub kinds : List Kind
kinds =
    row Arrival AtMost Every
    ∷ row Arrival AtLeast Every
    ∷ row Arrival AtMost Some
    ∷ row Arrival AtLeast Some
    ∷ row Cost AtMost Every
    ∷ row Cost AtMost Some
    ∷ row Cost AtLeast Every
    ∷ row Cost AtLeast Some
    ∷ []

-- the kind that a number from 1 to 8 names
abbrev pub kind_of : ℕ → Kind
kind_of number = get_or kinds (number - 1) (row Arrival AtMost Every)

abbrev pub is_kind : ℕ → Bool
is_kind number = leb 1 number && leb number 8

abbrev pub known_as : ℕ → Result Kind Fault
known_as number = cond (is_kind number) (Ok (kind_of number)) (Err (record { refusal = refusal.Kind; place = 0 }))

-- the last three columns of a kind follow from the first three
pub record Columns (k : Kind) : Type 0 where
  pub costs : k.costs ≡ is_cost k.measure
  pub ranks : k.ranks ≡ is_at_least k.bound
  pub choices : k.choices ≡ is_some k.who
