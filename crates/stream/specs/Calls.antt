-- What calls at the cases of an input do.
use Rattle.std.specs.Prelude.{◌≡◌, ℕ, ◌-◌, ◌^◌, List, length, Option, Result, Ok, ◌⊎◌}
use Rattle.std.specs.List.{FoldsTo}
use Rattle.stream.specs.Case.{IsCase, IsEnd}

module _ {F E : Type 0} (called : F → List ℕ → Result (Unit {0}) E → F → Type 0) (room : ℕ) where
  -- the next case is this one, and a call at it answers `Ok`
  abbrev pub CallsOnNext : Option (List ℕ) × F → List ℕ → Option (List ℕ) × F → Type 0
  CallsOnNext s case t = IsCase s.0 t.0 room case × called s.1 case (Ok tt) t.1

  -- a call at each case, in order, until the input ends, or after 2^64 - 1 of them
  pub record CallsOnEach (old new : Option (List ℕ)) (f : F) : Type 0 where
    pub cases : List (List ℕ)
    pub rest : Option (List ℕ)
    pub last : F
    pub calls : FoldsTo CallsOnNext (old, f) cases (rest, last)
    pub ends : IsEnd rest new ⊎ ((length cases ≡ 2 ^ 64 - 1) × (rest ≡ new))
