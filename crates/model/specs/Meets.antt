-- Conditions 21 to 24 as propositions, to be read beside document 01.
use Rattle.std.specs.Prelude.{ℕ, ◌+◌, ◌*◌, ◌≤◌, ◌<◌, ◌≡◌, true, false}
use Rattle.model.specs.declared.kinds.Kind.{Kind}
use Rattle.model.specs.declared.kinds.Measure.TheVariants.{Arrival, Cost}
use Rattle.model.specs.declared.kinds.Bound.{Bound}
use Rattle.model.specs.declared.kinds.Bound.TheVariants.{AtMost, AtLeast}
use Rattle.model.specs.declared.kinds.Who.{Who}
use Rattle.model.specs.declared.kinds.Who.TheVariants.{Every, Some}
use Rattle.model.specs.Limits.{none}
use Rattle.model.specs.Tables.{Model, Claim, target, first_action, first_branch, destination, scale, cost, claim, rank}
use Rattle.model.specs.Conditions.{expected}

-- state s owns action a, and action a owns branch j
abbrev pub Owns : Model → ℕ → ℕ → Type 0
Owns t s a = (first_action t s ≤ a) × (a < first_action t (s + 1))

abbrev pub OwnsBranch : Model → ℕ → ℕ → Type 0
OwnsBranch t a j = (first_branch t a ≤ j) × (j < first_branch t (a + 1))

-- E <= D * claim(s) ("at most") or E >= D * claim(s) ("at least")
abbrev pub SuitsBy : Bound → Kind → Model → Claim → ℕ → ℕ → Type 0
SuitsBy AtMost k t u s a = expected k t u s a ≤ scale t a * claim u s
SuitsBy AtLeast k t u s a = scale t a * claim u s ≤ expected k t u s a

abbrev pub Suits : Kind → Model → Claim → ℕ → ℕ → Type 0
Suits k t u s a = SuitsBy k.bound k t u s a

-- some branch has a destination with a rank that is not none and is below the rank of s
abbrev pub Falls : Model → Claim → ℕ → ℕ → Type 0
Falls t u s a =
    (j : ℕ) × (OwnsBranch t a j) × (rank u (destination t j) ≡ none → ⊥) × (rank u (destination t j) < rank u s)

-- all actions of a state, or at least one
abbrev pub ForActions : Who → Model → ℕ → (every : ℕ → Type 0) → (some : ℕ → Type 0) → Type 0
ForActions Every t s every some = (a : ℕ) → Owns t s a → every a
ForActions Some t s every some = (a : ℕ) × (Owns t s a) × (some a)

-- state s meets its conditions
pub record Meets (k : Kind) (t : Model) (u : Claim) (s : ℕ) : Type 0 where
  pub met21_arrival : target t s ≡ true → k.measure ≡ Arrival → k.bound ≡ AtMost → claim u s ≡ u.c
  pub met21_cost_most : target t s ≡ true → k.measure ≡ Cost → k.bound ≡ AtMost → cost u s ≤ claim u s
  pub met21_cost_least : target t s ≡ true → k.measure ≡ Cost → k.bound ≡ AtLeast → claim u s ≤ cost u s
  pub met22 : target t s ≡ false → ForActions k.who t s (Suits k t u s) (Suits k t u s)
  pub met23 : k.bound ≡ AtLeast → 0 < claim u s → rank u s ≡ none → ⊥
  pub met24 : k.bound ≡ AtLeast → target t s ≡ false → (rank u s ≡ none → ⊥)
      → ForActions k.who t s (Falls t u s) (λ a. Suits k t u s a × Falls t u s a)
