-- Demand 3: what an accepted claim says of every strategy, or of the one in the choice list.
use Rattle.std.specs.Prelude.{ℕ, ◌+◌, ◌-◌, ◌*◌, ◌^◌, ◌≤◌, ◌<◌, ◌≡◌, false, cond, List, length, get_or}
use Rattle.walk.specs.Fold.{greatest}
use Rattle.model.specs.declared.kinds.Kind.{Kind}
use Rattle.model.specs.declared.kinds.Bound.{Bound}
use Rattle.model.specs.declared.kinds.Bound.TheVariants.{AtMost, AtLeast}
use Rattle.model.specs.declared.kinds.Who.{Who}
use Rattle.model.specs.declared.kinds.Who.TheVariants.{Every, Some}
use Rattle.model.specs.Limits.{none}
use Rattle.model.specs.Kinds.{is_cost}
use Rattle.model.specs.Tables.{Model, Claim, states, target, first_branch, destination, weight, cost, claim}
use Rattle.model.specs.Meets.{Owns}
use Rattle.soundness.specs.Process.{Process, Step, Strategy, stepped}

-- a target's worth at every step count, 0 included: 1 for arrival, its own cost for cost
unfoldable pub target_worth : Kind → Claim → ℕ → ℕ
target_worth k u s = cond (is_cost k.measure) (cost u s) 1

-- what a step from a state adds: nothing for arrival, the state's cost for cost
unfoldable pub step_gain : Kind → Claim → ℕ → ℕ
step_gain k u s = cond (is_cost k.measure) (cost u s) 0

-- the model as a process over powers of D, by the measure of the claim
unfoldable pub process_of : Kind → Model → Claim → Process
unfolding target_worth step_gain
process_of k t u =
    record {
      base = t.d;
      stops = target t;
      worth = target_worth k u;
      gain = step_gain k u;
      lo = first_branch t;
      hi = λ a. first_branch t (a + 1);
      destination = destination t;
      weight = λ a j. weight t j;
    }

-- arrival, or collected cost, after so many steps under a strategy, over D to that power
unfoldable pub after_steps : Kind → Model → Claim → Strategy → ℕ → ℕ → ℕ
unfolding stepped process_of
after_steps k t u σ steps s = stepped (process_of k t u) σ steps s

-- the strategy picks an action that the state owns, whatever the history
abbrev pub Enabled : Model → Strategy → Type 0
Enabled t σ = (history : List Step) (s : ℕ) → s < states t → target t s ≡ false → Owns t s (σ history s)

-- the strategy that a choice list holds: its action at the state, from any history
abbrev pub FromList : List ℕ → Strategy → Type 0
FromList choices σ = (history : List Step) (s : ℕ) → s < length choices → σ history s ≡ get_or choices s none

-- the strategies that a claim speaks of: "every" strategy that picks enabled actions, or the one in the choice list
abbrev pub Meant : Who → Model → List ℕ → Strategy → Type 0
Meant Every t choices σ = Enabled t σ
Meant Some t choices σ = FromList choices σ

-- the whole of which a part may be missed: C for arrival, the largest claim for cost
unfoldable pub whole : Kind → Claim → ℕ
unfolding greatest
whole k u = cond (is_cost k.measure) (greatest (claim u) 0 (length u.claims)) u.c

-- "at most": never exceeded, after any number of steps; "at least": after m times R steps missed by at most
-- (1 - D^-R)^m of the whole
abbrev pub Bounded : Bound → Kind → Model → Claim → ℕ → Strategy → ℕ → Type 0
Bounded AtMost k t u R σ s = (steps : ℕ) → u.c * after_steps k t u σ steps s ≤ claim u s * t.d ^ steps
Bounded AtLeast k t u R σ s =
    (m : ℕ)
    → (claim u s * t.d ^ (m * R) - u.c * after_steps k t u σ (m * R) s) * t.d ^ (R * m)
    ≤ whole k u * t.d ^ (m * R) * (t.d ^ R - 1) ^ m

-- the claim holds: from every state, under each strategy that it speaks of
abbrev pub Holds : Kind → Model → Claim → ℕ → List ℕ → Type 0
Holds k t u R choices = (σ : Strategy) → Meant k.who t choices σ → (s : ℕ) → s < states t → Bounded k.bound k t u R σ s
