-- Demand 3: an accepted claim holds, from every state, under each strategy that it speaks of; one theorem for all kinds.
-- Assumes nothing.
use mathlib.Core.Path.{◌≡◌, refl, subst, ◌∙◌}
use mathlib.Core.Bool.{Bool, true, false, cond}
use mathlib.Core.List.{List}
use Prim.Native.Nat.{ℕ, zero, suc, ◌+◌, ◌*◌, ◌^◌, ◌≤◌, ◌<◌, zero-le}
use native.Mathlib.Nat.{mul-le-mul_right, pow-zero, pow-suc, zero-add}
use native.Mathlib.Omega.{arith}
use lib.ListN.{length}
use Rattle.walk.specs.Fold.{sum, listed}
use Rattle.walk.proofs.Fold.{le_greatest, listed_at, listed_length}
use Rattle.model.specs.declared.answers.Verdict.TheVariants.{Accepted}
use Rattle.model.specs.declared.kinds.Kind.{Kind}
use Rattle.model.specs.declared.kinds.Measure.{Measure}
use Rattle.model.specs.declared.kinds.Measure.TheVariants.{Arrival, Cost}
use Rattle.model.specs.declared.kinds.Bound.{Bound}
use Rattle.model.specs.declared.kinds.Bound.TheVariants.{AtMost, AtLeast}
use Rattle.model.specs.declared.kinds.Who.{Who}
use Rattle.model.specs.declared.kinds.Who.TheVariants.{Every, Some}
use Rattle.model.specs.Limits.{none, most_cost_claim}
use Rattle.model.specs.Kinds.{is_cost, is_some, kind_of, Columns}
use Rattle.model.specs.Tables.{Model, Claim, states, target, first_branch, destination, weight, cost, claim, rank}
use Rattle.model.specs.Refusals.{entries, limit_of}
use Rattle.model.specs.Conditions.{weighted, expected}
use Rattle.model.specs.Checked.{greatest_rank, choice, answer_of, choices_of}
use Rattle.model.specs.WellFormed.{Row, WellFormed}
use Rattle.model.specs.Meets.{SuitsBy, Meets}
use Rattle.model.proofs.Kept.{asks}
use Rattle.model.proofs.Chosen.{owned_row, Allowed, Fit, fits}
use Rattle.model.proofs.Columns.{columns}
use Rattle.model.proofs.Tied.{accepted, written, rank_below}
use Rattle.soundness.specs.Process.{Step, Strategy}
use Rattle.soundness.specs.Demand3.{target_worth, step_gain, process_of, after_steps, FromList, Meant, whole, Bounded, Holds}
use Rattle.soundness.proofs.Conditions as conditions
use Rattle.soundness.proofs.Steps.{stepped_stop}
use Rattle.soundness.proofs.Never.{never_exceeded}
use Rattle.soundness.proofs.Remainder.{missed_by}

one_pow : (R : ℕ) → 1 ^ R ≡ 1
one_pow zero = pow-zero 1
one_pow (suc R) = rw (pow-suc 1 R, one_pow R) refl

-- what the measure decides: a target's worth, a step's gain, and the whole

worth_at_most : (m : Measure) (c x r : ℕ) → (is_cost m ≡ true → c ≡ 1) → (m ≡ Arrival → r ≡ c) → (m ≡ Cost → x ≤ r)
    → c * cond (is_cost m) x 1 ≤ r
worth_at_most Arrival c x r e f g = omega (arith, f refl)
worth_at_most Cost c x r e f g = rw (e refl) (omega (arith, g refl))

worth_at_least : (m : Measure) (c x r most : ℕ) → (is_cost m ≡ true → c ≡ 1) → r ≤ cond (is_cost m) most c → (m ≡ Cost → r ≤ x)
    → r ≤ c * cond (is_cost m) x 1
worth_at_least Arrival c x r most e l g = omega arith
worth_at_least Cost c x r most e l g = rw (e refl) (omega (arith, g refl))

gained : (m : Measure) (c d x : ℕ) → (is_cost m ≡ true → c ≡ 1) → cond (is_cost m) (d * x) 0 ≡ c * (d * cond (is_cost m) x 0)
gained Arrival c d x h = omega arith
gained Cost c d x h = rw (h refl) (omega arith)

in_whole : (m : Measure) (c r most largest : ℕ) → r ≤ cond (is_cost m) most c → r ≤ largest → r ≤ cond (is_cost m) largest c
in_whole Arrival c r most largest l h = l
in_whole Cost c r most largest l h = h

-- the number of entries that a table has where the claim has it
entries_of : (b : Bool) (n : ℕ) → b ≡ true → entries b n ≡ n
entries_of b n e = rw e

module _ (k : Kind) (t : Model) (u : Claim) (chosen : ℕ)
    (columns : Columns k) (formed : WellFormed k t u chosen) (meets : (s : ℕ) → s < states t → Meets k t u s) where
  abbrev Within : ℕ → Type 0
  Within s = s < states t

  -- an action that the claim speaks of: its rows are right, and it meets the conditions
  keeps : (s a : ℕ) → Within s → target t s ≡ false → Allowed k.who k t u s a → Fit k t u s a
  keeps s a w e = fits k t u s e (meets s w) a

  rows : (s a : ℕ) → Within s → target t s ≡ false → Allowed k.who k t u s a → Row t a
  rows s a w e o = owned_row k t u chosen formed s a w (keeps s a w e o).owned

  closed : conditions.Closed (process_of k t u) Within (Allowed k.who k t u)
  unfolding process_of
  closed = record { stays = λ s a j w e o l h. (rows s a w e o).destinations j l h }

  -- E is the sum over the branches and the gain of the step
  expected_is : (s a : ℕ) → expected k t u s a
      ≡ sum (λ j. weight t j * claim u (destination t j)) (first_branch t a) (first_branch t (a + 1)) + u.c * (t.d * step_gain k u s)
  unfolding expected weighted step_gain
  expected_is s a = rw (gained k.measure u.c t.d (cost u s) formed.sized.c_cost)

  claim_in_range : (s : ℕ) → Within s → claim u s ≤ limit_of k u.c
  claim_in_range s w = formed.in_range.claims s (omega (arith, formed.sized.table7))

  at_most : k.bound ≡ AtMost → conditions.AtMost (process_of k t u) u.c (claim u) Within (Allowed k.who k t u)
  unfolding process_of target_worth
  at_most b =
      record {
        closed = closed;
        at_stop = λ s w e. worth_at_most k.measure u.c (cost u s) (claim u s) formed.sized.c_cost
            (λ m. (meets s w).met21_arrival e m b) (λ m. (meets s w).met21_cost_most e m b);
        at_step = λ s a w e o.
            let q : SuitsBy AtMost k t u s a = subst (λ x. SuitsBy x k t u s a) b (keeps s a w e o).suits in
            rw (expected_is s a) at q;
      }

  at_least : k.bound ≡ AtLeast
      → conditions.AtLeast (process_of k t u) u.c (whole k u) (greatest_rank u.ranks) 1 t.d (claim u) (rank u) Within (Allowed k.who k t u)
  unfolding process_of target_worth whole
  at_least b =
      record {
        closed = closed;
        part = formed.sized.d_least;
        bounded = λ s w. in_whole k.measure u.c (claim u s) most_cost_claim _ (claim_in_range s w)
            (le_greatest (claim u) (length u.claims) s 0 zero-le (omega (arith, formed.sized.table7)));
        topped = λ s w p. rank_below u s (long s w) ((meets s w).met23 b p);
        at_stop = λ s w e. worth_at_least k.measure u.c (cost u s) (claim u s) most_cost_claim formed.sized.c_cost
            (claim_in_range s w) (λ m. (meets s w).met21_cost_least e m b);
        at_step = λ s a w e o.
            let q : SuitsBy AtLeast k t u s a = subst (λ x. SuitsBy x k t u s a) b (keeps s a w e o).suits in
            rw (expected_is s a) at q;
        adds_up = λ s a w e o. (rows s a w e o).total;
        falls = λ s a w e p o.
            let f = (keeps s a w e o).falls (asks k t u s b e ((meets s w).met23 b p)) in
            (f.0, f.1.0, f.1.1, f.3, mul-le-mul_right t.d ((rows s a w e o).weight_least f.0 f.1.0 f.1.1));
      }
    where
      long : (s : ℕ) → Within s → s < length u.ranks
      long s w = rw (formed.sized.table8, entries_of k.ranks (states t) (columns.ranks ∙ rw b)) w

  -- the strategy of a list that holds the choices picks the choice at each state
  from_list : (σ : Strategy) (final : List ℕ) → final ≡ listed (choice k t u) 0 (states t) → FromList final σ
      → (history : List Step) (s : ℕ) → Within s → σ history s ≡ choice k t u s
  from_list σ final e m history s w =
      let l : s < length final = rw (e, listed_length (choice k t u) (states t) 0) (omega arith) in
      m history s l ∙ rw (e, listed_at (choice k t u) none (states t) 0 s (omega arith), zero-add s)

  -- the strategies that the claim speaks of pick such actions
  obeys : (σ : Strategy) (who : Who) (final : List ℕ) → (is_some who ≡ true → final ≡ listed (choice k t u) 0 (states t))
      → Meant who t final σ → conditions.Obeys (process_of k t u) Within (Allowed who k t u) σ
  unfolding process_of
  obeys σ Every final e m = m
  obeys σ Some final e m = λ history s w n. from_list σ final (e refl) m history s w

  pub holds_so : (final : List ℕ) → (is_some k.who ≡ true → final ≡ listed (choice k t u) 0 (states t)) → Holds k t u (greatest_rank u.ranks) final
  unfolding process_of after_steps
  holds_so final e σ m s w = by k.bound refl
    where
      obeyed : conditions.Obeys (process_of k t u) Within (Allowed k.who k t u) σ
      obeyed = obeys σ k.who final e m

      by : (b : Bound) → k.bound ≡ b → Bounded b k t u (greatest_rank u.ranks) σ s
      by AtMost b = λ steps. never_exceeded (process_of k t u) u.c (claim u) Within (Allowed k.who k t u) (at_most b) σ obeyed steps s w
      by AtLeast b = λ rounds.
          rw (one_pow (greatest_rank u.ranks)) at
          (missed_by (process_of k t u) u.c (whole k u) (greatest_rank u.ranks) 1 t.d (claim u) (rank u) Within (Allowed k.who k t u)
          (at_least b) σ obeyed rounds s w)

pub demand3 : (kind : ℕ) (t : Model) (u : Claim) (choices : List ℕ) (R : ℕ) → (answer_of kind t u choices).verdict ≡ Accepted R
    → Holds (kind_of kind) t u R (choices_of kind t u choices)
demand3 kind t u choices R e =
    let d = accepted kind t u choices R e in
    rw d.greatest
    (holds_so (kind_of kind) t u (length choices) (columns kind) d.formed d.meets (choices_of kind t u choices) (written kind t u choices R e))

-- a target has its worth at every step count, 0 included
pub at_target : (k : Kind) (t : Model) (u : Claim) (σ : Strategy) (steps s : ℕ) → target t s ≡ true
    → after_steps k t u σ steps s ≡ t.d ^ steps * target_worth k u s
unfolding after_steps process_of
at_target k t u σ steps s e = stepped_stop (process_of k t u) σ s steps e

-- so its stepped cost is its own cost, once
pub target_cost : (k : Kind) (t : Model) (u : Claim) (σ : Strategy) (steps s : ℕ) → target t s ≡ true → k.measure ≡ Cost
    → after_steps k t u σ steps s ≡ t.d ^ steps * cost u s
unfolding target_worth
target_cost k t u σ steps s e m = at_target k t u σ steps s e ∙ rw m
