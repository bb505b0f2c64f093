-- Each number of the file that well-formed tables make fits its width. Assumes nothing.
use mathlib.Core.Path.{◌≡◌}
use mathlib.Core.Bool.{Bool, true, false, cond}
use mathlib.Core.List.{List, [], ◌∷◌}
use mathlib.Core.Logic.{⊎_elim}
use Prim.Native.Nat.{ℕ, zero, suc, ◌-◌, ◌^◌, ◌≤◌, ◌<◌}
use native.Mathlib.Nat.{zero-lt-suc}
use native.Mathlib.Omega.{arith}
use lib.Dec.{T, leb, leb→le}
use lib.ListN.{length, get_or, get_or-eq_default}
use Rattle.walk.proofs.Bools.{and_right}
use Rattle.walk.proofs.Fold.{at_end}
use Rattle.model.specs.Limits.{most_claim_scale, most_cost_claim, none}
use Rattle.model.specs.Kinds.{is_cost, is_kind, kind_of}
use Rattle.model.specs.Tables.{Model, Claim, states, actions, branches, destination, weight, rank}
use Rattle.model.specs.WellFormed.{Sized, WellFormed}
use Rattle.model.proofs.Formed.{entries_most}
use Rattle.model.proofs.Rising.{start_below, Owner, owner}
use Rattle.wire.specs.Blocks.{size}
use Rattle.wire.specs.Sections.{Section, sections_of, section}
use Rattle.wire.proofs.RoundTrip.{power_pos}
use Rattle.certfile.specs.File.{announced, blocks}
use Rattle.writer.specs.File.{header_for, sections}

-- pairs without their brackets
infixr 60 ◌&◌
◌&◌ : {A B : Type 0} → A → B → A × B
a & b = (a, b)

-- each number of a list fits a width, and so for sections
abbrev Fits : ℕ → List ℕ → Type 0
Fits width xs = (j : ℕ) → get_or xs j 0 < 256 ^ width

abbrev AllFit : List Section → Type 0
AllFit [] = Unit {0}
AllFit (x ∷ xs) = Fits x.width x.numbers × AllFit xs

fit_at : (xs : List Section) → AllFit xs → (i : ℕ) → Fits (section xs i).width (section xs i).numbers
unfolding section
fit_at [] f i j = zero-lt-suc 0
fit_at (x ∷ xs) f zero j = f.0 j
fit_at (x ∷ xs) f (suc i) j = fit_at xs f.1 i j

-- numbers one by one, and a table by what is known at its indexes
abbrev Each : ℕ → List ℕ → Type 0
Each width [] = Unit {0}
Each width (x ∷ xs) = (x < 256 ^ width) × Each width xs

each_fits : (width : ℕ) (xs : List ℕ) → Each width xs → Fits width xs
each_fits width [] h j = power_pos width
each_fits width (x ∷ xs) h zero = h.0
each_fits width (x ∷ xs) h (suc j) = each_fits width xs h.1 j

table_fits : (width : ℕ) (xs : List ℕ) → ((j : ℕ) → j < length xs → get_or xs j 0 < 256 ^ width) → Fits width xs
table_fits width xs h j =
    ⊎_elim
    (λ (q : length xs ≤ j). rw (get_or-eq_default xs 0 q) (power_pos width))
    (λ (q : j < length xs). h j q)
    (at_end j (length xs))

limit_le : (cost : Bool) (c : ℕ) → c ≤ most_claim_scale → cond cost most_cost_claim c < 256 ^ 8
limit_le true c h = omega arith
limit_le false c h = omega arith

kind_le : (kind : ℕ) → T (is_kind kind) → kind ≤ 8
kind_le kind h = leb→le kind 8 (and_right (leb 1 kind) (leb kind 8) h)

module _ (kind : ℕ) (t : Model) (u : Claim) (chosen : ℕ) (w : WellFormed (kind_of kind) t u chosen) where
  abbrev s : Sized (kind_of kind) t u chosen
  s = w.sized

  pub size_fits : size (blocks (header_for kind t u)) < 256 ^ 4
  unfolding size blocks announced
  size_fits =
      omega
      (arith, s.n_most, s.table3_most, s.table4, entries_most (kind_of kind).costs (states t), entries_most (kind_of kind).ranks (states t))

  -- the action that owns a branch bounds what stands there
  at_branch : (j : ℕ) → j < branches t → (destination t j < states t) × (weight t j ≤ t.d)
  at_branch j h =
      let o : Owner t.branch_starts j = owner t.branch_starts (branches t) w.counted.branch-starts (omega (arith, s.table3_least)) j h in
      let r = w.counted.rows o.at (omega (arith, o.within)) in
      (r.destinations j o.low o.high, r.weight_most j o.low o.high)

  at_rank : (j : ℕ) → j < length u.ranks → rank u j < 256 ^ 4
  at_rank j h =
      ⊎_elim
      (λ (p : rank u j < states t). omega (arith, s.n_most))
      (λ (p : rank u j ≡ none). omega arith)
      (w.in_range.ranks j h)

  all_fit : T (is_kind kind) → AllFit (sections (header_for kind t u) t u)
  unfolding sections sections_of blocks announced
  all_fit k =
      each_fits 4 ((size (blocks (header_for kind t u)) - 4) ∷ []) (omega (arith, size_fits), tt)
      & each_fits 1 (1 ∷ []) (omega arith, tt)
      & each_fits 1 (kind ∷ []) (omega (arith, kind_le kind k), tt)
      & each_fits 4 (t.d ∷ u.c ∷ states t ∷ actions t ∷ branches t ∷ [])
      (omega (arith, s.d_most), (omega (arith, s.c_most), (omega (arith, s.n_most), (omega (arith, s.table3_most), (omega (arith, s.table4), tt)))))
      & table_fits 1 t.marks (λ j h. omega (arith, w.counted.marks j h))
      & table_fits 4 t.action_starts (λ j h. omega (arith, start_below t.action_starts (actions t) w.counted.action-starts j h, s.table3_most))
      & table_fits 4 t.branch_starts (λ j h. omega (arith, start_below t.branch_starts (branches t) w.counted.branch-starts j h, s.table4))
      & table_fits 4 t.destinations (λ j h. omega (arith, (at_branch j h).0, s.n_most))
      & table_fits 4 t.weights (λ j h. omega (arith, (at_branch j (omega (arith, s.table5))).1, s.d_most))
      & table_fits 4 u.costs (λ j h. omega (arith, w.in_range.costs j h))
      & table_fits 8 u.claims (λ j h. omega (arith, w.in_range.claims j h, limit_le (is_cost (kind_of kind).measure) u.c s.c_most))
      & table_fits 4 u.ranks at_rank
      & tt

  pub fits : T (is_kind kind) → (i j : ℕ)
      → get_or (section (sections (header_for kind t u) t u) i).numbers j 0 < 256 ^ (section (sections (header_for kind t u) t u) i).width
  fits k = fit_at (sections (header_for kind t u) t u) (all_fit k)
