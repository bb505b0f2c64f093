-- The walks over a stretch of branches: one adds weight times claim, the other finds the least rank too. Assumes nothing.
use mathlib.Core.Path.{◌≡◌}
use mathlib.Core.List.{List}
use Prim.Native.Nat.{ℕ, ◌+◌, ◌*◌, ◌≤◌, ◌<◌, min}
use native.Mathlib.Nat.{le_refl, le_trans}
use native.Mathlib.Omega.{arith}
use lib.ListN.{length, get_or}
use Rattle.walk.proofs.Loop.{Summing, sum_start, sum_pass, sum_within, sum_ends, Sinking, sink_start, sink_pass}
use Rattle.model.specs.Limits.{most_weight_scale, most_cost_claim, none}
use Rattle.model.specs.Tables.{destination_at, weight_at}
use Rattle.model.specs.Conditions.{weighted_over}
use Rattle.actions.specs.Ready.{Weighable}
use Rattle.actions.specs.Judging.{least_of}

abbrev pub term : List ℕ → List ℕ → List ℕ → ℕ → ℕ
term destinations weights claims j = weight_at weights j * get_or claims (destination_at destinations j) 0

pub record Weighing (destinations weights claims : List ℕ) (lo hi total j : ℕ) : Type 0 where
  pub able : Weighable destinations weights claims lo hi
  pub low : lo ≤ j
  pub summing : Summing (term destinations weights claims) hi (weighted_over destinations weights claims lo hi) j total

module _ {destinations weights claims : List ℕ} {lo hi : ℕ} where
  pub weigh_start : Weighable destinations weights claims lo hi → Weighing destinations weights claims lo hi 0 lo
  weigh_start w = record { able = w; low = le_refl lo; summing = sum_start (term destinations weights claims) lo hi w.low }

  module _ {total j : ℕ} (w : Weighing destinations weights claims lo hi total j) where
    pub sum_fits : j < hi → total + term destinations weights claims j ≤ most_weight_scale * most_cost_claim
    sum_fits h = le_trans (sum_within w.summing h) w.able.light

    pub weigh_pass : j < hi → Weighing destinations weights claims lo hi (total + term destinations weights claims j) (j + 1)
    weigh_pass h = record { able = w.able; low = omega (arith, w.low); summing = sum_pass w.summing h }

    pub weigh_end : hi ≤ j → total ≡ weighted_over destinations weights claims lo hi
    weigh_end h = sum_ends w.summing h

abbrev pub rank_at : List ℕ → List ℕ → ℕ → ℕ
rank_at destinations ranks j = get_or ranks (destination_at destinations j) 0

pub record Sweeping (destinations weights claims ranks : List ℕ) (lo hi total low j : ℕ) : Type 0 where
  pub weighing : Weighing destinations weights claims lo hi total j
  pub sinking : Sinking (rank_at destinations ranks) none hi (least_of destinations ranks lo hi) j low
  pub small : low ≤ none
  pub ranked : length ranks ≡ length claims

module _ {destinations weights claims ranks : List ℕ} {lo hi : ℕ} where
  pub sweep_start : Weighable destinations weights claims lo hi → length ranks ≡ length claims
      → Sweeping destinations weights claims ranks lo hi 0 none lo
  unfolding least_of
  sweep_start w e =
      record { weighing = weigh_start w; sinking = sink_start (rank_at destinations ranks) none lo hi w.low; small = le_refl none; ranked = e }

  pub sweep_pass : {total low j : ℕ} → Sweeping destinations weights claims ranks lo hi total low j → j < hi
      → {next : ℕ} → next ≡ min low (rank_at destinations ranks j)
      → Sweeping destinations weights claims ranks lo hi (total + term destinations weights claims j) next (j + 1)
  sweep_pass w h e =
      record { weighing = weigh_pass w.weighing h; sinking = sink_pass w.sinking h _ e; small = omega (arith, e, w.small); ranked = w.ranked }
