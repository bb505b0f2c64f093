-- One action: the numbers that the code compares decide whether it keeps. Assumes nothing.
use mathlib.Core.Path.{◌≡◌, refl, sym, ap, fun_ext, ◌∙◌}
use mathlib.Core.Bool.{Bool, true, false, cond, ◌&&◌, and-true, and-false}
use Rattle.std.proofs.Math.Bool.{and_comm}
use mathlib.Core.Logic.{⊎_elim}
use Prim.Native.Nat.{ℕ, ◌+◌, ◌*◌, ◌≤◌, ◌<◌}
use native.Mathlib.Nat.{mul-zero}
use native.Mathlib.Omega.{arith}
use lib.Dec.{ltb}
use lib.ListN.{get_or}
use borrow.Author.Tests.{lt-ltb, le-ltb, ne_eqb}
use Rattle.walk.specs.Fold.{any}
use Rattle.walk.proofs.Fold.{at_end, least_below}
use Rattle.model.specs.declared.kinds.Kind.{Kind}
use Rattle.model.specs.Limits.{none}
use Rattle.model.specs.Kinds.{is_cost}
use Rattle.model.specs.Tables.{is_rank}
use Rattle.model.specs.Conditions.{weighted_over, suits_by}
use Rattle.actions.specs.declared.State.{State}
use Rattle.actions.specs.Ready.{Walkable}
use Rattle.actions.specs.Judging.{Rows, least_of, kept, suits_over, suits_in, falls_in}

spends : (b : Bool) (x y : ℕ) → (b ≡ false → y ≡ 0) → x * y ≡ cond b (x * y) 0
spends true x y h = refl
spends false x y h = rw (h refl) (mul-zero x)

-- a rank below another that is at most none is not none
below_ranked : (r q : ℕ) → q ≤ none → (is_rank r && ltb r q) ≡ ltb r q
below_ranked r q h = ⊎_elim
    (λ (l : q ≤ r). rw (le-ltb r q l) (and-false (is_rank r)))
    (λ (l : r < q). rw (lt-ltb r q l, ne_eqb r none (λ e. omega arith)))
    (at_end r q)

-- the action numbered a, by what the walk over its branches gives
module _ {k : Kind} {x : State} {y : Rows} (w : Walkable k x y) (a : ℕ) where
  abbrev lo : ℕ
  lo = get_or y.branch_starts a 0

  abbrev hi : ℕ
  hi = get_or y.branch_starts (a + 1) 0

  module _ {sum : ℕ} (p : sum ≡ weighted_over y.destinations y.weights y.claims lo hi) where
    suits_sum : suits_by k (x.scale * x.claim) (sum + x.scale * x.cost) ≡ suits_in k x y a
    unfolding suits_over suits_in
    suits_sum = rw p
        (ap (λ (e : ℕ). suits_by k (x.scale * x.claim) (weighted_over y.destinations y.weights y.claims lo hi + e))
        (spends (is_cost k.measure) x.scale x.cost w.standing.no_cost))

    pub keeps_unasked : suits_by k (x.scale * x.claim) (sum + x.scale * x.cost) ≡ kept false (suits_in k x y a) (falls_in x y a)
    keeps_unasked = suits_sum ∙ sym (and-true (suits_in k x y a))

    module _ (i : a < x.end) {low : ℕ} (h : low ≡ least_of y.destinations y.ranks lo hi) where
      falls_least : falls_in x y a ≡ ltb low x.rank
      unfolding least_of falls_in
      falls_least = rw h
          (ap (λ (p : ℕ → Bool). any p lo hi) (fun_ext (λ j. below_ranked (get_or y.ranks (get_or y.destinations j 0) 0) x.rank w.standing.rank_most))
          ∙ sym (least_below (λ j. get_or y.ranks (get_or y.destinations j 0) 0) none x.rank hi lo w.standing.rank_most (w.stretches a i).low))

      pub keeps_asked : (ltb low x.rank && suits_by k (x.scale * x.claim) (sum + x.scale * x.cost)) ≡ kept true (suits_in k x y a) (falls_in x y a)
      keeps_asked = rw (suits_sum, falls_least) (and_comm (ltb low x.rank) (suits_in k x y a))
