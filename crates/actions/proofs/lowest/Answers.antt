-- `actions::lowest` meets its contract: the first action that is judged as wanted was sought. Assumes nothing.
use Prim.Native.Nat.{ℕ, ◌≤◌, ◌<◌}
use native.Mathlib.Nat.{le_refl, le_of_lt}
use native.Mathlib.Omega.{arith}
use borrow.Author.Tests.{lt-ltb, le-ltb}
use Rattle.std.specs.Prelude.{Option, Some, None}
use Rattle.std.specs.Bool.{beq}
use Rattle.std.specs.Option.{MatchOption}
use Rattle.std.proofs.Common.{rules, tests, ◌≡◌, true, false, Bool}
use Rattle.std.proofs.lemmas.Iterator.{first_from_Range}
use Rattle.walk.specs.Fold.{first}
use Rattle.walk.proofs.Fold.{lowest_is}
use Rattle.model.specs.Tables.{model_in, claim_in}
use Rattle.actions.specs.Judging.{rows_in, kept, suits_in, falls_in, lowest_of, below}
use Rattle.actions.proofs.lowest.Goals as goal

-- what a search of a range comes to
module _ (p : ℕ → Bool) (lo hi : ℕ) (h : lo ≤ hi) where
  found_first : (r : Option ℕ)
      → MatchOption r ((i : ℕ) → lo ≤ i → i < hi → p i ≡ false)
      (λ i. (lo ≤ i) × (i < hi) × (p i ≡ true) × ((j : ℕ) → lo ≤ j → j < i → p j ≡ false))
      → r ≡ below (first p lo hi) hi
  found_first None m =
      rw (lowest_is p hi lo hi h (record { low = h; high = le_refl hi; hit = λ l. absurd (omega arith); passed = m }), le-ltb hi hi (le_refl hi))
  found_first (Some i) m =
      rw (lowest_is p hi lo i h (record { low = m.0; high = le_of_lt m.1; hit = λ l. m.2; passed = m.3 }), lt-ltb i hi m.1)

pub returns : goal.returns
unfolding lowest_of
returns c =
    let y = rows_in (model_in c.args.t.now) (claim_in c.args.u.now) in
    let p = λ (a : ℕ). beq (kept c.args.asked (suits_in c.args.kind c.args.state y a) (falls_in c.args.state y a)) c.args.wanted in
    found_first p c.args.state.first c.args.state.end c.requires.walkable.rises c.find.result
    (first_from_Range _ _ _ c.find.result (λ i. p i ≡ true) (λ i. p i ≡ false) c.find.ensures.ran
    (λ x q k. search (rules, tests)) (λ x q k. (search (rules, tests), search (rules, tests))))
