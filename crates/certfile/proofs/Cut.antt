-- The first entries of tables that have room for a file, as its header counts them. Assumes nothing.
use mathlib.Core.Path.{◌≡◌, refl, sym}
use mathlib.Core.List.{List}
use Prim.Native.Nat.{ℕ, ◌-◌, ◌≤◌}
use native.Mathlib.Omega.{arith}
use lib.ListN.{length, take, length-take}
use lib.Seq.{length-take-le}
use Rattle.model.specs.declared.tables.Lengths.{Lengths}
use Rattle.model.specs.Tables.{Model, Claim, model_of, claim_of}
use Rattle.wire.specs.Blocks.{block}
use Rattle.certfile.specs.declared.Header.{Header}
use Rattle.certfile.specs.File.{announced}
use Rattle.certfile.specs.Layout.{counts_of}
use Rattle.certfile.specs.Outcome.{Outcome, Read}
use Rattle.certfile.specs.Tables.{Tables, lent, Roomy, ReadInto}
use Rattle.certfile.specs.Contents.{cut, model_cut, claim_cut}
use Rattle.certfile.proofs.Passed.{lengths_kept, read_roomy}

-- each part that is cut has the length that is asked
pub record Cuts (count : Lengths) (t : Tables) : Type 0 where
  pub marks : count.marks ≡ length (take count.marks t.marks)
  pub action_starts : count.action_starts ≡ length (take count.action_starts t.action_starts)
  pub branch_starts : count.branch_starts ≡ length (take count.branch_starts t.branch_starts)
  pub destinations : count.destinations ≡ length (take count.destinations t.destinations)
  pub weights : count.weights ≡ length (take count.weights t.weights)
  pub costs : count.costs ≡ length (take count.costs t.costs)
  pub claims : count.claims ≡ length (take count.claims t.claims)
  pub ranks : count.ranks ≡ length (take count.ranks t.ranks)

pub cuts : (h : Header) (count : Lengths) (t : Tables) → count ≡ counts_of h → Roomy h (lent t) → Cuts count t
cuts h count t q e =
    rw q
    (record {
      marks = sym (length-take-le _ t.marks (e 0));
      action_starts = sym (length-take-le _ t.action_starts (e 1));
      branch_starts = sym (length-take-le _ t.branch_starts (e 2));
      destinations = sym (length-take-le _ t.destinations (e 3));
      weights = sym (length-take-le _ t.weights (e 4));
      costs = sym (length-take-le _ t.costs (e 5));
      claims = sym (length-take-le _ t.claims (e 6));
      ranks = sym (length-take-le _ t.ranks (e 7));
    })

-- tables that a file was read into and that kept their lengths have each part that its header counts
pub cuts_read : (o : Outcome) (file : List ℕ) (t u : Tables) → ReadInto o file t u
    → length u.marks ≡ length t.marks
    → length u.action_starts ≡ length t.action_starts
    → length u.branch_starts ≡ length t.branch_starts
    → length u.destinations ≡ length t.destinations
    → length u.weights ≡ length t.weights
    → length u.costs ≡ length t.costs
    → length u.claims ≡ length t.claims
    → length u.ranks ≡ length t.ranks
    → (h : Header) → o ≡ Read h → (count : Lengths) → count ≡ counts_of h → Cuts count u
cuts_read o file t u w k₁ k₂ k₃ k₄ k₅ k₆ k₇ k₈ h e count q =
    cuts h count u q (read_roomy o file t u w h e (lengths_kept t u k₁ k₂ k₃ k₄ k₅ k₆ k₇ k₈))

-- what has the length that is asked is cut from a list that is no shorter
pub reaches : (n : ℕ) (xs : List ℕ) → n ≡ length (take n xs) → n ≤ length xs
reaches n xs e = omega (arith, length-take n xs)

-- the states are those that the header counts
pub states_counted : (h : Header) (count : Lengths) → count ≡ counts_of h → count.marks ≡ h.n
unfolding block announced
states_counted h count q = rw q

-- the model and the claim that the cut tables are
module _ (h : Header) (count : Lengths) (t : Tables) where
  abbrev pub model_taken : Model
  model_taken =
      model_of h.d
      (take count.marks t.marks)
      (take count.action_starts t.action_starts)
      (take count.branch_starts t.branch_starts)
      (take count.destinations t.destinations)
      (take count.weights t.weights)

  abbrev pub claim_taken : Claim
  claim_taken = claim_of h.c (take count.costs t.costs) (take count.claims t.claims) (take count.ranks t.ranks)

  pub model-cut : count ≡ counts_of h → model_taken ≡ model_cut h t
  unfolding cut
  model-cut q = rw q

  pub claim-cut : count ≡ counts_of h → claim_taken ≡ claim_cut h t
  unfolding cut
  claim-cut q = rw q
