-- The first entries of a lent choice list, as many as a header counts. Assumes nothing.
use mathlib.Core.Path.{◌≡◌, sym, ◌∙◌}
use mathlib.Core.List.{List, ◌++◌}
use Prim.Native.Nat.{ℕ, ◌≤◌}
use native.Mathlib.Omega.{arith}
use lib.ListN.{length, take, drop, get_or}
use lib.Seq.{length-take-le, length_front, take_at}
use Rattle.wire.specs.Blocks.{block}
use Rattle.model.specs.Refusals.{choice_count}
use Rattle.model.specs.Kinds.{kind_of}
use Rattle.model.proofs.Formed.{entries_most}
use Rattle.certfile.specs.declared.Header.{Header}
use Rattle.certfile.specs.Outcome.{Read}
use Rattle.certfile.specs.Tables.{Tables}
use Rattle.certfile.proofs.Cut.{Cuts, reaches}
use Rattle.model.specs.declared.tables.Lengths.{Lengths}
use Rattle.certfile.specs.File.{announced}
use Rattle.program.specs.Printed.{loaded_of}
use Rattle.program.specs.Shows.{Long}
use Rattle.program.proofs.Taken.{had_room}

-- a list and a text with room for all states of lent tables have room for the choices that a file counts which was read into them
pub long_enough : (h : Header) (most : ℕ) (file l : List ℕ) → Read h ≡ loaded_of most l file →
    (chosen : ℕ) (list text : List ℕ)
    → chosen ≡ choice_count h.kind h.n
    → Long (get_or l 0 0) list text
    → Long chosen list text
unfolding block announced
long_enough h most file l e chosen list text f long =
    let few : chosen ≤ get_or l 0 0 = omega (arith, f, entries_most (kind_of h.kind).choices h.n, had_room most file l h e 0) in
    record { choices = omega (arith, few, long.choices); printed = omega (arith, few, long.printed) }

-- so too where the room is that of the marks of tables that are cut
pub long_cut : {count : Lengths} {u : Tables} → Cuts count u → (kind chosen most : ℕ) (list text : List ℕ) → length u.marks ≡ most
    → chosen ≡ choice_count kind count.marks → Long most list text → Long chosen list text
long_cut {count = count} {u = u} all kind chosen most list text same f long =
    let few : chosen ≤ most = omega (arith, f, entries_most (kind_of kind).choices count.marks, reaches count.marks u.marks all.marks, same) in
    record { choices = omega (arith, few, long.choices); printed = omega (arith, few, long.printed) }

-- the lent list after the check, whose first entries it overwrote
module _ (chosen : ℕ) (choices after : List ℕ) (few : chosen ≤ length choices) (kept : length after ≡ length (take chosen choices)) where
  pub still_fits : chosen ≤ length (after ++ drop chosen choices)
  still_fits = omega (arith, length_front choices after chosen kept, few)

  pub still_cut : chosen ≡ length (take chosen (after ++ drop chosen choices))
  still_cut = sym (length-take-le chosen (after ++ drop chosen choices) still_fits)

  pub first_entries : take chosen (after ++ drop chosen choices) ≡ after
  first_entries = take_at after (drop chosen choices) chosen (kept ∙ length-take-le chosen choices few)
