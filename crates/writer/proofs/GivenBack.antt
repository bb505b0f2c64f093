-- What was written the reader gives back: the kind, the scales, the counts and the tables. Assumes nothing.
use mathlib.Core.Path.{◌≡◌, refl, sym, ap, ap₂, subst, ◌∙◌}
use mathlib.Core.Bool.{true, ◌&&◌}
use mathlib.Core.List.{List, [], ◌++◌, append-nil}
use Prim.Native.Nat.{ℕ, suc, ◌+◌, ◌-◌, ◌*◌, ◌≤◌, ◌<◌}
use native.Mathlib.Omega.{arith}
use lib.Dec.{T}
use lib.ListN.{length, get_or, take, drop}
use lib.Seq.{take_at}
use borrow.Author.Tests.{le-leb, eq-eqb}
use Rattle.walk.proofs.Bools.{holds}
use Rattle.model.specs.Limits.{most_states, most_actions, most_branches}
use Rattle.model.specs.Kinds.{kind_of}
use Rattle.model.specs.Tables.{Model, Claim, states, actions, branches}
use Rattle.model.specs.Refusals.{entries, choice_count}
use Rattle.model.specs.Checked.{accepts, aside_of}
use Rattle.model.specs.WellFormed.{Sized}
use Rattle.wire.specs.Words.{word}
use Rattle.wire.specs.Blocks.{Block, size, place, block, numbers, overwritten}
use Rattle.wire.specs.Sections.{Section, written, blocks_of, section}
use Rattle.wire.proofs.RoundTrip.{numbers_length, numbers_at, read_written}
use Rattle.certfile.specs.Outcome.{Outcome, Read}
use Rattle.certfile.specs.declared.Header.{Header}
use Rattle.certfile.specs.File.{header_blocks, header_of, announced, blocks, roomy, outcome_of, table_of}
use Rattle.certfile.specs.File.{length_field_right, version_right, counts_right, length_right}
use Rattle.certfile.specs.Layout.{table_place}
use Rattle.certfile.specs.Tables.{Tables, lent, ReadInto}
use Rattle.certfile.proofs.Passed.{of_passed}
use Rattle.writer.specs.Written.{Length}
use Rattle.writer.specs.File.{header_for, sections, file_of, overlaid, buffer_of, WrittenInto}
use Rattle.writer.specs.RoundTrip.{Long, GivenBack}
use Rattle.writer.proofs.Measured.{blocks_filled, file_length}
use Rattle.writer.proofs.Fits.{fits}
use Rattle.writer.proofs.Judged.{is-kind, well_formed, length_told}

-- the tests of the reader, by what they ask
field_right : (file : List ℕ) → size header_blocks ≤ length file → word 4 file (place header_blocks 0) ≡ length file - 4 → length_field_right file ≡ true
unfolding length_field_right
field_right file l e =
    ap₂ ◌&&◌ (le-leb (size header_blocks) (length file) l) (eq-eqb (word 4 file (place header_blocks 0)) (length file - 4) e)

version-right : (file : List ℕ) → word 1 file (place header_blocks 1) ≡ 1 → version_right file ≡ true
unfolding version_right
version-right file e = eq-eqb (word 1 file (place header_blocks 1)) 1 e

module _ (kind : ℕ) (t : Model) (u : Claim) (p : T (accepts (aside_of kind t u))) where
  abbrev h : Header
  h = header_for kind t u

  abbrev file : List ℕ
  file = file_of kind t u

  abbrev parts : List Section
  parts = sections h t u

  abbrev s : Sized (kind_of kind) t u (choice_count kind (states t))
  s = (well_formed kind t u p).sized

  -- each section is read back
  held : (i : ℕ) → numbers (block (blocks h) i) file (place (blocks h) i) ≡ (section parts i).numbers
  unfolding file_of
  held i =
      ap₂ (λ (bs : List Block) (f : List ℕ). numbers (block bs i) f (place bs i))
      (sym (blocks_filled kind t u _ s)) (sym (append-nil (written parts)))
      ∙ ap (numbers (block (blocks_of parts) i) (written parts ++ [])) (omega arith)
      ∙ read_written parts (fits kind t u _ (well_formed kind t u p) (holds (is-kind kind t u p))) [] [] i

  word_held : (i j : ℕ) → j < (block (blocks h) i).count
      → word (block (blocks h) i).width file (place (blocks h) i + j * (block (blocks h) i).width) ≡ get_or (section parts i).numbers j 0
  word_held i j l = sym (numbers_at (block (blocks h) i) file (place (blocks h) i) j l) ∙ ap (λ (xs : List ℕ). get_or xs j 0) (held i)

  header_is : header_of file ≡ h
  unfolding header_of block place blocks section sections
  header_is =
      λ i.
      record {
        kind = word_held 2 0 (omega arith) i;
        d = word_held 3 0 (omega arith) i;
        c = word_held 3 1 (omega arith) i;
        n = word_held 3 2 (omega arith) i;
        m = word_held 3 3 (omega arith) i;
        b = word_held 3 4 (omega arith) i;
      }

  has_field : length_field_right file ≡ true
  unfolding place block blocks section sections size
  has_field =
      field_right file (omega (arith, file_length kind t u _ s))
      (word_held 0 0 (omega arith) ∙ ap (λ (n : ℕ). n - 4) (sym (file_length kind t u _ s)))

  has_version : version_right file ≡ true
  unfolding place block blocks section sections
  has_version = version-right file (word_held 1 0 (omega arith))

  has_room : (before : Tables) → Long t u before → counts_right h (lent before) ≡ true
  unfolding counts_right announced roomy
  has_room before l =
      ap₂ ◌&&◌ (le-leb (states t) most_states s.n_most)
      (ap₂ ◌&&◌ (le-leb (actions t) most_actions (omega (arith, s.table3_most)))
      (ap₂ ◌&&◌ (le-leb (branches t) most_branches s.table4)
      (ap₂ ◌&&◌ (le-leb (states t) (length before.marks) l.marks)
      (ap₂ ◌&&◌ (le-leb (states t + 1) (length before.action_starts) (omega (arith, l.action_starts, s.table2)))
      (ap₂ ◌&&◌ (le-leb (actions t + 1) (length before.branch_starts) (omega (arith, l.branch_starts, s.table3_least)))
      (ap₂ ◌&&◌ (le-leb (branches t) (length before.destinations) l.destinations)
      (ap₂ ◌&&◌ (le-leb (branches t) (length before.weights) (omega (arith, l.weights, s.table5)))
      (ap₂ ◌&&◌ (le-leb (entries (kind_of kind).costs (states t)) (length before.costs) (omega (arith, l.costs, s.table6)))
      (ap₂ ◌&&◌ (le-leb (states t) (length before.claims) (omega (arith, l.claims, s.table7)))
      (ap₂ ◌&&◌ (le-leb (entries (kind_of kind).ranks (states t)) (length before.ranks) (omega (arith, l.ranks, s.table8)))
      refl))))))))))

  has_length : length_right h file ≡ true
  unfolding length_right
  has_length = eq-eqb (length file) (size (blocks h)) (file_length kind t u _ s)

  -- so the file is read, and each table is the one that was written, with what stood behind it
  is_read : (before : Tables) → Long t u before → outcome_of (lent before) file ≡ Read h
  is_read before l =
      of_passed (lent before) file h
      (record {
        header = header_is;
        field = has_field;
        version = has_version;
        kind = is-kind kind t u p;
        counts = has_room before l;
        long = has_length;
      })

  -- the tables stand after the four sections of the header
  abbrev behind : ℕ → ℕ
  behind i = suc (suc (suc (suc i)))

  table_at : (i : ℕ) → table_place h i ≡ place (blocks h) (behind i)
  unfolding table_place blocks
  table_at i = omega arith

  table_held : (i : ℕ) → numbers (block (announced h) i) file (table_place h i) ≡ (section parts (behind i)).numbers
  unfolding blocks block
  table_held i = ap (numbers (block (announced h) i) file) (table_at i) ∙ held (behind i)

  laid_over : (i : ℕ) (table : List ℕ) → table_of (Read h) i file table ≡ overlaid (section parts (behind (i - 1))).numbers table
  unfolding table_of table_place overwritten overlaid
  laid_over i table =
      ap₂ (λ (xs : List ℕ) (n : ℕ). xs ++ drop n table) (table_held (i - 1))
      (sym (numbers_length (block (announced h) (i - 1)) file (table_place h (i - 1))) ∙ ap length (table_held (i - 1)))

  read_back : (r : Outcome) (before after : Tables) → Long t u before → ReadInto r file before after → GivenBack kind t u r before after
  unfolding section sections
  read_back r before after l q =
      record {
        header = e;
        marks = back 1 before.marks q.marks;
        action_starts = back 2 before.action_starts q.action_starts;
        branch_starts = back 3 before.branch_starts q.branch_starts;
        destinations = back 4 before.destinations q.destinations;
        weights = back 5 before.weights q.weights;
        costs = back 6 before.costs q.costs;
        claims = back 7 before.claims q.claims;
        ranks = back 8 before.ranks q.ranks;
      }
    where
      e : r ≡ Read h
      e = q.answer ∙ is_read before l

      back : {table' : List ℕ} (i : ℕ) (table : List ℕ) → table' ≡ table_of r i file table → table' ≡ overlaid (section parts (behind (i - 1))).numbers table
      back i table p = p ∙ ap (λ (o : Outcome). table_of o i file table) e ∙ laid_over i table

-- the file is the front of the buffer
front : (bytes : ℕ) (file buffer buffer' : List ℕ) → bytes ≡ length file → buffer' ≡ buffer_of (Length bytes) file buffer → take bytes buffer' ≡ file
unfolding buffer_of
front bytes file buffer buffer' e p = rw p (take_at file (drop (length file) buffer) bytes (sym e))

pub given_back : (kind : ℕ) (t : Model) (u : Claim) (bytes : ℕ) (buffer buffer' : List ℕ) → WrittenInto (Length bytes) kind t u buffer buffer'
    → (r : Outcome) (before after : Tables) → Long t u before → ReadInto r (take bytes buffer') before after → GivenBack kind t u r before after
given_back kind t u bytes buffer buffer' p r before after l q =
    let w = length_told kind t u (length buffer) bytes (sym p.answer) in
    read_back kind t u w.0 r before after l
    (subst (λ (file : List ℕ). ReadInto r file before after) (front bytes (file_of kind t u) buffer buffer' w.2 p.buffer) q)
