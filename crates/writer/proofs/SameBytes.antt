-- Tables that a file was read into are written as the very same bytes. Assumes nothing.
use mathlib.Core.Path.{◌≡◌, refl, sym, ap, ap₂, ◌∙◌}
use mathlib.Core.Bool.{true}
use mathlib.Core.List.{List, [], ◌∷◌}
use Prim.Native.Nat.{ℕ, ◌+◌, ◌-◌, ◌≤◌, ◌<◌}
use native.Mathlib.Nat.{le_of_eq}
use native.Mathlib.Omega.{arith}
use lib.Dec.{leb, eqb}
use lib.ListN.{length, get_or}
use lib.Seq.{take_all}
use borrow.Author.Tests.{le-leb, eqb-true}
use Rattle.model.specs.declared.answers.Verdict.{Verdict}
use Rattle.model.specs.Tables.{Model, Claim}
use Rattle.model.specs.Answers.{pass, tried}
use Rattle.model.specs.Checked.{aside_of}
use Rattle.wire.specs.Words.{word}
use Rattle.wire.specs.Blocks.{block_of, size, place, block, numbers}
use Rattle.wire.specs.Sections.{section_of, section, sections_in, written}
use Rattle.wire.proofs.RoundTrip.{numbers_length, section_in, written_read}
use Rattle.certfile.specs.declared.Header.{Header}
use Rattle.certfile.specs.Outcome.{Read}
use Rattle.certfile.specs.File.{header_blocks, header_of, announced, blocks, length_field_right, version_right, length_right}
use Rattle.certfile.specs.Layout.{table_place}
use Rattle.certfile.specs.Tables.{Tables, lent, ReadInto}
use Rattle.certfile.specs.Contents.{table_in, model_in, claim_in, model_cut, claim_cut}
use Rattle.certfile.proofs.Judged.{both_true}
use Rattle.certfile.proofs.Passed.{Passed, passed}
use Rattle.certfile.proofs.Contents.{model_read, claim_read}
use Rattle.writer.specs.Written.{Written}
use Rattle.writer.specs.Written.{Length}
use Rattle.writer.specs.File.{header_for, sections, file_of, buffer_test, answered, written_of, overlaid, buffer_of, WrittenInto}

-- what the tests of the reader say of a file
field_says : (file : List ℕ) → length_field_right file ≡ true → word 4 file (place header_blocks 0) ≡ length file - 4
unfolding length_field_right
field_says file e =
    eqb-true (word 4 file (place header_blocks 0)) (length file - 4)
    (both_true (leb (size header_blocks) (length file)) (eqb (word 4 file (place header_blocks 0)) (length file - 4)) e).1

version_says : (file : List ℕ) → version_right file ≡ true → word 1 file (place header_blocks 1) ≡ 1
unfolding version_right
version_says file e = eqb-true (word 1 file (place header_blocks 1)) 1 e

length_says : (h : Header) (file : List ℕ) → length_right h file ≡ true → length file ≡ size (blocks h)
unfolding length_right
length_says h file e = eqb-true (length file) (size (blocks h)) e

module _ (l file : List ℕ) (h : Header) (p : Passed l file h) where
  -- the tables in the file have the counts of its header
  header_in : header_for h.kind (model_in h file) (claim_in h file) ≡ h
  unfolding table_in block announced
  header_in =
      λ i.
      record {
        kind = h.kind;
        d = h.d;
        c = h.c;
        n = numbers_length (block_of 1 h.n) file (table_place h 0) i;
        m = m_is i;
        b = numbers_length (block_of 4 h.b) file (table_place h 3) i;
      }
    where
      m_is : length (numbers (block_of 4 (h.m + 1)) file (table_place h 2)) - 1 ≡ h.m
      m_is = omega (arith, numbers_length (block_of 4 (h.m + 1)) file (table_place h 2))

  -- the numbers of the header are those that the writer puts there
  after_field : size (blocks h) - 4 ≡ word 4 file (place header_blocks 0)
  after_field = omega (arith, length_says h file p.long, field_says file p.field)

  -- a table in the file is a section behind the header
  table-in : (i : ℕ) → table_in h file i ≡ (section (sections_in (announced h) file (size header_blocks)) (i - 1)).numbers
  unfolding table_in table_place
  table-in i = sym (section_in (announced h) file (size header_blocks) (i - 1))

  same_sections : sections h (model_in h file) (claim_in h file) ≡ sections_in (blocks h) file 0
  unfolding sections section sections_in blocks announced header_of
  same_sections =
      let head : h ≡ header_of file = sym p.header in
      let version : 1 ≡ word 1 file 4 = sym (version_says file p.version) in
      λ i.
      section_of 4 (after_field i ∷ [])
      ∷ section_of 1 (version i ∷ [])
      ∷ section_of 1 ((head i).kind ∷ [])
      ∷ section_of 4 ((head i).d ∷ (head i).c ∷ (head i).n ∷ (head i).m ∷ (head i).b ∷ [])
      ∷ section_of 1 (table-in 1 i)
      ∷ section_of 4 (table-in 2 i)
      ∷ section_of 4 (table-in 3 i)
      ∷ section_of 4 (table-in 4 i)
      ∷ section_of 4 (table-in 5 i)
      ∷ section_of 4 (table-in 6 i)
      ∷ section_of 8 (table-in 7 i)
      ∷ section_of 4 (table-in 8 i)
      ∷ []

  same_file : ((i : ℕ) → get_or file i 0 < 256) → file_of h.kind (model_in h file) (claim_in h file) ≡ file
  unfolding file_of
  same_file small =
      ap (λ (x : Header). written (sections x (model_in h file) (claim_in h file))) header_in
      ∙ ap written same_sections
      ∙ written_read (blocks h) file small 0 (omega (arith, length_says h file p.long))
      ∙ take_all (size (blocks h)) file (le_of_eq (length_says h file p.long))

-- tables that are not refused, in a buffer that is long enough
answered_pass : (bytes buffer : ℕ) → bytes ≤ buffer → answered bytes (tried (pass ∷ buffer_test bytes buffer ∷ []) pass) ≡ Length bytes
unfolding answered tried buffer_test
answered_pass bytes buffer l = rw (le-leb bytes buffer l)

module _ (kind : ℕ) (t : Model) (u : Claim) (right : aside_of kind t u ≡ pass) (file : List ℕ) (same : file_of kind t u ≡ file) where
  answer_is : (buffer : ℕ) → length file ≤ buffer → written_of kind t u buffer ≡ Length (length file)
  unfolding written_of
  answer_is buffer l =
      ap₂ (λ (f : List ℕ) (v : Verdict). answered (length f) (tried (v ∷ buffer_test (length f) buffer ∷ []) pass)) same right
      ∙ answered_pass (length file) buffer l

  written_same : (r : Written) (buffer buffer' : List ℕ) → length file ≤ length buffer → WrittenInto r kind t u buffer buffer'
      → (r ≡ Length (length file)) × (buffer' ≡ overlaid file buffer)
  unfolding buffer_of
  written_same r buffer buffer' l w =
      let e : r ≡ Length (length file) = w.answer ∙ answer_is (length buffer) l in
      (e, w.buffer ∙ ap₂ (λ (x : Written) (f : List ℕ). buffer_of x f buffer) e same)

pub same_bytes : (h : Header) (file : List ℕ) → ((i : ℕ) → get_or file i 0 < 256) → (before after : Tables) → ReadInto (Read h) file before after
    → aside_of h.kind (model_cut h after) (claim_cut h after) ≡ pass
    → (r : Written) (buffer buffer' : List ℕ) → length file ≤ length buffer → WrittenInto r h.kind (model_cut h after) (claim_cut h after) buffer buffer'
    → (r ≡ Length (length file)) × (buffer' ≡ overlaid file buffer)
same_bytes h file small before after w right r buffer buffer' l q =
    let model = model_read (Read h) file before after w h refl in
    let claim = claim_read (Read h) file before after w h refl in
    written_same h.kind (model_cut h after) (claim_cut h after) right file
    (ap₂ (file_of h.kind) model claim ∙ same_file (lent before) file h (passed (lent before) file h (sym w.answer)) small)
    r buffer buffer' l q
