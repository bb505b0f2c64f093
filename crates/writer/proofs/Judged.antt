-- What is known where 1 to 14 do not refuse, and the promise kept by each answer. Assumes nothing.
use mathlib.Core.Path.{◌≡◌, refl, sym, ap, ◌∙◌}
use mathlib.Core.Bool.{Bool, true, false}
use mathlib.Core.List.{List, [], ◌∷◌}
use Prim.Native.Nat.{ℕ, ◌≤◌, ◌<◌, ◌^◌}
use native.Mathlib.Omega.{arith}
use lib.Dec.{T, leb}
use lib.ListN.{length, get_or, get_or-eq_default}
use mathlib.Core.Logic.{⊎_elim}
use Rattle.walk.proofs.Fold.{at_end}
use borrow.Author.Tests.{leb-true}
use Rattle.walk.proofs.Bools.{holds, is_true, and_right}
use Rattle.model.specs.declared.answers.Verdict.{Verdict}
use Rattle.model.specs.declared.answers.Verdict.TheVariants.{Accepted, Refused as Refuses, Violated}
use Rattle.model.specs.Kinds.{is_kind, kind_of}
use Rattle.model.specs.Tables.{Model, Claim, states}
use Rattle.model.specs.Answers.{code, given, pass, then, tried, require}
use Rattle.model.specs.declared.answers.Fault.{Fault}
use Rattle.model.proofs.Searched.{ok_goes, err_stops}
use Rattle.model.specs.Refusals.{choice_count, kind_test, tests}
use Rattle.model.specs.Checked.{accepts, refusal_of, aside_of}
use Rattle.model.specs.WellFormed.{WellFormed}
use Rattle.model.proofs.Tried.{then_first, then_second, tried_all, tried_go, tried_stop, require_right}
use Rattle.model.proofs.Formed.{formed}
use Rattle.wire.specs.Blocks.{size}
use Rattle.wire.specs.Sections.{written}
use Rattle.wire.proofs.Spelled.{spelled_length}
use Rattle.certfile.specs.declared.Header.{Header}
use Rattle.certfile.specs.File.{blocks}
use Rattle.writer.specs.Written.{Written, Length, Refused}
use Rattle.writer.specs.File.{header_for, sections, file_of, buffer_test, write_tests, answered, written_of, overlaid, buffer_of, WrittenInto}
use Rattle.writer.specs.Room.{HeadRoom}
use Rattle.writer.proofs.Measured.{file_length}
use Rattle.writer.proofs.Fits.{size_fits}
use Rattle.writer.proofs.Laid.{header_bytes, head_length, ends, whole_length}

module _ (kind : ℕ) (t : Model) (u : Claim) where
  aside_is : (chosen : ℕ) → chosen ≡ choice_count kind (states t) → refusal_of kind t u chosen ≡ aside_of kind t u
  unfolding aside_of
  aside_is chosen e = ap (refusal_of kind t u) e

  file_is : file_of kind t u ≡ written (sections (header_for kind t u) t u)
  unfolding file_of
  file_is = refl

  -- a file is as long as its header and its tables
  whole_room : (n : ℕ) → length (file_of kind t u) ≤ n → ends t u ≤ n
  whole_room n l = omega (arith, ap length file_is, whole_length (header_for kind t u) t u)

  -- what the header asks of the numbers in it
  abbrev Countable : Type 0
  Countable = (states t < 2 ^ 32) × ((1 ≤ length t.branch_starts) × ((length t.branch_starts ≤ 2 ^ 32) × (length t.destinations < 2 ^ 32)))

  -- tables that 1 to 14 do not refuse
  module _ (p : T (accepts (aside_of kind t u))) where
    pub is-kind : is_kind kind ≡ true
    unfolding aside_of refusal_of kind_test
    is-kind =
        is_true (is_kind kind)
        (require_right (is_kind kind) 1 0 (then_first (require (is_kind kind) 1 0) (tried (tests (kind_of kind) t u (choice_count kind (states t))) pass) p))

    pub well_formed : WellFormed (kind_of kind) t u (choice_count kind (states t))
    unfolding aside_of refusal_of
    well_formed =
        let chosen = choice_count kind (states t) in
        formed (kind_of kind) t u chosen
        (tried_all (tests (kind_of kind) t u chosen) pass (then_second (kind_test kind) (tried (tests (kind_of kind) t u chosen) pass) p))

    file_size : length (file_of kind t u) ≡ size (blocks (header_for kind t u))
    file_size = file_length kind t u (choice_count kind (states t)) well_formed.sized

    -- no part of the file is too large for its number
    few : (kind < 256) × (size (blocks (header_for kind t u)) < 2 ^ 32)
    few = (
      omega (arith, leb-true kind 8 (is_true (leb kind 8) (and_right (leb 1 kind) (leb kind 8) (holds is-kind)))),
      size_fits kind t u (choice_count kind (states t)) well_formed,
    )

    -- a mark is a byte
    marks_small : (i : ℕ) → get_or t.marks i 0 < 256
    marks_small i =
        ⊎_elim (λ l. rw (get_or-eq_default t.marks 0 {n = i} l) (omega arith)) (λ l. omega (arith, well_formed.counted.marks i l))
        (at_end i (states t))

    -- and so its header can be made
    countable : Countable
    countable =
        let s = well_formed.sized in
        (omega (arith, s.n_most), (omega (arith, s.table3_least), (omega (arith, s.table3_most), omega (arith, s.table4))))

    -- a buffer that is not shorter than the file has room for its header
    module _ (file : List ℕ) (l : length (file_of kind t u) ≤ length file) where
      head_room : (h : Header) → h ≡ header_for kind t u → (bytes : ℕ) → bytes ≡ length (file_of kind t u) → HeadRoom h bytes file
      head_room h q bytes e =
          rw q
          (record {
            kind = few.0;
            counted = e ∙ file_size;
            most = omega (arith, few.1, file_size);
            room = omega (arith, header_bytes, whole_room (length file) l);
          })

  -- the answer: the first test that does not pass, or the length
  written_is : (buffer : ℕ)
      → written_of kind t u buffer
      ≡ answered (length (file_of kind t u)) (tried (aside_of kind t u ∷ require (leb (length (file_of kind t u)) buffer) 35 0 ∷ []) pass)
  unfolding written_of write_tests buffer_test
  written_is buffer = refl

  pub refused_first : (chosen : ℕ) → chosen ≡ choice_count kind (states t) → (f : Fault) → given f ≡ refusal_of kind t u chosen → (buffer : ℕ)
      → written_of kind t u buffer ≡ Refused (code f.refusal) f.place
  unfolding answered
  refused_first chosen q f e buffer =
      let n = length (file_of kind t u) in
      let o = e ∙ aside_is chosen q in
      written_is buffer ∙ ap (answered n) (tried_stop (aside_of kind t u) (require (leb n buffer) 35 0 ∷ []) pass (err_stops f o) ∙ sym o)

  module _ (p : T (accepts (aside_of kind t u))) (buffer : ℕ) where
    judged : (right : Bool) → leb (length (file_of kind t u)) buffer ≡ right
        → written_of kind t u buffer
        ≡ answered (length (file_of kind t u)) (tried (require right 35 0 ∷ []) pass)
    judged right e =
        written_is buffer
        ∙ ap (answered (length (file_of kind t u)))
        (tried_go (aside_of kind t u) (require (leb (length (file_of kind t u)) buffer) 35 0 ∷ []) pass p
        ∙ ap (λ (b : Bool). tried (require b 35 0 ∷ []) pass) e)

    by_test : (v : Verdict) → v ≡ require (leb (length (file_of kind t u)) buffer) 35 0
        → written_of kind t u buffer ≡ answered (length (file_of kind t u)) (tried (v ∷ []) pass)
    by_test v o =
        let n = length (file_of kind t u) in
        judged (leb n buffer) refl ∙ ap (λ (x : Verdict). answered n (tried (x ∷ []) pass)) (sym o)

  -- what is answered where 1 to 14 do not refuse: 35 by the bytes that were counted, and then the length
  module _ (chosen : ℕ) (q : chosen ≡ choice_count kind (states t)) (e : pass ≡ refusal_of kind t u chosen) where
    passed : T (accepts (aside_of kind t u))
    passed = ok_goes (e ∙ aside_is chosen q)

    pub countable_after : Countable
    countable_after = countable passed

    module _ (h : Header) (r : h ≡ header_for kind t u) (buffer : ℕ) where
      counted : size (blocks h) ≡ length (file_of kind t u)
      counted = ap (λ (x : Header). size (blocks x)) r ∙ sym (file_size passed)

      by_length : require (leb (size (blocks h)) buffer) 35 0 ≡ require (leb (length (file_of kind t u)) buffer) 35 0
      by_length = ap (λ (n : ℕ). require (leb n buffer) 35 0) counted

      pub too_short : (f : Fault) → given f ≡ require (leb (size (blocks h)) buffer) 35 0 → written_of kind t u buffer ≡ Refused (code f.refusal) f.place
      unfolding answered tried then
      too_short f o = by_test passed buffer (given f) (o ∙ by_length)

      pub long_enough : pass ≡ require (leb (size (blocks h)) buffer) 35 0 → written_of kind t u buffer ≡ Length (size (blocks h))
      unfolding answered tried then
      long_enough o = by_test passed buffer pass (o ∙ by_length) ∙ ap Length (sym counted)

  -- a length is answered only where nothing refuses
  told : (v : Verdict) (right : Bool) (n bytes : ℕ) → answered n (tried (v ∷ require right 35 0 ∷ []) pass) ≡ Length bytes
      → T (accepts v) × (right ≡ true) × (bytes ≡ n)
  unfolding answered tried then require
  told (Accepted r) true n bytes e = (tt, refl, cc)
  told (Accepted r) false n bytes e = let z : ◌≡◌ {A = ℕ} 0 1 = cc in absurd (omega arith)
  told (Refuses k p) right n bytes e = let z : ◌≡◌ {A = ℕ} 0 1 = cc in absurd (omega arith)
  told (Violated k s a) right n bytes e = let z : ◌≡◌ {A = ℕ} 0 1 = cc in absurd (omega arith)

  pub length_told : (buffer bytes : ℕ) → written_of kind t u buffer ≡ Length bytes
      → T (accepts (aside_of kind t u)) × (length (file_of kind t u) ≤ buffer) × (bytes ≡ length (file_of kind t u))
  length_told buffer bytes e =
      let n = length (file_of kind t u) in
      let w = told (aside_of kind t u) (leb n buffer) n bytes (sym (written_is buffer) ∙ e) in
      (w.0, leb-true n buffer w.1, w.2)

  -- what follows from a length that is answered
  module _ (buffer bytes : ℕ) (e : Length bytes ≡ written_of kind t u buffer) where
    pub room_told : ends t u ≤ buffer
    room_told = whole_room buffer (length_told buffer bytes (sym e)).1

    pub countable_told : Countable
    countable_told = countable (length_told buffer bytes (sym e)).0

    pub marks_told : (i : ℕ) → get_or t.marks i 0 < 256
    marks_told = marks_small (length_told buffer bytes (sym e)).0

  pub head_told : (file : List ℕ) (bytes : ℕ) → Length bytes ≡ written_of kind t u (length file)
      → (h : Header) → h ≡ header_for kind t u → HeadRoom h bytes file
  head_told file bytes e h q = let w = length_told (length file) bytes (sym e) in head_room w.0 file w.1 h q bytes w.2

  -- the promise, by what is answered
  pub left : (before : List ℕ) (r : Written) → r ≡ written_of kind t u (length before)
      → (number place : ℕ) → r ≡ Refused number place → WrittenInto r kind t u before before
  unfolding buffer_of
  left before r e number place q = record { answer = e; buffer = sym (ap (λ (x : Written). buffer_of x (file_of kind t u) before) q) }

  pub put_in : (before : List ℕ) (bytes : ℕ) → Length bytes ≡ written_of kind t u (length before) → (after : List ℕ)
      → (h : Header) → h ≡ header_for kind t u → after ≡ overlaid (written (sections h t u)) before
      → WrittenInto (Length bytes) kind t u before after
  unfolding buffer_of
  put_in before bytes e after h p q =
      record {
        answer = e;
        buffer = q
            ∙ ap (λ (x : Header). overlaid (written (sections x t u)) before) p
            ∙ ap (λ (file : List ℕ). overlaid file before) (sym file_is);
      }

-- what `preview` takes, and `write`, in one name each
pub ruleset previewing = (refused_first, countable_after, too_short, long_enough)

pub ruleset writing = (room_told, countable_told, head_length, spelled_length, left)
