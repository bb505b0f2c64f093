-- The bytes that numbers take, and a loop that spells a table number by number, at any width. Assumes nothing.
use mathlib.Core.Path.{◌≡◌, refl, sym, ap, ◌∙◌}
use mathlib.Core.List.{List, [], ◌∷◌, ◌++◌, append_assoc, append-nil}
use Prim.Native.Nat.{ℕ, ◌+◌, ◌*◌, ◌≤◌, ◌<◌}
use native.Mathlib.Nat.{add-zero, mul-le-mul_left}
use native.Mathlib.Numerals.{add-one}
use native.Mathlib.Omega.{arith}
use lib.ListN.{length, get_or, drop, length-append, drop_of_length-le}
use lib.Seq.{drop-cons}
use Rattle.walk.specs.Put.{Put}
use Rattle.walk.proofs.Putting.{put_then, put_same}
use Rattle.wire.specs.Words.{bytes}
use Rattle.wire.specs.Blocks.{size}
use Rattle.wire.specs.Sections.{Section, spelled, written, blocks_of}
use Rattle.wire.specs.Word.{bytes_length}

pub spelled_length : (width : ℕ) (xs : List ℕ) → length (spelled width xs) ≡ width * length xs
unfolding spelled
spelled_length width [] = omega arith
spelled_length width (x ∷ xs) = length-append (bytes width x) (spelled width xs) ∙ omega (arith, bytes_length width x, spelled_length width xs)

pub written_length : (xs : List Section) → length (written xs) ≡ size (blocks_of xs)
unfolding written size blocks_of
written_length [] = refl
written_length (x ∷ xs) =
    length-append (spelled x.width x.numbers) (written xs)
    ∙ omega (arith, spelled_length x.width x.numbers, written_length xs)

-- so much is put, and the rest is still to come
pub record Spelling {A : Type 0} (texts : List A → List ℕ) (width : ℕ) (table : List A) (t : List ℕ) (start i at : ℕ) (now : List ℕ) : Type 0 where
  pub high : i ≤ length table
  pub done : List ℕ
  pub put : Put t now start at done
  pub place : at ≡ start + width * i
  pub whole : done ++ texts (drop i table) ≡ texts table

module _ {A : Type 0} (texts : List A → List ℕ) (text : A → List ℕ) (width : ℕ) (none : texts [] ≡ [])
    (more : (x : A) (xs : List A) → texts (x ∷ xs) ≡ text x ++ texts xs) (counted : (x : A) → length (text x) ≡ width) where
  pub spell_start : (table : List A) (t : List ℕ) (start : ℕ) → Spelling texts width table t start 0 start t
  spell_start table t start =
      record { high = omega arith; done = []; put = record { next = sym (add-zero start); text = refl }; place = omega arith; whole = refl }

  module _ {table : List A} {t : List ℕ} {start i at : ℕ} {now : List ℕ} (w : Spelling texts width table t start i at now) where
    -- the next number fits where all do
    pub spell_room : {n : ℕ} → i < length table → start + width * length table ≤ n → at + width ≤ n
    spell_room h fits = omega (arith, w.place, mul-le-mul_left width h)

    pub spell_pass : (x : A) {now' : List ℕ} {at' : ℕ} → i < length table → x ≡ get_or table i x → Put now now' at at' (text x)
        → Spelling texts width table t start (i + 1) at' now'
    spell_pass x h e p =
        let rest = drop (i + 1) table in
        let split : drop i table ≡ x ∷ rest = drop-cons table i x h ∙ rw (add-one i, ← e) refl in
        record {
          high = omega arith;
          done = w.done ++ text x;
          put = put_then w.put p;
          place = omega (arith, p.next, counted x, w.place);
          whole =
              append_assoc w.done (text x) (texts rest)
              ∙ ap (λ (l : List ℕ). w.done ++ l) (sym (ap texts split ∙ more x rest))
              ∙ w.whole;
        }

    pub spell_end : length table ≤ i → Put t now start at (texts table)
    spell_end h =
        put_same w.put
        (sym (append-nil w.done)
        ∙ ap (λ (l : List ℕ). w.done ++ l) (sym (ap texts (drop_of_length-le table h) ∙ none))
        ∙ w.whole)
