-- The parts of a file, put one after the other, make the file. Assumes nothing.
use mathlib.Core.Path.{◌≡◌, refl, sym, ap, ◌∙◌}
use mathlib.Core.List.{List, [], ◌∷◌, ◌++◌, append-nil}
use Prim.Native.Nat.{ℕ, zero, suc, ◌+◌, ◌-◌, ◌*◌, ◌≤◌, ◌<◌}
use native.Mathlib.Omega.{arith}
use lib.ListN.{length, get_or, drop, length-append}
use Rattle.walk.specs.Put.{Put}
use Rattle.walk.proofs.Putting.{put_then, put_same, put_whole}
use Rattle.model.specs.Tables.{Model, Claim}
use Rattle.wire.specs.Words.{bytes}
use Rattle.wire.specs.Blocks.{size}
use Rattle.wire.specs.Sections.{sections_of, spelled, written}
use Rattle.wire.specs.Word.{bytes_length}
use Rattle.wire.proofs.Spelled.{spelled_length}
use Rattle.wire.proofs.RoundTrip.{bytes_spelled}
use Rattle.certfile.specs.declared.Header.{Header}
use Rattle.certfile.specs.File.{header_blocks, announced, blocks}
use Rattle.writer.specs.File.{heads, sections, overlaid}
use Rattle.writer.specs.Room.{HeadRoom}

-- the length field's own bytes are counted in the whole
pub head_least : (h : Header) → 4 ≤ size (blocks h)
unfolding blocks announced size
head_least h = omega arith

pub header_bytes : size header_blocks ≡ 26
unfolding size
header_bytes = refl

-- the numbers of a header
abbrev numbers : Header → List ℕ
numbers h = h.d ∷ h.c ∷ h.n ∷ h.m ∷ h.b ∷ []

spelled_one : (width x : ℕ) → spelled width (x ∷ []) ≡ bytes width x
unfolding spelled
spelled_one width x = append-nil (bytes width x)

abbrev pub head_bytes : Header → List ℕ
head_bytes h = written (sections_of header_blocks (heads h))

head_is : (h : Header) → head_bytes h
    ≡ spelled 4 ((size (blocks h) - 4) ∷ []) ++ (spelled 1 (1 ∷ []) ++ (spelled 1 (h.kind ∷ []) ++ (spelled 4 (numbers h) ++ [])))
unfolding written sections_of
head_is h = refl

byte : (x : ℕ) → x < 256 → spelled 1 (x ∷ []) ≡ x ∷ []
byte x l = bytes_spelled (x ∷ []) below
  where
    below : (j : ℕ) → get_or (x ∷ []) j 0 < 256
    below zero = l
    below (suc j) = omega arith

head_parts : (h : Header) → h.kind < 256 → head_bytes h ≡ bytes 4 (size (blocks h) - 4) ++ ((1 ∷ []) ++ ((h.kind ∷ []) ++ spelled 4 (numbers h)))
head_parts h l =
    head_is h
    ∙ rw (spelled_one 4 (size (blocks h) - 4), byte 1 (omega arith), byte h.kind l, append-nil (spelled 4 (numbers h)))

pub head_put : (h : Header) (count : ℕ) (file : List ℕ) → HeadRoom h count file → {t₁ t₂ t₃ t₄ : List ℕ} {a b c d : ℕ}
    → Put file t₁ 0 a (bytes 4 (count - 4)) → Put t₁ t₂ a b (1 ∷ []) → Put t₂ t₃ b c (h.kind ∷ []) → Put t₃ t₄ c d (spelled 4 (numbers h))
    → Put file t₄ 0 d (head_bytes h)
head_put h count file w p q r s =
    put_same (put_then p (put_then q (put_then r s)))
    (ap (λ (n : ℕ). bytes 4 (n - 4) ++ ((1 ∷ []) ++ ((h.kind ∷ []) ++ spelled 4 (numbers h)))) w.counted ∙ sym (head_parts h w.kind))

pub head_length : (h : Header) → length (head_bytes h) ≡ 26
head_length h = ap length (head_is h) ∙ simp (length-append, spelled_length) refl

-- where the last table ends
abbrev pub ends : Model → Claim → ℕ
ends t u =
    26 + 1 * length t.marks + 4 * length t.action_starts + 4 * length t.branch_starts + 4 * length t.destinations + 4 * length t.weights
    + 4 * length u.costs + 8 * length u.claims + 4 * length u.ranks

-- the header and then tables 1 to 8
module _ (h : Header) (t : Model) (u : Claim) where
  parts : written (sections h t u)
      ≡ head_bytes h
      ++ (spelled 1 t.marks
      ++ (spelled 4 t.action_starts
      ++ (spelled 4 t.branch_starts
      ++ (spelled 4 t.destinations
      ++ (spelled 4 t.weights
      ++ (spelled 4 u.costs
      ++ (spelled 8 u.claims
      ++ (spelled 4 u.ranks
      ++ []))))))))
  unfolding written sections sections_of blocks announced
  parts = refl

  pub whole_length : length (written (sections h t u)) ≡ ends t u
  whole_length = ap length parts ∙ simp (length-append, spelled_length) (omega (arith, head_length h))

  pub laid : ((i : ℕ) → get_or t.marks i 0 < 256) → (file : List ℕ) → ends t u ≤ length file
      → {t₁ t₂ t₃ t₄ t₅ t₆ t₇ t₈ t₉ : List ℕ} {a₁ a₂ a₃ a₄ a₅ a₆ a₇ a₈ a₉ : ℕ}
      → Put file t₁ 0 a₁ (head_bytes h)
      → Put t₁ t₂ a₁ a₂ t.marks
      → Put t₂ t₃ a₂ a₃ (spelled 4 t.action_starts)
      → Put t₃ t₄ a₃ a₄ (spelled 4 t.branch_starts)
      → Put t₄ t₅ a₄ a₅ (spelled 4 t.destinations)
      → Put t₅ t₆ a₅ a₆ (spelled 4 t.weights)
      → Put t₆ t₇ a₆ a₇ (spelled 4 u.costs)
      → Put t₇ t₈ a₇ a₈ (spelled 8 u.claims)
      → Put t₈ t₉ a₈ a₉ (spelled 4 u.ranks)
      → t₉ ≡ overlaid (written (sections h t u)) file
  unfolding overlaid
  laid m file room p₁ p₂ p₃ p₄ p₅ p₆ p₇ p₈ p₉ =
      let all = put_same (put_then p₁ (put_then p₂ (put_then p₃ (put_then p₄ (put_then p₅ (put_then p₆ (put_then p₇ (put_then p₈ p₉))))))))
      (sym (parts ∙ rw (bytes_spelled t.marks m, append-nil (spelled 4 u.ranks)))) in
      let e = put_whole all (omega (arith, all.next, whole_length)) in
      e.1 ∙ ap (λ (n : ℕ). written (sections h t u) ++ drop n file) e.0

-- what putting the header takes, in one name
pub ruleset heading = (head_least, header_bytes, bytes_length)
