-- Bytes copied into a part of a file are put there, and those of a number are the library's. Assumes nothing.
use mathlib.Core.Path.{◌≡◌, refl, sym, ◌∙◌}
use mathlib.Core.List.{List, [], ◌∷◌, append_assoc}
use Prim.Native.Nat.{ℕ, ◌+◌, ◌-◌, ◌/◌, ◌≤◌}
use native.Mathlib.Omega.{arith}
use lib.ListN.{length, get_or, take, drop}
use lib.Seq.{sets-eq, drop-drop}
use borrow.Rule.Slice.PartMut.{put_mid}
use Rattle.std.specs.Int.{w32, w64, to_be_bytes, from_be_bytes}
use Rattle.walk.specs.Put.{Put}
use Rattle.wire.specs.Words.{word, bytes}

pub copied : (t xs ys : List ℕ) (at : ℕ) → at + length ys ≤ length t → xs ≡ ys
    → Put t (put_mid at (at + length ys - at) t xs) at (at + length ys) ys
copied t xs ys at fits same =
    let k : at + length ys - at ≡ length ys = omega arith in
    record {
      next = refl;
      text =
          rw (k, same, drop-drop (length ys) at t)
          (sym (append_assoc (take at t) ys (drop (at + length ys) t)) ∙ sym (sets-eq ys t at fits));
    }

module _ (x : ℕ) where
  low : x / 1 ≡ x
  low = omega arith

  pub bytes_four : to_be_bytes w32 x ≡ bytes 4 x
  unfolding bytes
  bytes_four = rw low refl

  pub bytes_eight : to_be_bytes w64 x ≡ bytes 8 x
  unfolding bytes
  bytes_eight = rw low refl

-- the bytes that stand in a file, the highest first
module _ (file : List ℕ) (at : ℕ) where
  abbrev byte : ℕ → ℕ
  byte i = get_or file (at + i) 0

  pub word_four : from_be_bytes w32 (get_or file at 0 ∷ byte 1 ∷ byte 2 ∷ byte 3 ∷ []) ≡ word 4 file at
  unfolding word
  word_four =
      let e : at + 2 ≡ at + 1 + 1 = omega arith in
      let f : at + 3 ≡ at + 1 + 1 + 1 = omega arith in
      rw (e, f) (omega arith)

  pub word_eight : from_be_bytes w64 (get_or file at 0 ∷ byte 1 ∷ byte 2 ∷ byte 3 ∷ byte 4 ∷ byte 5 ∷ byte 6 ∷ byte 7 ∷ []) ≡ word 8 file at
  unfolding word
  word_eight =
      let b : at + 2 ≡ at + 1 + 1 = omega arith in
      let c : at + 3 ≡ at + 1 + 1 + 1 = omega arith in
      let d : at + 4 ≡ at + 1 + 1 + 1 + 1 = omega arith in
      let e : at + 5 ≡ at + 1 + 1 + 1 + 1 + 1 = omega arith in
      let f : at + 6 ≡ at + 1 + 1 + 1 + 1 + 1 + 1 = omega arith in
      let g : at + 7 ≡ at + 1 + 1 + 1 + 1 + 1 + 1 + 1 = omega arith in
      rw (b, c, d, e, f, g) (omega arith)
