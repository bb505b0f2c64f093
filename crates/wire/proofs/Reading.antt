-- A loop that fills a table from the file, at any item whose numbers are known. Assumes nothing.
use mathlib.Core.Path.{◌≡◌, sym, ap, ap₂, ◌∙◌}
use mathlib.Core.List.{List, ◌++◌, append-nil}
use Prim.Native.Nat.{ℕ, ◌+◌, ◌*◌, ◌≤◌, ◌<◌}
use native.Mathlib.Omega.{arith}
use lib.ListN.{length, set, take, drop, drop_of_length-le}
use lib.Seq.{length-take-le}
use Rattle.std.specs.Prelude.{map}
use Rattle.std.proofs.lemmas.List.{length-map, map-set, map-append, drop-map}
use Rattle.walk.proofs.Loop.{Filling, fill_start, fill_pass, fill_end}
use Rattle.wire.specs.Words.{word}
use Rattle.wire.specs.Blocks.{block_of, numbers, overwritten}

module _ {A : Type 0} (table : List A → List ℕ) (number : A → ℕ) (each : (xs : List A) → table xs ≡ map number xs) where
  table_length : (xs : List A) → length (table xs) ≡ length xs
  table_length xs = ap length (each xs) ∙ length-map xs number

  table_set : (xs : List A) (i : ℕ) (x : A) → table (set xs i x) ≡ set (table xs) i (number x)
  table_set xs i x = rw (each (set xs i x), each xs) (map-set number xs i x)

  -- the numbers from a place of the file on go in one after the other
  abbrev pub Reading : ℕ → List ℕ → ℕ → List A → ℕ → List A → Type 0
  Reading width file at start i now = Filling (λ k. word width file (at + k * width)) (table start) (length start) i (table now)

  pub read_start : (width : ℕ) (file : List ℕ) (at : ℕ) (start : List A) → Reading width file at start 0 start
  read_start width file at start = fill_start _ (table start) (length start) (omega (arith, table_length start))

  pub read_pass : (width : ℕ) (file : List ℕ) (at : ℕ) {i : ℕ} {start now : List A} → Reading width file at start i now → i < length start
      → (x : A) → number x ≡ word width file (at + i * width) → Reading width file at start (i + 1) (set now i x)
  read_pass width file at {i = i} {now = now} w h x e = rw (table_set now i x) (fill_pass w h (number x) e)

  pub all_read : (width : ℕ) (file : List ℕ) (at : ℕ) {i : ℕ} {start now : List A}
      → Reading width file at start i now → length start ≤ i → table now ≡ numbers (block_of width (length start)) file at
  unfolding numbers
  all_read width file at {start = start} w h =
      let short : length (table start) ≤ length start = omega (arith, table_length start) in
      fill_end w h ∙ rw (drop_of_length-le (table start) short) (append-nil _)

  -- numbers that went into the first entries overwrite them
  pub front_read : (width : ℕ) (file : List ℕ) (at count : ℕ) (start now : List A) → count ≤ length start
      → table now ≡ numbers (block_of width (length (take count start))) file at
      → table (now ++ drop count start) ≡ overwritten (block_of width count) file at (table start)
  unfolding overwritten
  front_read width file at count start now h e =
      each (now ++ drop count start)
      ∙ map-append number now (drop count start)
      ∙ ap₂ ◌++◌
      (sym (each now) ∙ e ∙ ap (λ n. numbers (block_of width n) file at) (length-take-le count start h))
      (sym (drop-map number count start) ∙ ap (drop count) (sym (each start)))
