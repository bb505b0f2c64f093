-- What is written is read back, and what is read is written back, over any list of blocks. Assumes nothing.
use mathlib.Core.Path.{◌≡◌, refl, sym, ap, ap₂, ◌∙◌}
use mathlib.Core.List.{List, [], ◌∷◌, ◌++◌, append_assoc}
use Prim.Native.Nat.{ℕ, zero, suc, ◌+◌, ◌*◌, ◌/◌, ◌%◌, ◌^◌, ◌≤◌, ◌<◌}
use native.Mathlib.Nat.{zero-lt-suc, one-le-pow, pow-suc, mul_comm, mul-zero, add-zero, mul_assoc}
use native.Mathlib.Nat.{mod-one, mod-eq_of_lt, mul-add-div_right, mul-add-mod_self_right}
use native.Mathlib.Numerals.{add-one}
use native.Mathlib.Omega.{arith}
use lib.Arith.{digits_lt, digits_div, mod-mul}
use lib.ListN.{length, get_or, take, drop, length-append}
use lib.Seq.{drop-cons, drop-drop, take-add, get_or-append_seam}
use Rattle.walk.specs.Fold.{listed}
use Rattle.walk.proofs.Fold.{down, listed_end, listed_step, listed_length, listed_at}
use Rattle.wire.specs.Words.{word, bytes}
use Rattle.wire.specs.Blocks.{Block, block_of, size, place, block, numbers}
use Rattle.wire.specs.Sections.{Section, filled, spelled, written, blocks_of, section, sections_in}
use Rattle.wire.specs.Word.{bytes_length}
use Rattle.wire.proofs.Spelled.{spelled_length}

-- a word and its bytes

power : (width : ℕ) → 256 ^ suc width ≡ 256 * 256 ^ width
power width = pow-suc 256 width ∙ mul_comm (256 ^ width) 256

pub power_pos : (width : ℕ) → 0 < 256 ^ width
power_pos width = one-le-pow width 256 (zero-lt-suc 255)

-- the first part of what follows goes to what stands before
moved : (before a b after : List ℕ) → before ++ ((a ++ b) ++ after) ≡ (before ++ a) ++ (b ++ after)
moved before a b after = simp append_assoc

-- what bytes spell is their number, but for what stands above them
word_mod : (width x : ℕ) (before after : List ℕ) → word width (before ++ (bytes width x ++ after)) (length before) ≡ x % 256 ^ width
unfolding word bytes
word_mod zero x before after = sym (mod-one x)
word_mod (suc width) x before after =
    let d = x / 256 ^ width % 256 in
    ap₂ (λ (c y : ℕ). c * 256 ^ width + y) (get_or-append_seam before d (bytes width x ++ after) 0)
    (ap₂ (word width) (moved before (d ∷ []) (bytes width x) after) (sym (length-append before (d ∷ []))) ∙ word_mod width x (before ++ (d ∷ [])) after)
    ∙ sym (ap (λ (y : ℕ). x % y) (power width) ∙ mod-mul x (zero-lt-suc 255) (power_pos width))

pub word_bytes : (width x : ℕ) → x < 256 ^ width → (before after : List ℕ) → word width (before ++ (bytes width x ++ after)) (length before) ≡ x
word_bytes width x h before after = word_mod width x before after ∙ mod-eq_of_lt h

-- the bytes are those of the low part alone
bytes_low : (width c x : ℕ) → bytes width (c * 256 ^ width + x) ≡ bytes width x
unfolding bytes
bytes_low zero c x = refl
bytes_low (suc width) c x =
    let e : c * 256 ^ suc width ≡ c * 256 * 256 ^ width = ap (λ (y : ℕ). c * y) (power width) ∙ sym (mul_assoc c 256 (256 ^ width)) in
    rw e
    (ap₂ ◌∷◌
    (ap (λ (y : ℕ). y % 256) (mul-add-div_right (power_pos width) (c * 256) x) ∙ mul-add-mod_self_right c 256 (x / 256 ^ width))
    (bytes_low width (c * 256) x))

word_lt : (width : ℕ) (file : List ℕ) (at : ℕ) → ((i : ℕ) → get_or file i 0 < 256) → word width file at < 256 ^ width
unfolding word
word_lt zero file at h = zero-lt-suc 0
word_lt (suc width) file at h = rw (power width) (digits_lt (h at) (word_lt width file (at + 1) h))

pub bytes_word : (width : ℕ) (file : List ℕ) (at : ℕ) → ((i : ℕ) → get_or file i 0 < 256) → at + width ≤ length file
    → bytes width (word width file at) ≡ take width (drop at file)
unfolding bytes word
bytes_word zero file at h l = refl
bytes_word (suc width) file at h l =
    rw (drop-cons file at 0 (omega arith), ← add-one at)
    (ap₂ ◌∷◌
    (ap (λ (y : ℕ). y % 256) (digits_div (get_or file at 0) (word_lt width file (at + 1) h)) ∙ mod-eq_of_lt (h at))
    (bytes_low width (get_or file at 0) (word width file (at + 1)) ∙ bytes_word width file (at + 1) h (omega arith)))

-- a table number by number

listed_moved : (f g : ℕ → ℕ) → ((i : ℕ) → f (i + 1) ≡ g i) → (hi lo : ℕ) → listed f (lo + 1) (hi + 1) ≡ listed g lo hi
listed_moved f g e hi = down
    (λ lo. listed f (lo + 1) (hi + 1) ≡ listed g lo hi) hi
    (λ lo h. rw (listed_end f (lo + 1) (hi + 1) (omega arith), listed_end g lo hi h))
    (λ lo h ih. rw (listed_step f (lo + 1) (hi + 1) (omega arith), listed_step g lo hi h, ih, e lo))

numbers_none : (width : ℕ) (file : List ℕ) (at : ℕ) → numbers (block_of width 0) file at ≡ []
unfolding numbers
numbers_none width file at = refl

numbers_more : (width count : ℕ) (file : List ℕ) (at : ℕ)
    → numbers (block_of width (suc count)) file at ≡ word width file at ∷ numbers (block_of width count) file (at + width)
unfolding numbers
numbers_more width count file at =
    rw (← add-one count)
    (listed_step (λ i. word width file (at + i * width)) 0 (count + 1) (omega arith)
    ∙ ap₂ ◌∷◌ (ap (word width file) (omega arith))
    (listed_moved (λ i. word width file (at + i * width)) (λ i. word width file (at + width + i * width)) (λ i. ap (word width file) (omega arith)) count 0))

pub numbers_length : (x : Block) (file : List ℕ) (at : ℕ) → length (numbers x file at) ≡ x.count
unfolding numbers
numbers_length x file at = listed_length (λ i. word x.width file (at + i * x.width)) x.count 0 ∙ omega arith

-- number j of a block is the word at its place
pub numbers_at : (x : Block) (file : List ℕ) (at j : ℕ) → j < x.count → get_or (numbers x file at) j 0 ≡ word x.width file (at + j * x.width)
unfolding numbers
numbers_at x file at j h = listed_at (λ i. word x.width file (at + i * x.width)) 0 x.count 0 j (omega arith) ∙ ap (word x.width file) (omega arith)

pub numbers_spelled : (width : ℕ) (xs before after : List ℕ) → ((j : ℕ) → get_or xs j 0 < 256 ^ width)
    → numbers (block_of width (length xs)) (before ++ (spelled width xs ++ after)) (length before) ≡ xs
unfolding spelled
numbers_spelled width [] before after h = numbers_none width (before ++ after) (length before)
numbers_spelled width (x ∷ xs) before after h =
    numbers_more width (length xs) (before ++ ((bytes width x ++ spelled width xs) ++ after)) (length before)
    ∙ ap₂ ◌∷◌
    (ap (λ (l : List ℕ). word width (before ++ l) (length before)) (append_assoc (bytes width x) (spelled width xs) after)
    ∙ word_bytes width x (h 0) before (spelled width xs ++ after))
    (ap₂ (numbers (block_of width (length xs))) (moved before (bytes width x) (spelled width xs) after)
    (sym (length-append before (bytes width x) ∙ ap (λ (n : ℕ). length before + n) (bytes_length width x)))
    ∙ numbers_spelled width xs (before ++ bytes width x) after (λ j. h (suc j)))

-- the bytes from a place on, and those that follow
front : (n m at : ℕ) (file : List ℕ) → take n (drop at file) ++ take m (drop (at + n) file) ≡ take (n + m) (drop at file)
front n m at file = rw (take-add n m (drop at file), drop-drop n at file)

spelled_front : (width count : ℕ) (file : List ℕ) (at : ℕ) → ((i : ℕ) → get_or file i 0 < 256) → at + width * count ≤ length file
    → spelled width (numbers (block_of width count) file at) ≡ take (width * count) (drop at file)
unfolding spelled
spelled_front width zero file at h l = rw (numbers_none width file at, mul-zero width)
spelled_front width (suc count) file at h l =
    let e : width * suc count ≡ width + width * count = omega arith in
    rw (e, numbers_more width count file at)
    (ap₂ ◌++◌ (bytes_word width file at h (omega arith)) (spelled_front width count file (at + width) h (omega arith))
    ∙ front width (width * count) at file)

pub spelled_numbers : (x : Block) (file : List ℕ) (at : ℕ) → ((i : ℕ) → get_or file i 0 < 256) → at + x.width * x.count ≤ length file
    → spelled x.width (numbers x file at) ≡ take (x.width * x.count) (drop at file)
spelled_numbers x = spelled_front x.width x.count

-- bytes spelled in one byte each are themselves
pub bytes_spelled : (xs : List ℕ) → ((j : ℕ) → get_or xs j 0 < 256) → spelled 1 xs ≡ xs
unfolding spelled bytes
bytes_spelled [] h = refl
bytes_spelled (x ∷ xs) h = ap₂ ◌∷◌ (omega (arith, h 0)) (bytes_spelled xs (λ j. h (suc j)))

-- over sections: what is written is read back

pub read_written : (xs : List Section) → ((i j : ℕ) → get_or (section xs i).numbers j 0 < 256 ^ (section xs i).width)
    → (before after : List ℕ) (i : ℕ)
    → numbers (block (blocks_of xs) i) (before ++ (written xs ++ after)) (length before + place (blocks_of xs) i) ≡ (section xs i).numbers
unfolding section blocks_of block place written
read_written [] h before after i = numbers_none 0 _ _
read_written (x ∷ xs) h before after zero =
    let s = spelled x.width x.numbers in
    ap₂ (λ (l : List ℕ) (n : ℕ). numbers (filled x) (before ++ l) n) (append_assoc s (written xs) after) (add-zero (length before))
    ∙ numbers_spelled x.width x.numbers before (written xs ++ after) (h 0)
read_written (x ∷ xs) h before after (suc i) =
    let s = spelled x.width x.numbers in
    ap₂ (numbers (block (blocks_of xs) i)) (moved before s (written xs) after) (omega (arith, length-append before s, spelled_length x.width x.numbers))
    ∙ read_written xs (λ k. h (suc k)) (before ++ s) after i

-- over blocks: what is read is written back
pub written_read : (xs : List Block) (file : List ℕ) → ((i : ℕ) → get_or file i 0 < 256) → (at : ℕ) → at + size xs ≤ length file
    → written (sections_in xs file at) ≡ take (size xs) (drop at file)
unfolding written sections_in size
written_read [] file h at l = refl
written_read (x ∷ xs) file h at l =
    ap₂ ◌++◌ (spelled_numbers x file at h (omega arith)) (written_read xs file h (at + x.width * x.count) (omega arith))
    ∙ front (x.width * x.count) (size xs) at file

-- the sections that blocks hold: their numbers, and their blocks
pub section_in : (xs : List Block) (file : List ℕ) (at i : ℕ) → (section (sections_in xs file at) i).numbers ≡ numbers (block xs i) file (at + place xs i)
unfolding section sections_in block place
section_in [] file at i = sym (numbers_none 0 file (at + 0))
section_in (x ∷ xs) file at zero = ap (numbers x file) (omega arith)
section_in (x ∷ xs) file at (suc i) = section_in xs file (at + x.width * x.count) i ∙ ap (numbers (block xs i) file) (omega arith)

pub blocks_in : (xs : List Block) (file : List ℕ) (at : ℕ) → blocks_of (sections_in xs file at) ≡ xs
unfolding blocks_of sections_in
blocks_in [] file at = refl
blocks_in (x ∷ xs) file at =
    ap₂ (λ (n : ℕ) (l : List Block). block_of x.width n ∷ l) (numbers_length x file at) (blocks_in xs file (at + x.width * x.count))
