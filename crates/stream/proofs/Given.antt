-- What a read says of its bytes, as what the input gives, also where others stand before or behind them.
use Rattle.std.proofs.Common.{◌≡◌, ℕ, ◌+◌, ◌≤◌, ◌<◌, List, ◌++◌, Option, arith, subst, sym, ap, ◌∙◌, length, take}
use Rattle.std.proofs.Math.Seq.{take-append-add}
use Rattle.std.proofs.lemmas.List.{take-append-le}
use Rattle.std.specs.Io.KnownBytes.{Consumes, IsAtEnd}
use Rattle.stream.specs.Case.{Gives}

-- the front, with n bytes of ys behind it
pub front_more : (a n : ℕ) (front ys rest : List ℕ) → length front ≡ a → n ≤ length ys → front ++ take n ys ≡ take (a + n) (front ++ (ys ++ rest))
front_more a n front ys rest long fits =
    sym (ap (λ m. take (m + n) (front ++ (ys ++ rest))) (sym long) ∙ take-append-add front (ys ++ rest) n
    ∙ ap (λ l. front ++ l) (take-append-le n ys rest fits))

-- the bytes that were filled give n of them
pub gives_filled : (a b : Option (List ℕ)) (count n : ℕ) (bytes rest : List ℕ) → length bytes ≡ count
    → (n ≤ length bytes) × (n ≡ length (take n bytes)) → Consumes a b (take n bytes) → (n < length bytes → IsAtEnd b)
    → Gives a b count (take n (bytes ++ rest))
gives_filled a b count n bytes rest long fits read end =
    subst (Gives a b count) (sym (take-append-le n bytes rest fits.0)) (read, omega (arith, fits), λ few. end (omega (arith, few, fits.1)))
