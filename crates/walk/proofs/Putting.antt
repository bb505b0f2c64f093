-- Bytes put one after the other: the laws of such stores. Assumes nothing.
use mathlib.Core.Path.{◌≡◌, ◌∙◌}
use mathlib.Core.List.{List, [], ◌∷◌, ◌++◌}
use Prim.Native.Nat.{ℕ, suc, ◌+◌, ◌≤◌}
use native.Mathlib.Nat.{add-zero, zero-add}
use native.Mathlib.Omega.{arith}
use lib.ListN.{length, drop, set, length-append}
use lib.Seq.{sets, sets-eq}
use Rattle.walk.specs.Put.{Put}

-- two runs of stores, the second where the first ends
sets_append : (t : List ℕ) (i : ℕ) (a b : List ℕ) → sets (sets t i a) (i + length a) b ≡ sets t i (a ++ b)
sets_append t i [] b = rw (add-zero i)
sets_append t i (x ∷ a) b =
    let e : i + suc (length a) ≡ suc i + length a = omega arith in
    rw e (sets_append (set t i x) (suc i) a b)

pub put_then : {t t' t'' : List ℕ} {at mid next : ℕ} {a b : List ℕ} → Put t t' at mid a → Put t' t'' mid next b → Put t t'' at next (a ++ b)
put_then {t} {t'} {t''} {at} {mid} {next} {a} {b} p q =
    record {
      next = rw length-append (omega (arith, p.next, q.next));
      text = q.text ∙ rw (p.text, p.next) (sets_append t at a b);
    }

pub put_same : {t t' : List ℕ} {at next : ℕ} {a b : List ℕ} → Put t t' at next a → a ≡ b → Put t t' at next b
put_same p e = rw (← e) p

-- put at the beginning, it stands before what is left of the text
pub put_whole : {t t' : List ℕ} {next : ℕ} {a : List ℕ} → Put t t' 0 next a → next ≤ length t → (next ≡ length a) × (t' ≡ a ++ drop next t)
put_whole {t} {t'} {next} {a} p h =
    let e : next ≡ length a = p.next ∙ zero-add (length a) in
    (e, p.text ∙ sets-eq a t 0 (omega arith) ∙ rw (e, zero-add (length a)))
