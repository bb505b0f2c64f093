-- The answer as a chain of tests, and what is known once a file passed them. Assumes nothing.
use mathlib.Core.Path.{◌≡◌, refl, sym, ap, subst, ◌∙◌}
use mathlib.Core.Bool.{Bool, true, false, cond, ◌&&◌}
use mathlib.Core.List.{List}
use Prim.Native.Nat.{ℕ, ◌-◌, ◌≤◌}
use native.Mathlib.Omega.{arith}
use lib.Dec.{T, leb, eqb}
use lib.ListN.{length}
use borrow.Author.Tests.{leb-true}
use Rattle.wire.specs.Words.{word}
use Rattle.wire.specs.Blocks.{size}
use Rattle.model.specs.declared.answers.Verdict.{Verdict}
use Rattle.model.specs.declared.answers.Fault.{Fault}
use Rattle.model.specs.Answers.{code, given, pass, then, require}
use Rattle.model.specs.Kinds.{is_kind}
use Rattle.certfile.specs.declared.Header.{Header}
use Rattle.certfile.specs.Outcome.{Outcome, Read, Refused}
use Rattle.certfile.specs.File.{header_blocks, header_of, length_field_right, version_right, counts_right, length_right, outcome, outcome_of}

-- refused with this number, unless it is right: then what comes next
abbrev pub next : Bool → ℕ → Outcome → Outcome
next right k o = cond right o (Refused k 0)

step : (h : Header) (right : Bool) (k : ℕ) (v : Verdict) → outcome h (then (require right k 0) v) ≡ next right k (outcome h v)
unfolding outcome then require
step h true k v = refl
step h false k v = refl

-- what was not refused is right, and the refusal of what is not is told
pub right_passed : (right : Bool) (k : ℕ) → pass ≡ require right k 0 → right ≡ true
unfolding require
right_passed true k e = refl
right_passed false k e = let z : ◌≡◌ {A = ℕ} 0 1 = cc in absurd (omega arith)

pub wrong_refused : (right : Bool) (k : ℕ) (f : Fault) → given f ≡ require right k 0 → (right ≡ false) × ((code f.refusal ≡ k) × (f.place ≡ 0))
unfolding require
wrong_refused true k f e = let z : ◌≡◌ {A = ℕ} 0 1 = cc in absurd (omega arith)
wrong_refused false k f e = (refl, (cc, cc))

module _ (lent file : List ℕ) where
  abbrev h : Header
  h = header_of file

  -- what is answered from 34 on, from 33 on, and so on
  abbrev pub from_34 : Outcome
  from_34 = next (length_right h file) 34 (Read h)

  abbrev pub from_33 : Outcome
  from_33 = next (counts_right h lent) 33 from_34

  abbrev pub from_1 : Outcome
  from_1 = next (is_kind h.kind) 1 from_33

  abbrev pub from_32 : Outcome
  from_32 = next (version_right file) 32 from_1

  pub judged : outcome_of lent file ≡ next (length_field_right file) 31 from_32
  unfolding outcome_of
  judged =
      step h (length_field_right file) 31 _
      ∙ ap (next (length_field_right file) 31) (step h (version_right file) 32 _
      ∙ ap (next (version_right file) 32) (step h (is_kind h.kind) 1 _
      ∙ ap (next (is_kind h.kind) 1) (step h (counts_right h lent) 33 _
      ∙ ap (next (counts_right h lent) 33) (step h (length_right h file) 34 _))))

pub both_true : (a b : Bool) → (a && b) ≡ true → (a ≡ true) × (b ≡ true)
both_true true b e = (refl, e)
both_true false b e = absurd (subst T (sym e) tt)

-- a file whose length field is right has a header
pub has_header : (file : List ℕ) → length_field_right file ≡ true → size header_blocks ≤ length file
unfolding length_field_right
has_header file e = leb-true (size header_blocks) (length file) (both_true (leb (size header_blocks) (length file)) (eqb (word 4 file 0) (length file - 4)) e).0

-- what a test that is passed or refused says, and what the chain then answers
pub ruleset judging = (judged, right_passed, wrong_refused, has_header)
