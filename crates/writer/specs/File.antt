-- The file that tables make, stated over the reader's blocks, and what the writer answers: refusals 1 to 14, then 35.
use Rattle.std.specs.Prelude.{ℕ, ◌-◌, ◌≡◌, List, [], ◌∷◌, ◌++◌, leb, length, drop}
use Rattle.model.specs.declared.answers.Verdict.{Verdict}
use Rattle.model.specs.declared.answers.Verdict.TheVariants.{Accepted, Refused as Refuses, Violated}
use Rattle.model.specs.Tables.{Model, Claim, states, actions, branches}
use Rattle.model.specs.Answers.{pass, tried, require}
use Rattle.model.specs.Checked.{aside_of}
use Rattle.wire.specs.Blocks.{size}
use Rattle.wire.specs.Sections.{Section, sections_of, written}
use Rattle.certfile.specs.declared.Header.{Header}
use Rattle.certfile.specs.File.{blocks}
use Rattle.writer.specs.Written.{Written, Length, Refused}

-- what the file says before its tables
abbrev pub header : (kind d c n m b : ℕ) → Header
header kind d c n m b = record { kind = kind; d = d; c = c; n = n; m = m; b = b }

abbrev pub header_for : ℕ → Model → Claim → Header
header_for kind t u = header kind t.d u.c (states t) (actions t) (branches t)

-- the number of bytes after it; the version; the kind; D, C, n, m and b
abbrev pub heads : Header → List (List ℕ)
heads h = ((size (blocks h) - 4) ∷ []) ∷ (1 ∷ []) ∷ (h.kind ∷ []) ∷ (h.d ∷ h.c ∷ h.n ∷ h.m ∷ h.b ∷ []) ∷ []

-- tables 1 to 8
abbrev pub table_lists : Model → Claim → List (List ℕ)
table_lists t u =
    t.marks
    ∷ t.action_starts
    ∷ t.branch_starts
    ∷ t.destinations
    ∷ t.weights
    ∷ u.costs
    ∷ u.claims
    ∷ u.ranks
    ∷ []

-- the file: the blocks that the reader takes, with these numbers
unfoldable pub sections : Header → Model → Claim → List Section
unfolding sections_of blocks size
sections h t u = sections_of (blocks h) (heads h ++ table_lists t u)

unfoldable pub file_of : ℕ → Model → Claim → List ℕ
unfolding written sections
file_of kind t u = written (sections (header_for kind t u) t u)

-- 35: the buffer is not shorter than the file
unfoldable pub buffer_test : ℕ → ℕ → Verdict
unfolding require
buffer_test bytes buffer = require (leb bytes buffer) 35 0

-- the refusals of the writer, in their order
unfoldable pub write_tests : ℕ → Model → Claim → ℕ → List Verdict
unfolding aside_of buffer_test file_of
write_tests kind t u buffer = aside_of kind t u ∷ buffer_test (length (file_of kind t u)) buffer ∷ []

-- the answer, by what the tests say
unfoldable pub answered : ℕ → Verdict → Written
answered bytes (Accepted r) = Length bytes
answered bytes (Refuses k p) = Refused k p
answered bytes (Violated k s a) = Refused k s

unfoldable pub written_of : ℕ → Model → Claim → ℕ → Written
unfolding answered tried write_tests file_of
written_of kind t u buffer = answered (length (file_of kind t u)) (tried (write_tests kind t u buffer) pass)

-- a buffer with a file at its front, the rest as it was
unfoldable pub overlaid : List ℕ → List ℕ → List ℕ
overlaid file buffer = file ++ drop (length file) buffer

-- the buffer at exit: the file first and the rest as it was; a refusal leaves all of it as it was
unfoldable pub buffer_of : Written → List ℕ → List ℕ → List ℕ
unfolding overlaid
buffer_of (Length bytes) file buffer = overlaid file buffer
buffer_of (Refused k p) file buffer = buffer

-- what was answered, and the buffer after tables were written
pub record WrittenInto (r : Written) (kind : ℕ) (t : Model) (u : Claim) (before after : List ℕ) : Type 0 where
  pub answer : r ≡ written_of kind t u (length before)
  pub buffer : after ≡ buffer_of r (file_of kind t u) before
