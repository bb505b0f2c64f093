-- The certificate file, stated once as blocks: refusals 31 to 34, what is answered, and each lent table at exit.
use Rattle.std.specs.Prelude.{ℕ, ◌+◌, ◌-◌, Bool, true, ◌&&◌, List, [], ◌∷◌, ◌++◌, leb, eqb, length}
use Rattle.model.specs.declared.answers.Verdict.{Verdict}
use Rattle.model.specs.declared.answers.Verdict.TheVariants.{Accepted, Refused as Refuses, Violated}
use Rattle.model.specs.declared.kinds.Kind.{Kind}
use Rattle.model.specs.Limits.{most_states, most_actions, most_branches}
use Rattle.model.specs.Kinds.{kind_of}
use Rattle.model.specs.Answers.{pass, tried, require}
use Rattle.model.specs.Refusals.{entries, kind_test}
use Rattle.wire.specs.Words.{word}
use Rattle.wire.specs.Blocks.{Block, block_of, size, place, block, overwritten}
use Rattle.certfile.specs.declared.Header.{Header}
use Rattle.certfile.specs.Outcome.{Outcome, Read, Refused}

-- the number of bytes after it; the version; the kind; D, C, n, m and b
abbrev pub header_blocks : List Block
header_blocks = block_of 4 1 ∷ block_of 1 1 ∷ block_of 1 1 ∷ block_of 4 5 ∷ []

-- tables 1 to 8; one that the kind has not has no entries
abbrev pub table_blocks : Kind → ℕ → ℕ → ℕ → List Block
table_blocks k n m b =
    block_of 1 n
    ∷ block_of 4 (n + 1)
    ∷ block_of 4 (m + 1)
    ∷ block_of 4 b
    ∷ block_of 4 b
    ∷ block_of 4 (entries k.costs n)
    ∷ block_of 8 n
    ∷ block_of 4 (entries k.ranks n)
    ∷ []

-- what the header of a file says
unfoldable pub header_of : List ℕ → Header
unfolding word place
header_of file =
    record {
      kind = word 1 file (place header_blocks 2);
      d = word 4 file (place header_blocks 3);
      c = word 4 file (place header_blocks 3 + 4);
      n = word 4 file (place header_blocks 3 + 8);
      m = word 4 file (place header_blocks 3 + 12);
      b = word 4 file (place header_blocks 3 + 16);
    }

-- the tables that the header announces, and the whole file
unfoldable pub announced : Header → List Block
announced h = table_blocks (kind_of h.kind) h.n h.m h.b

unfoldable pub blocks : Header → List Block
unfolding announced
blocks h = header_blocks ++ announced h

-- each lent table, given by its length, has room for its block
unfoldable pub roomy : List Block → List ℕ → Bool
roomy [] lent = true
roomy (x ∷ xs) [] = eqb x.count 0 && roomy xs []
roomy (x ∷ xs) (l ∷ lent) = leb x.count l && roomy xs lent

-- 31: at least 26 bytes, and the length field counts the bytes after it
unfoldable pub length_field_right : List ℕ → Bool
unfolding word size place
length_field_right file = leb (size header_blocks) (length file) && eqb (word 4 file (place header_blocks 0)) (length file - 4)

unfoldable pub length_field_test : List ℕ → Verdict
unfolding require length_field_right
length_field_test file = require (length_field_right file) 31 0

-- 32: the version byte is 1
unfoldable pub version_right : List ℕ → Bool
unfolding word place
version_right file = eqb (word 1 file (place header_blocks 1)) 1

unfoldable pub version_test : List ℕ → Verdict
unfolding require version_right
version_test file = require (version_right file) 32 0

-- 33: no count over its limit, and no lent table that the kind has too short
unfoldable pub counts_right : Header → List ℕ → Bool
unfolding announced roomy
counts_right h lent = leb h.n most_states && (leb h.m most_actions && (leb h.b most_branches && roomy (announced h) lent))

unfoldable pub counts_test : Header → List ℕ → Verdict
unfolding require counts_right
counts_test h lent = require (counts_right h lent) 33 0

-- 34: the length is what the counts require
unfoldable pub length_right : Header → List ℕ → Bool
unfolding size blocks
length_right h file = eqb (length file) (size (blocks h))

unfoldable pub length_test : Header → List ℕ → Verdict
unfolding require length_right
length_test h file = require (length_right h file) 34 0

-- the refusals of the reader, in their order
unfoldable pub file_tests : List ℕ → List ℕ → List Verdict
unfolding length_field_test version_test kind_test header_of counts_test length_test
file_tests lent file =
    length_field_test file
    ∷ version_test file
    ∷ kind_test (header_of file).kind
    ∷ counts_test (header_of file) lent
    ∷ length_test (header_of file) file
    ∷ []

-- the answer, by what the tests say
unfoldable pub outcome : Header → Verdict → Outcome
outcome h (Accepted r) = Read h
outcome h (Refuses k p) = Refused k p
outcome h (Violated k s a) = Refused k s

unfoldable pub outcome_of : List ℕ → List ℕ → Outcome
unfolding outcome tried file_tests header_of
outcome_of lent file = outcome (header_of file) (tried (file_tests lent file) pass)

-- a lent table, by its number, after the file was read: a refusal leaves it as it was
unfoldable pub table_of : Outcome → ℕ → List ℕ → List ℕ → List ℕ
unfolding overwritten block place announced
table_of (Read h) i file table = overwritten (block (announced h) (i - 1)) file (size header_blocks + place (announced h) (i - 1)) table
table_of (Refused k p) i file table = table
