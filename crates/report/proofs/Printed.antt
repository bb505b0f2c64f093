-- The example that document 01 prints whole: model A, kind 4, accepted with rank 1 and choices 0 2 -. Assumes nothing.
use mathlib.Core.Path.{◌≡◌, refl}
use mathlib.Core.List.{List, [], ◌∷◌}
use Prim.Native.Nat.{ℕ}
use Rattle.model.specs.Limits.{none}
use Rattle.model.specs.declared.answers.Verdict.TheVariants.{Accepted}
use Rattle.walk.specs.Fold.{times, from}
use Rattle.report.specs.Text.{spelled, decimal, dashed, line, head_of, line_of, lines_of, text_of}

-- "accepted 1", "0 0", "1 2" and "2 -", each with its newline
abbrev four_lines : List ℕ
four_lines =
    97 ∷ 99 ∷ 99 ∷ 101 ∷ 112 ∷ 116 ∷ 101 ∷ 100 ∷ 32 ∷ 49 ∷ 10
    ∷ 48 ∷ 32 ∷ 48 ∷ 10
    ∷ 49 ∷ 32 ∷ 50 ∷ 10
    ∷ 50 ∷ 32 ∷ 45 ∷ 10
    ∷ []

pub printed : text_of (Accepted 1) (0 ∷ 2 ∷ none ∷ []) ≡ four_lines
unfolding spelled decimal dashed line head_of line_of lines_of text_of from times
printed = refl
