-- What the check program prints, byte by byte, as document 01 says under "The certificate file".
use Rattle.std.specs.Prelude.{ℕ, zero, suc, ◌+◌, ◌/◌, ◌%◌, cond, List, [], ◌∷◌, ◌++◌, ltb, eqb, length, get_or}
use Rattle.walk.specs.Fold.{from}
use Rattle.model.specs.Limits.{none}
use Rattle.model.specs.declared.answers.Verdict.{Verdict}
use Rattle.model.specs.declared.answers.Verdict.TheVariants.{Accepted, Refused, Violated}

-- the ASCII code of a digit
abbrev pub digit : ℕ → ℕ
digit d = 48 + d

-- the digits of n, the highest first and no zero in front; at most k steps go on to a higher digit
unfoldable pub spelled : ℕ → ℕ → List ℕ
spelled zero n = digit (n % 10) ∷ []
spelled (suc k) n = cond (ltb n 10) (digit (n % 10) ∷ []) (spelled k (n / 10) ++ (digit (n % 10) ∷ []))

-- a number has fewer digits than it counts, or one
unfoldable pub decimal : ℕ → List ℕ
unfolding spelled
decimal n = spelled n n

-- an action, or a dash for none
unfoldable pub dashed : ℕ → List ℕ
unfolding decimal
dashed a = cond (eqb a none) (45 ∷ []) (decimal a)

-- a blank, and then a word
abbrev pub field : List ℕ → List ℕ
field word = 32 ∷ word

-- words with a blank between them, and a newline at the end
abbrev pub rest : List (List ℕ) → List ℕ
rest [] = 10 ∷ []
rest (word ∷ words) = field word ++ rest words

unfoldable pub line : List ℕ → List (List ℕ) → List ℕ
line word words = word ++ rest words

-- "accepted", "refused" and "violated"
abbrev pub accepted : List ℕ
accepted = 97 ∷ 99 ∷ 99 ∷ 101 ∷ 112 ∷ 116 ∷ 101 ∷ 100 ∷ []

abbrev pub refused : List ℕ
refused = 114 ∷ 101 ∷ 102 ∷ 117 ∷ 115 ∷ 101 ∷ 100 ∷ []

abbrev pub violated : List ℕ
violated = 118 ∷ 105 ∷ 111 ∷ 108 ∷ 97 ∷ 116 ∷ 101 ∷ 100 ∷ []

-- the line of a verdict
unfoldable pub head_of : Verdict → List ℕ
unfolding line decimal dashed
head_of (Accepted r) = line accepted (decimal r ∷ [])
head_of (Refused k p) = line refused (decimal k ∷ decimal p ∷ [])
head_of (Violated k s a) = line violated (decimal k ∷ decimal s ∷ dashed a ∷ [])

-- the line of a state and its choice, and the lines of a choice list
unfoldable pub line_of : ℕ → ℕ → List ℕ
unfolding line decimal dashed
line_of s a = line (decimal s) (dashed a ∷ [])

unfoldable pub lines_of : List ℕ → List ℕ
unfolding from line_of
lines_of choices = from (λ s after. line_of s (get_or choices s 0) ++ after) [] 0 (length choices)

-- all that is printed: after acceptance the choices follow
unfoldable pub text_of : Verdict → List ℕ → List ℕ
unfolding head_of lines_of
text_of (Accepted r) choices = head_of (Accepted r) ++ lines_of choices
text_of (Refused k p) choices = head_of (Refused k p)
text_of (Violated k s a) choices = head_of (Violated k s a)
