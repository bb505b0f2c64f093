-- What comes back: a verdict, its number and values in document 01, and tests tried in order.
use Rattle.std.specs.Prelude.{ℕ, Bool, true, cond, not, ◌&&◌, List, [], ◌∷◌, Option, None, Some, Result, Ok, Err, leb}
use Rattle.walk.specs.Fold.{from, first, any}
use Rattle.model.specs.Limits.{none}
use Rattle.model.specs.declared.answers.Refusal.{Refusal}
use Rattle.model.specs.declared.answers.Refusal.TheVariants.{Kind, WeightScale, ClaimScale, States, Length, ActionStarts, BranchStarts}
use Rattle.model.specs.declared.answers.Refusal.TheVariants.{Mark, Destination, Weight, Total, Cost, Claim, Rank}
use Rattle.model.specs.declared.answers.Refusal.TheVariants.{LengthField, Version, Counts, FileLength, Buffer}
use Rattle.model.specs.declared.answers.Fault.{Fault}
use Rattle.model.specs.declared.answers.Condition.{Condition}
use Rattle.model.specs.declared.answers.Condition.TheVariants.{Target, Suits, Ranked, Falls}
use Rattle.model.specs.declared.answers.Violation.{Violation}
use Rattle.model.specs.declared.answers.Verdict.{Verdict}
use Rattle.model.specs.declared.answers.Verdict.TheVariants.{Accepted, Refused, Violated}

-- document 01's number of a refusal
abbrev pub code : Refusal → ℕ
code Kind = 1
code WeightScale = 2
code ClaimScale = 3
code States = 4
code Length = 5
code ActionStarts = 6
code BranchStarts = 7
code Mark = 8
code Destination = 9
code Weight = 10
code Total = 11
code Cost = 12
code Claim = 13
code Rank = 14
code LengthField = 31
code Version = 32
code Counts = 33
code FileLength = 34
code Buffer = 35

-- document 01's number of a condition
abbrev pub asked : Condition → ℕ
asked Target = 21
asked Suits = 22
asked Ranked = 23
asked Falls = 24

-- the verdict of a refusal, and of a violation
abbrev pub given : Fault → Verdict
given f = Refused (code f.refusal) f.place

abbrev pub broken : Violation → Verdict
broken x = Violated (asked x.condition) x.state x.action

-- document 01's number of a verdict
abbrev pub number : Verdict → ℕ
number (Accepted r) = 0
number (Refused k p) = k
number (Violated k s a) = k

-- the values beside the number: R, the place or the state, and then the action, or none
abbrev pub value : Verdict → ℕ
value (Accepted r) = r
value (Refused k p) = p
value (Violated k s a) = s

abbrev pub action : Verdict → ℕ
action (Accepted r) = none
action (Refused k p) = none
action (Violated k s a) = a

-- 21 to 24 are conditions, 0 is acceptance, and every other number is a refusal
abbrev pub is_condition : ℕ → Bool
is_condition k = leb 21 k && leb k 24

-- a verdict that can come back: its number is one of its case
abbrev pub proper : Verdict → Bool
proper (Accepted r) = true
proper (Refused k p) = leb 1 k && not (is_condition k)
proper (Violated k s a) = is_condition k

-- nothing is found wrong
abbrev pub pass : Verdict
pass = Accepted 0

-- what the tests say that answer a refusal or, with whatever else, that there is none
abbrev pub tested : {A : Type 0} → Result A Fault → Verdict
tested (Ok x) = pass
tested (Err f) = given f

-- the same of what answers a violation, and of the whole judgement, which answers R
abbrev pub held : {A : Type 0} → Result A Violation → Verdict
held (Ok x) = pass
held (Err x) = broken x

abbrev pub judged_as : Result ℕ Violation → Verdict
judged_as (Ok r) = Accepted r
judged_as (Err x) = broken x

-- what the first says, unless it accepts: then what the second says
unfoldable pub then : Verdict → Verdict → Verdict
then (Accepted r) v = v
then (Refused k p) v = Refused k p
then (Violated k s a) v = Violated k s a

-- tests tried in order: what the first that does not pass says, or the last word
unfoldable pub tried : List Verdict → Verdict → Verdict
unfolding then
tried [] v = v
tried (t ∷ ts) v = then t (tried ts v)

-- a test at each index from lo up to, not with, hi, tried in order, and then the last word
unfoldable pub each : (ℕ → Verdict) → ℕ → ℕ → Verdict → Verdict
unfolding from then
each test lo hi v = from (λ i rest. then (test i) rest) v lo hi

-- refused with this number at this place, unless it is right
unfoldable pub require : Bool → ℕ → ℕ → Verdict
require right k place = cond right pass (Refused k place)

-- refused with this number at the place where something wrong was found, if any
unfoldable pub found : ℕ → Option ℕ → Verdict
found k None = pass
found k (Some i) = Refused k i

-- refused with this number at the lowest index below n at which the test fails
unfoldable pub throughout : (ℕ → Bool) → ℕ → ℕ → Verdict
unfolding require first
throughout right n k = require (not (any (λ i. not (right i)) 0 n)) k (first (λ i. not (right i)) 0 n)
