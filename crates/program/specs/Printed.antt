-- What is printed for a file that is read into lent tables: over-long input first, then the reader's refusals, then the check.
use Rattle.std.specs.Prelude.{ℕ, cond, List, [], ◌∷◌, ◌++◌, ltb, length, take, drop, replicate}
use Rattle.model.specs.declared.answers.Verdict.{Verdict}
use Rattle.model.specs.declared.answers.Verdict.TheVariants.{Refused as Refuses}
use Rattle.model.specs.Refusals.{choice_count}
use Rattle.model.specs.Tables.{Model, Claim}
use Rattle.model.specs.Checked.{refusal_of, answer_of, choices_of}
use Rattle.certfile.specs.declared.Header.{Header}
use Rattle.certfile.specs.Outcome.{Outcome, Read, Refused}
use Rattle.certfile.specs.File.{outcome_of, table_of}
use Rattle.certfile.specs.Tables.{Tables, tables}
use Rattle.certfile.specs.Contents.{table_in, model_in, claim_in}
use Rattle.report.specs.Text.{text_of}

-- the check program's room for 500 states, 1,000 actions and 2,000 branches: the lengths of tables 1 to 8, and the choice list
abbrev pub room : List ℕ
room = 500 ∷ 501 ∷ 1001 ∷ 2000 ∷ 2000 ∷ 500 ∷ 500 ∷ 500 ∷ []

abbrev pub blank : List ℕ
blank = replicate 500 0

-- the most bytes that this room can need, and the most that any file can have
abbrev pub most_bytes : ℕ
most_bytes = 30534

abbrev pub most_file : ℕ
most_file = 8820034

-- what reading answers: input longer than the most that is taken is refused 33 at 0 before all else
unfoldable pub loaded_of : ℕ → List ℕ → List ℕ → Outcome
unfolding outcome_of
loaded_of most lent file = cond (ltb most (length file)) (Refused 33 0) (outcome_of lent file)

-- the entries of the choice list that a file's claim has
abbrev pub chosen_in : Header → ℕ
chosen_in h = choice_count h.kind h.n

-- the refusal over what the reader answers, or a pass; the choice list aside
unfoldable pub refusal_in : Outcome → List ℕ → Verdict
unfolding refusal_of table_in
refusal_in (Read h) file = refusal_of h.kind (model_in h file) (claim_in h file) (chosen_in h)
refusal_in (Refused number place) file = Refuses number place

-- the verdict over it
unfoldable pub verdict_in : Outcome → List ℕ → List ℕ → Verdict
unfolding answer_of table_in
verdict_in (Read h) file choices = (answer_of h.kind (model_in h file) (claim_in h file) (take (chosen_in h) choices)).verdict
verdict_in (Refused number place) file choices = Refuses number place

-- what is printed for a refusal, and for tables that are checked
unfoldable pub refused_text : ℕ → ℕ → List ℕ
unfolding text_of
refused_text number place = text_of (Refuses number place) []

unfoldable pub checked_text : ℕ → Model → Claim → List ℕ → List ℕ
unfolding text_of answer_of choices_of
checked_text kind t u choices = text_of (answer_of kind t u choices).verdict (choices_of kind t u choices)

-- for what the reader answers
unfoldable pub read_text : Outcome → List ℕ → List ℕ → List ℕ
unfolding refused_text checked_text table_in
read_text (Read h) file choices = checked_text h.kind (model_in h file) (claim_in h file) (take (chosen_in h) choices)
read_text (Refused number place) file choices = refused_text number place

-- the lent choice list afterwards: the check has its first entries, as many as the claim has
unfoldable pub choices_in : Outcome → List ℕ → List ℕ → List ℕ
unfolding choices_of table_in
choices_in (Read h) file choices =
    choices_of h.kind (model_in h file) (claim_in h file) (take (chosen_in h) choices) ++ drop (chosen_in h) choices
choices_in (Refused number place) file choices = choices

-- the lent tables afterwards
abbrev pub filled_by : Outcome → List ℕ → Tables → Tables
filled_by o file t =
    tables
    (table_of o 1 file t.marks)
    (table_of o 2 file t.action_starts)
    (table_of o 3 file t.branch_starts)
    (table_of o 4 file t.destinations)
    (table_of o 5 file t.weights)
    (table_of o 6 file t.costs)
    (table_of o 7 file t.claims)
    (table_of o 8 file t.ranks)

-- and what the check program prints for a file
unfoldable pub printed_of : List ℕ → List ℕ
unfolding read_text loaded_of
printed_of file = read_text (loaded_of most_bytes room file) file blank
