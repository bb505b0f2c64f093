-- A file that was read, and what is printed for it. Assumes nothing.
use mathlib.Core.Path.{◌≡◌, refl, sym, ap, subst, ◌∙◌}
use mathlib.Core.Bool.{Bool, false, cond}
use mathlib.Core.List.{List, [], ◌++◌}
use mathlib.Core.Logic.{⊎_elim}
use Prim.Native.Nat.{ℕ, ◌≤◌, ◌<◌}
use native.Mathlib.Omega.{arith}
use lib.Dec.{leb}
use lib.ListN.{length, take, drop}
use borrow.Author.Tests.{leb-true, lt-ltb, le-ltb}
use Rattle.std.proofs.lemmas.Bool.{leb-false}
use Rattle.walk.proofs.Fold.{at_end}
use Rattle.model.specs.declared.answers.Answer.{Answer}
use Rattle.model.specs.declared.answers.Fault.{Fault}
use Rattle.model.specs.declared.answers.Verdict.{Verdict}
use Rattle.model.specs.declared.answers.Verdict.TheVariants.{Refused as Refuses}
use Rattle.model.specs.Answers.{code, given, pass, number, then, require}
use Rattle.model.specs.Checked.{refusal_of, choices_of}
use Rattle.model.specs.Kinds.{kind_of}
use Rattle.model.specs.Tables.{Model, Claim, model_of, claim_of}
use Rattle.soundness.specs.Demand3.{Holds}
use Rattle.checker.specs.Promise.{Checked}
use Rattle.certfile.specs.declared.Header.{Header}
use Rattle.certfile.specs.Outcome.{Outcome, Read, Refused}
use Rattle.certfile.specs.File.{outcome_of, table_of}
use Rattle.certfile.specs.Tables.{Tables, tables, lent, Roomy, ReadInto}
use Rattle.certfile.specs.Contents.{model_in, claim_in, model_cut, claim_cut}
use Rattle.certfile.proofs.Contents.{cut_read}
use Rattle.certfile.proofs.Judged.{right_passed, wrong_refused}
use Rattle.certfile.proofs.Passed.{has_room}
use Rattle.report.specs.Text.{text_of}
use Rattle.program.specs.declared.Told.{Told}
use Rattle.program.specs.Printed.{loaded_of, refusal_in, verdict_in, read_text, refused_text, checked_text, choices_in, chosen_in, filled_by}
use Rattle.program.specs.Shows.{Shows, Unprinted, Answered}

-- a file was read into lent tables, if it is no longer than the most that is taken
pub record LoadedInto (most : ℕ) (r : Outcome) (file : List ℕ) (before after : Tables) : Type 0 where
  pub answer : r ≡ loaded_of most (lent before) file
  pub tables : after ≡ filled_by r file before

-- over-long input is refused before all else, and any other is read
pub too_long : (most : ℕ) (file : List ℕ) (t : Tables) → most < length file → LoadedInto most (Refused 33 0) file t t
unfolding loaded_of table_of
too_long most file t h = record { answer = rw (lt-ltb most (length file) h); tables = refl }

pub not_too_long : (most : ℕ) (file : List ℕ) (t u : Tables) (o : Outcome) → length file ≤ most → ReadInto o file t u → LoadedInto most o file t u
unfolding loaded_of
not_too_long most file t u o h w =
    record {
      answer = rw (le-ltb most (length file) h) w.answer;
      tables = λ j. tables (w.marks j) (w.action_starts j) (w.branch_starts j) (w.destinations j) (w.weights j) (w.costs j) (w.claims j) (w.ranks j);
    }

-- the answer alone, over the lengths that are lent
module _ (most : ℕ) (file l : List ℕ) where
  abbrev by_length : Bool → Outcome
  by_length long = cond long (Refused 33 0) (outcome_of l file)

  refused_first : most < length file → loaded_of most l file ≡ Refused 33 0
  unfolding loaded_of
  refused_first h = ap by_length (lt-ltb most (length file) h)

  passes_on : length file ≤ most → loaded_of most l file ≡ outcome_of l file
  unfolding loaded_of
  passes_on h = ap by_length (le-ltb most (length file) h)

  -- so too by the test that is passed or refused
  pub long_refused : (f : Fault) → given f ≡ require (leb (length file) most) 33 0 → Refused (code f.refusal) f.place ≡ loaded_of most l file
  long_refused f e =
      let w = wrong_refused (leb (length file) most) 33 f e in
      rw (w.1.0, w.1.1) (sym (refused_first (leb-false (length file) most w.0)))

  pub rest_read : pass ≡ require (leb (length file) most) 33 0 → loaded_of most l file ≡ outcome_of l file
  rest_read e = passes_on (leb-true (length file) most (right_passed (leb (length file) most) 33 e))

  -- tables that a file was read into had room for it
  pub had_room : (h : Header) → Read h ≡ loaded_of most l file → Roomy h l
  had_room h e = ⊎_elim (λ fits. has_room l file h (sym (e ∙ passes_on fits))) (λ long. absurd (apart (e ∙ refused_first long))) (at_end most (length file))
    where
      apart : Read h ≡ Refused 33 0 → ⊥
      apart q = let z : ◌≡◌ {A = ℕ} 0 1 = cc in omega arith

-- in one name
pub ruleset taking = (long_refused, rest_read)

-- tables that were filled, for what reading answered
module _ (h : Header) (file : List ℕ) (t u : Tables) (w : u ≡ filled_by (Read h) file t) (o : Outcome) (e : Read h ≡ o) where
  model_read : model_cut h u ≡ model_in h file
  model_read =
      ap (model_cut h) w
      ∙ (λ j. model_of h.d (cut_read h 1 file t.marks j) (cut_read h 2 file t.action_starts j) (cut_read h 3 file t.branch_starts j)
      (cut_read h 4 file t.destinations j) (cut_read h 5 file t.weights j))

  claim_read : claim_cut h u ≡ claim_in h file
  claim_read =
      ap (claim_cut h) w ∙ (λ j. claim_of h.c (cut_read h 6 file t.costs j) (cut_read h 7 file t.claims j) (cut_read h 8 file t.ranks j))

  -- the number of a refusal over them, or 5
  pub number_read : (v v' : Verdict) (r : ℕ) → v ≡ refusal_of h.kind (model_cut h u) (claim_cut h u) (chosen_in h) → v' ≡ then v (require false 5 0)
      → r ≡ number v'
      → Unprinted o file t r u
  unfolding require refusal_in
  number_read v v' r p q z =
      subst (λ (x : Outcome). Unprinted x file t r u) e
      (record { number = z ∙ ap number q ∙ rw (p, model_read, claim_read) refl; tables = w })

  -- the check has the first entries of the lent list, and its verdict was printed
  module _ (list first text text' : List ℕ) (a : Answer) (r : Told) where
    abbrev Promised : Outcome → Model → Claim → ℕ → Type 0
    Promised x m c k =
        Checked h.kind m c (take k list) a first
        → take k (first ++ drop k list) ≡ first
        → r.number ≡ number a.verdict
        → Shows (text_of a.verdict (take k (first ++ drop k list))) r.bytes text text'
        → Answered x file t list text r u (first ++ drop k list) text'

    whole : Promised (Read h) (model_in h file) (claim_in h file) (chosen_in h)
    unfolding verdict_in read_text checked_text choices_in
    whole v p n s =
        let shown = choices_of h.kind (model_in h file) (claim_in h file) (take (chosen_in h) list) in
        let told = ap (λ (x : Answer). text_of x.verdict shown) v.answer in
        record {
          number = n ∙ ap (λ (x : Answer). number x.verdict) v.answer;
          shows = subst (λ (l : List ℕ). Shows l r.bytes text text') (ap (text_of a.verdict) (p ∙ v.choices) ∙ told) s;
          tables = w;
          choices = ap (λ (l : List ℕ). l ++ drop (chosen_in h) list) v.choices;
          sound = λ g R same q.
              subst (λ (x : Header). Holds (kind_of x.kind) (model_in x file) (claim_in x file) R (take (chosen_in x) (first ++ drop (chosen_in h) list)))
              (headers same) (rw p (v.sound R (ap (λ (x : Answer). x.verdict) v.answer ∙ q)));
        }
      where
        headers : {x y : Header} → Read x ≡ Read y → x ≡ y
        headers s = cc

    pub printed_read : (m : Model) (c : Claim) (chosen : ℕ) → m ≡ model_cut h u → c ≡ claim_cut h u → chosen ≡ chosen_in h → Promised o m c chosen
    printed_read m c chosen p q f =
        subst (λ (x : Model). Promised o x c chosen) (sym (p ∙ model_read))
        (subst (λ (x : Claim). Promised o (model_in h file) x chosen) (sym (q ∙ claim_read))
        (subst (λ (k : ℕ). Promised o (model_in h file) (claim_in h file) k) (sym f)
        (subst (λ (x : Outcome). Promised x (model_in h file) (claim_in h file) (chosen_in h)) e whole)))

-- so too where it was refused
module _ (k p : ℕ) (file : List ℕ) (t u : Tables) (w : u ≡ filled_by (Refused k p) file t) (o : Outcome) (e : Refused k p ≡ o) where
  pub number_refused : (r : ℕ) → r ≡ k → Unprinted o file t r u
  unfolding refusal_in then
  number_refused r n = subst (λ (x : Outcome). Unprinted x file t r u) e (record { number = n; tables = w })

  pub printed_refused : (list text : List ℕ) (r : Told) (text' : List ℕ) → r.number ≡ k → Shows (text_of (Refuses k p) []) r.bytes text text'
      → Answered o file t list text r u list text'
  unfolding verdict_in read_text refused_text choices_in
  printed_refused list text r text' n s = subst (λ (x : Outcome). Answered x file t list text r u list text') e whole
    where
      whole : Answered (Refused k p) file t list text r u list text'
      whole = record {
        number = n;
        shows = s;
        tables = w;
        choices = refl;
        sound = λ h R same q.
            let z : ◌≡◌ {A = ℕ} 0 1 = cc in absurd (omega arith);
      }
