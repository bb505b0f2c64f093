-- The whole check, put together from its parts. Assumes nothing.
use mathlib.Core.Path.{◌≡◌, refl, sym, ap, subst, fun_ext, ◌∙◌}
use mathlib.Core.Bool.{Bool, true, false, cond, not, ◌&&◌}
use mathlib.Core.List.{List, [], ◌∷◌, ◌++◌}
use Prim.Native.Nat.{ℕ, ◌<◌, ◌^◌, zero-le}
use native.Mathlib.Nat.{le_refl}
use native.Mathlib.Omega.{arith}
use lib.Dec.{T}
use lib.ListN.{length, take, drop}
use lib.Seq.{take_at}
use Rattle.walk.specs.Fold.{listed}
use Rattle.walk.proofs.Bools.{is_true, holds}
use Rattle.walk.proofs.Fold.{lowest_is, listed_length}
use Rattle.model.specs.declared.answers.Verdict.{Verdict}
use Rattle.model.specs.declared.answers.Verdict.TheVariants.{Accepted, Refused}
use Rattle.model.specs.declared.answers.Answer.{Answer}
use Rattle.model.specs.declared.kinds.Kind.{Kind}
use Rattle.model.specs.declared.answers.Fault.{Fault}
use Rattle.model.specs.declared.answers.Violation.{Violation}
use Rattle.std.specs.Prelude.{Ok, Err}
use Rattle.model.specs.Kinds.{is_some, is_kind, kind_of, known_as, Columns}
use Rattle.model.specs.Tables.{Model, Claim, states}
use Rattle.model.specs.Answers.{pass, given, broken as violated, then, tried, require}
use Rattle.model.specs.Refusals.{entries, lengths_of, kind_test, sizes_of, size_tests, tests}
use Rattle.model.specs.WellFormed.{Sized, WellFormed}
use Rattle.model.specs.Conditions.{judged}
use Rattle.model.specs.Checked.{accepts, greatest_rank, conditions, verdict_of, refusal_of, answer_of, choice, chosen_of, choices_of}
use Rattle.model.proofs.Tried.{tried_all, then_passed, then_stopped, then_assoc, each_all}
use Rattle.model.proofs.Searched.{ok_goes, err_stops}
use Rattle.model.proofs.Formed.{entries_most, sized, formed}
use Rattle.model.proofs.KnownKinds.{named, unnamed}
use Rattle.rows.specs.Fitting.{Fitting}
use Rattle.conditions.specs.Ready.{Ready}
use Rattle.conditions.specs.Judging.{picked, broken, room_of}
use Rattle.soundness.proofs.Demand3.{demand3}
use Rattle.checker.specs.Promise.{Checked}

-- the last word is asked for where the tests pass
tried_then : (xs : List Verdict) (v : Verdict) → tried xs v ≡ then (tried xs pass) v
unfolding tried then
tried_then [] v = refl
tried_then (x ∷ xs) v = ap (then x) (tried_then xs v) ∙ sym (then_assoc x (tried xs pass) v)

-- what follows where refusals 2 to 5 let pass
module _ (k : Kind) (t : Model) (u : Claim) (chosen : ℕ) (e : pass ≡ tried (sizes_of k t.d u.c (lengths_of t u chosen)) pass) where
  sizes_right : Sized k t u chosen
  unfolding size_tests
  sizes_right = sized k t u chosen (tried_all (size_tests k t u chosen) pass (ok_goes e))

  pub fitting : Fitting t
  fitting =
      let s = sizes_right in
      record {
        n_most = s.n_most;
        table2 = s.table2;
        table3_least = s.table3_least;
        table3_most = s.table3_most;
        table4 = s.table4;
        table5 = s.table5;
      }

  -- the tables of the claim are as short as the model's states are few
  pub costs_short : length u.costs < 2 ^ 32
  costs_short = let s = sizes_right in omega (arith, s.table6, entries_most k.costs (states t), s.n_most)

  pub claims_short : length u.claims < 2 ^ 32
  claims_short = let s = sizes_right in omega (arith, s.table7, s.n_most)

  pub ranks_short : length u.ranks < 2 ^ 32
  ranks_short = let s = sizes_right in omega (arith, s.table8, entries_most k.ranks (states t), s.n_most)

module _ (k : Kind) (t : Model) (u : Claim) (choices : List ℕ) where
  -- refusals 2 to 14
  abbrev refusal : Verdict
  refusal = tried (tests k t u (length choices)) pass

  split : verdict_of k t u choices ≡ then refusal (conditions k t u)
  unfolding verdict_of
  split = tried_then (tests k t u (length choices)) (conditions k t u)

  -- the verdict, by whether a refusal stands
  pub refused : (f : Fault) → given f ≡ refusal → verdict_of k t u choices ≡ given f
  refused f e = split ∙ then_stopped refusal (conditions k t u) (err_stops f e) ∙ sym e

  pub judged_on : pass ≡ refusal → verdict_of k t u choices ≡ conditions k t u
  judged_on e = split ∙ then_passed refusal (conditions k t u) (ok_goes e)

  well : pass ≡ refusal → WellFormed k t u (length choices)
  well e = formed k t u (length choices) (tried_all (tests k t u (length choices)) pass (ok_goes e))

  pub choices_long : pass ≡ refusal → length choices ≡ entries k.choices (states t)
  choices_long e = (well e).sized.table9

  pub ready : Columns k → pass ≡ refusal → Ready k t u
  ready col e = record { columns = col; formed = subst (WellFormed k t u) (choices_long e) (well e) }

  -- the choice list, by the verdict
  pub unchosen : (v : Verdict) → accepts v ≡ false → choices ≡ chosen_of k t u choices v
  unfolding chosen_of
  unchosen v h = rw h

  pub kept_choices : (v : Verdict) (x : Violation) → violated x ≡ v → chosen_of k t u choices v ≡ choices
  kept_choices v x e = sym (unchosen v (sym (ap accepts e)))

  pub kept_refused : (v : Verdict) (f : Fault) → given f ≡ v → chosen_of k t u choices v ≡ choices
  kept_refused v f e = sym (unchosen v (sym (ap accepts e)))

  all_met : T (accepts (conditions k t u)) → broken k t u ≡ states t
  unfolding conditions broken
  all_met h =
      lowest_is (λ s. not (accepts (judged k t u s))) (states t) 0 (states t) zero-le
      (record {
        low = zero-le;
        high = le_refl (states t);
        hit = λ q. absurd (omega arith);
        passed = λ s l q. rw (is_true (accepts (judged k t u s)) (each_all (judged k t u) (states t) (Accepted (greatest_rank u.ranks)) 0 h s l q));
      })

  picks : is_some k.who ≡ true → listed (picked k t u) 0 (states t) ≡ listed (choice k t u) 0 (states t)
  unfolding picked
  picks e = ap (λ (f : ℕ → ℕ). listed f 0 (states t)) (fun_ext (λ s. rw e))

  empty : (xs ys : List ℕ) → length xs ≡ 0 → take (length xs) ys ≡ xs
  empty [] ys e = refl
  empty (x ∷ xs) ys e = absurd (omega arith)

  room_is : (room : List ℕ) → room_of k t u room ≡ listed (picked k t u) 0 (broken k t u) ++ drop (broken k t u) room
  unfolding room_of
  room_is room = refl

  chosen_is : (v : Verdict) → chosen_of k t u choices v ≡ cond (accepts v && k.choices) (listed (choice k t u) 0 (states t)) choices
  unfolding chosen_of
  chosen_is v = refl

  pub copied : Columns k → length choices ≡ entries k.choices (states t) → (r : ℕ) → Accepted r ≡ conditions k t u → (room : List ℕ)
      → chosen_of k t u choices (conditions k t u) ≡ take (length choices) (room_of k t u room)
  copied col e r a room =
      let h = holds (sym (ap accepts a)) in
      sym (rw (room_is room, chosen_is (conditions k t u), all_met h, is_true (accepts (conditions k t u)) h) (by k.choices refl))
    where
      by : (b : Bool) → k.choices ≡ b → take (length choices) (listed (picked k t u) 0 (states t) ++ drop (states t) room)
          ≡ cond (true && b) (listed (choice k t u) 0 (states t)) choices
      by true q =
          let long : length choices ≡ states t = e ∙ ap (λ (b : Bool). entries b (states t)) q in
          rw long
          (take_at (listed (picked k t u) 0 (states t)) (drop (states t) room) (states t) (listed_length (picked k t u) (states t) 0 ∙ omega arith)
          ∙ picks (sym col.choices ∙ q))
      by false q = empty choices _ (e ∙ ap (λ (b : Bool). entries b (states t)) q)

-- what the check of a kind takes, in one name
pub ruleset by_refusal = (refused, judged_on, choices_long, ready, kept_refused)

-- what is equal to the definition keeps the promise, demand 3 with it
pub promise : (kind : ℕ) (t : Model) (u : Claim) (before : List ℕ) (r : Answer) (after : List ℕ)
    → r ≡ answer_of kind t u before → after ≡ choices_of kind t u before → Checked kind t u before r after
promise kind t u before r after e f =
    record {
      answer = e;
      choices = f;
      sound = λ R h. rw f (demand3 kind t u before R (sym (ap (λ (x : Answer). x.verdict) e) ∙ h));
    }

module _ (kind : ℕ) (t : Model) (u : Claim) (before after : List ℕ) where
  verdict_is : is_kind kind ≡ true → then (kind_test kind) (verdict_of (kind_of kind) t u before) ≡ verdict_of (kind_of kind) t u before
  unfolding then kind_test require
  verdict_is i = rw i

  verdict_none : is_kind kind ≡ false → then (kind_test kind) (verdict_of (kind_of kind) t u before) ≡ Refused 1 0
  unfolding then kind_test require
  verdict_none i = rw i

  answers : (v : Verdict) → v ≡ then (kind_test kind) (verdict_of (kind_of kind) t u before) → record { kind = kind; verdict = v } ≡ answer_of kind t u before
  unfolding answer_of
  answers v p = λ j. record { kind = kind; verdict = p j }

  chooses : (v : Verdict) → v ≡ then (kind_test kind) (verdict_of (kind_of kind) t u before)
      → chosen_of (kind_of kind) t u before v ≡ choices_of kind t u before
  unfolding choices_of answer_of
  chooses v p = ap (chosen_of (kind_of kind) t u before) p

  pub known_kept : (k : Kind) → Ok k ≡ known_as kind → (v : Verdict) → v ≡ verdict_of k t u before → after ≡ chosen_of k t u before (verdict_of k t u before)
      → Checked kind t u before (record { kind = kind; verdict = v }) after
  known_kept k e v p q =
      let n = named kind k (sym e) in
      let f = sym (verdict_is n.0) in
      promise kind t u before _ after (answers v (p ∙ ap (λ (x : Kind). verdict_of x t u before) (sym n.1) ∙ f))
      (q ∙ ap (λ (x : Kind). chosen_of x t u before (verdict_of x t u before)) (sym n.1) ∙ chooses (verdict_of (kind_of kind) t u before) f)

  pub unknown_kept : (f : Fault) → Err f ≡ known_as kind → (v : Verdict) → v ≡ given f → after ≡ before
      → Checked kind t u before (record { kind = kind; verdict = v }) after
  unknown_kept f e v p q =
      let n = unnamed kind f (sym e) in
      let w : v ≡ Refused 1 0 = p ∙ ap given n.1 in
      let g = sym (verdict_none n.0) in
      promise kind t u before _ after (answers v (w ∙ g)) (q ∙ unchosen (kind_of kind) t u before (Refused 1 0) refl ∙ chooses (Refused 1 0) g)

-- what a number that is a kind is refused with, and one that is not
module _ (kind : ℕ) (t : Model) (u : Claim) (chosen : ℕ) where
  pub known_refusal : (k : Kind) → Ok k ≡ known_as kind → refusal_of kind t u chosen ≡ tried (tests k t u chosen) pass
  unfolding refusal_of then kind_test require
  known_refusal k e = let n = named kind k (sym e) in rw n.0 (ap (λ (x : Kind). tried (tests x t u chosen) pass) n.1)

  pub unknown_refusal : (f : Fault) → Err f ≡ known_as kind → refusal_of kind t u chosen ≡ given f
  unfolding refusal_of then kind_test require
  unknown_refusal f e = let n = unnamed kind f (sym e) in rw (n.1, n.0)
