-- The verdict of the whole check, tied to well-formed tables and met conditions, once over the kind. Assumes nothing.
use mathlib.Core.Path.{◌≡◌, refl, sym, ap, subst, ◌∙◌}
use mathlib.Core.Bool.{Bool, true, false, ◌&&◌}
use mathlib.Core.List.{List, ◌∷◌}
use mathlib.Core.Logic.{◌⊎◌, inl, inr, ⊎_elim}
use Prim.Native.Nat.{ℕ, ◌≤◌, ◌<◌, zero-le}
use Rattle.walk.specs.Fold.{listed}
use Rattle.walk.proofs.Bools.{and_right}
use Rattle.walk.proofs.Fold.{le_greatest, greatest_is}
use lib.Dec.{T, eqb, eqb→eq}
use lib.ListN.{length}
use borrow.Author.Tests.{ne_eqb}
use Rattle.model.specs.declared.answers.Verdict.TheVariants.{Accepted, Refused, Violated}
use Rattle.model.specs.declared.kinds.Kind.{Kind}
use Rattle.model.specs.Limits.{none}
use Rattle.model.specs.Kinds.{is_some, kind_of, is_kind}
use Rattle.model.specs.Tables.{Model, Claim, states, rank}
use Rattle.model.specs.Answers.{then, tried, is_condition}
use Rattle.model.specs.Refusals.{kind_test, tests}
use Rattle.model.specs.Conditions.{judged}
use Rattle.model.specs.Checked.{accepts, rank_or_zero, greatest_rank, conditions, verdict_of, answer_of, choice, choices_of}
use Rattle.model.specs.WellFormed.{WellFormed}
use Rattle.model.specs.Meets.{Meets}
use Rattle.model.proofs.Tried.{AllPass, then_passed, then_first, then_second, tried_passed, tried_all, tried_last, require_right}
use Rattle.model.proofs.Tried.{passes_require, each_all, all_each}
use Rattle.model.proofs.Found.{First, tried_first, first_tried, FirstAt, each_first, first_each, each_of_at}
use Rattle.model.proofs.Columns.{columns}
use Rattle.model.proofs.Numbers.{refuses, violates, kind_refuses, tests_refuse, judged_violates, conditions_violate}
use Rattle.model.proofs.Formed.{formed, of_formed}
use Rattle.model.proofs.Kept.{not_none, met, of_met}

-- what acceptance with R rests on: the kind is one, the tables are well formed, every state meets its conditions
pub record Deserved (kind : ℕ) (t : Model) (u : Claim) (choices : List ℕ) (R : ℕ) : Type 0 where
  pub known : T (is_kind kind)
  pub formed : WellFormed (kind_of kind) t u (length choices)
  pub meets : (s : ℕ) → s < states t → Meets (kind_of kind) t u s
  pub greatest : R ≡ greatest_rank u.ranks

-- what a violation of x at state s rests on: all states before s meet their conditions, and s breaks x
pub record Broken (kind : ℕ) (t : Model) (u : Claim) (choices : List ℕ) (x s a : ℕ) : Type 0 where
  pub known : T (is_kind kind)
  pub formed : WellFormed (kind_of kind) t u (length choices)
  pub state : s < states t
  pub before : (i : ℕ) → i < s → Meets (kind_of kind) t u i
  pub broken : judged (kind_of kind) t u s ≡ Violated x s a

module _ (kind : ℕ) (t : Model) (u : Claim) (choices : List ℕ) where
  -- accepted exactly when the tables are well formed and every state meets its conditions
  pub accepted : (R : ℕ) → (answer_of kind t u choices).verdict ≡ Accepted R → Deserved kind t u choices R
  unfolding answer_of verdict_of conditions kind_test
  accepted R e =
      let k = kind_of kind in
      let a : T (accepts (then (kind_test kind) (verdict_of k t u choices))) = rw e tt in
      let v = then_second (kind_test kind) (verdict_of k t u choices) a in
      let c = tried_last (tests k t u (length choices)) (conditions k t u) v in
      let m : (s : ℕ) → 0 ≤ s → s < states t → T (accepts (judged k t u s)) = each_all (judged k t u) (states t) (Accepted (greatest_rank u.ranks)) 0 c in
      let r : Accepted R ≡ Accepted (greatest_rank u.ranks) =
      sym e ∙ then_passed (kind_test kind) (verdict_of k t u choices) (then_first (kind_test kind) (verdict_of k t u choices) a)
      ∙ tried_passed (tests k t u (length choices)) (conditions k t u) (tried_all (tests k t u (length choices)) (conditions k t u) v)
      ∙ all_each (judged k t u) (states t) (Accepted (greatest_rank u.ranks)) 0 m in
      record {
        known = require_right (is_kind kind) 1 0 (then_first (kind_test kind) (verdict_of k t u choices) a);
        formed = formed k t u (length choices) (tried_all (tests k t u (length choices)) (conditions k t u) v);
        meets = λ s l. met k t u s (m s zero-le l);
        greatest = (cc r);
      }

  pub of_accepted : (R : ℕ) → Deserved kind t u choices R → (answer_of kind t u choices).verdict ≡ Accepted R
  unfolding answer_of verdict_of conditions kind_test
  of_accepted R d =
      let k = kind_of kind in
      then_passed (kind_test kind) (verdict_of k t u choices) (passes_require (is_kind kind) 1 0 d.known)
      ∙ tried_passed (tests k t u (length choices)) (conditions k t u) (of_formed k t u (length choices) d.formed)
      ∙ all_each (judged k t u) (states t) (Accepted (greatest_rank u.ranks)) 0 (λ s z l. rw (of_met k t u s (d.meets s l)) tt)
      ∙ ap Accepted (sym d.greatest)

  -- no test of the tables is violated, and no condition is refused

  never_violated : (x s a : ℕ) → First (kind_test kind ∷ tests (kind_of kind) t u (length choices)) (Violated x s a) → ⊥
  unfolding refuses
  never_violated x s a f =
      rw f.said at
      (each_of_at (λ v. T (refuses v)) tt (kind_test kind ∷ tests (kind_of kind) t u (length choices))
      (kind_refuses kind, tests_refuse (kind_of kind) t u (length choices)) f.place)

  never_refused : (x p : ℕ) → conditions (kind_of kind) t u ≡ Refused x p → ⊥
  unfolding violates
  never_refused x p e = rw e at (conditions_violate (kind_of kind) t u)

  -- violated exactly when the tables are well formed and s is the first state that breaks a condition
  pub violated : (x s a : ℕ) → (answer_of kind t u choices).verdict ≡ Violated x s a → Broken kind t u choices x s a
  unfolding answer_of verdict_of conditions kind_test violates
  violated x s a e = ⊎_elim
      (λ f. absurd (never_violated x s a f))
      (λ q. at q.0 (each_first (judged k t u) (states t) (Accepted (greatest_rank u.ranks)) (Violated x s a) refl 0 q.1))
      (tried_first (kind_test kind ∷ tests k t u (length choices)) (conditions k t u) (Violated x s a) refl e)
    where
      k : Kind
      k = kind_of kind

      at : AllPass (kind_test kind ∷ tests k t u (length choices))
          → FirstAt (judged k t u) 0 (states t) (Violated x s a) ⊎ (Accepted (greatest_rank u.ranks) ≡ Violated x s a) → Broken kind t u choices x s a
      at all (inl f) =
          let v : T (is_condition x && eqb f.place s) = rw f.said at (judged_violates k t u f.place) in
          let p : f.place ≡ s = eqb→eq f.place s (and_right (is_condition x) (eqb f.place s) v) in
          record {
            known = require_right (is_kind kind) 1 0 all.0;
            formed = formed k t u (length choices) all.1;
            state = rw p at f.high;
            before = λ i l. met k t u i (f.before i zero-le (rw p l));
            broken = rw p at f.said;
          }
      at all (inr q) = absurd (subst (λ v. T (accepts v)) q tt)

  pub of_violated : (x s a : ℕ) → Broken kind t u choices x s a → (answer_of kind t u choices).verdict ≡ Violated x s a
  unfolding answer_of verdict_of conditions kind_test
  of_violated x s a b =
      let k = kind_of kind in
      then_passed (kind_test kind) (verdict_of k t u choices) (passes_require (is_kind kind) 1 0 b.known)
      ∙ tried_passed (tests k t u (length choices)) (conditions k t u) (of_formed k t u (length choices) b.formed)
      ∙ first_each (judged k t u) (states t) (Accepted (greatest_rank u.ranks)) (Violated x s a) refl 0
      (record { place = s; low = zero-le; high = b.state; said = b.broken; before = λ i z l. rw (of_met k t u i (b.before i l)) tt })

  -- refused exactly when that is what the first test that fails says, the kind's first
  pub refused : (x p : ℕ) → (answer_of kind t u choices).verdict ≡ Refused x p
      → First (kind_test kind ∷ tests (kind_of kind) t u (length choices)) (Refused x p)
  unfolding answer_of verdict_of tried
  refused x p e = ⊎_elim (λ f. f) (λ q. absurd (never_refused x p q.1))
      (tried_first (kind_test kind ∷ tests (kind_of kind) t u (length choices)) (conditions (kind_of kind) t u) (Refused x p) refl e)

  pub of_refused : (x p : ℕ) → First (kind_test kind ∷ tests (kind_of kind) t u (length choices)) (Refused x p)
      → (answer_of kind t u choices).verdict ≡ Refused x p
  unfolding answer_of verdict_of tried
  of_refused x p f = first_tried (kind_test kind ∷ tests (kind_of kind) t u (length choices)) (conditions (kind_of kind) t u) (Refused x p) refl f

-- the choice list at exit: the choices on acceptance of a kind for "some" strategy, and else as it was lent
module _ (kind : ℕ) (t : Model) (u : Claim) (choices : List ℕ) where
  pub written : (R : ℕ) → (answer_of kind t u choices).verdict ≡ Accepted R → is_some (kind_of kind).who ≡ true
      → choices_of kind t u choices ≡ listed (choice (kind_of kind) t u) 0 (states t)
  unfolding choices_of
  written R e w = rw (e, (columns kind).choices ∙ w)

  pub untouched : accepts (answer_of kind t u choices).verdict && is_some (kind_of kind).who ≡ false → choices_of kind t u choices ≡ choices
  unfolding choices_of
  untouched e = rw ((columns kind).choices, e)

-- R is one of the ranks that are not none, or 0, and no less than any of them
module _ (u : Claim) where
  pub rank_attained : (greatest_rank u.ranks ≡ 0) ⊎ ((s : ℕ) × (s < length u.ranks) × (rank u s ≡ none → ⊥) × (rank u s ≡ greatest_rank u.ranks))
  unfolding greatest_rank
  rank_attained = ⊎_elim inl (λ w. by w.0 w.2 w.3 (eqb (rank u w.0) none) refl) (greatest_is (λ s. rank_or_zero (rank u s)) (length u.ranks) 0)
    where
      by : (s : ℕ) → s < length u.ranks → rank_or_zero (rank u s) ≡ greatest_rank u.ranks → (b : Bool) → eqb (rank u s) none ≡ b
          → (greatest_rank u.ranks ≡ 0) ⊎ ((s : ℕ) × (s < length u.ranks) × (rank u s ≡ none → ⊥) × (rank u s ≡ greatest_rank u.ranks))
      by s l e true r = inl (sym (rw r at e))
      by s l e false r = inr (s, l, not_none (rank u s) (rw r tt), rw r at e)

  pub rank_below : (s : ℕ) → s < length u.ranks → (rank u s ≡ none → ⊥) → rank u s ≤ greatest_rank u.ranks
  unfolding greatest_rank
  rank_below s l r =
      let f = le_greatest (λ s. rank_or_zero (rank u s)) (length u.ranks) s 0 zero-le l in
      rw (ne_eqb (rank u s) none r) at f
