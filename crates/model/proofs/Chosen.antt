-- What a state that meets its conditions says of the actions meant: all that it owns, or the one chosen. Assumes nothing.
use mathlib.Core.Path.{◌≡◌, refl, subst, ◌∙◌}
use mathlib.Core.Bool.{Bool, true, false, cond, ◌&&◌}
use Prim.Native.Nat.{ℕ, ◌+◌, ◌<◌}
use native.Mathlib.Omega.{arith}
use lib.Dec.{T}
use Rattle.walk.proofs.Bools.{holds, fails, is_true, is_false, both, and_left, and_right}
use Rattle.walk.proofs.Fold.{lowest}
use Rattle.walk.proofs.Quantified.{any_first, at_any}
use Rattle.model.specs.declared.kinds.Kind.{Kind}
use Rattle.model.specs.declared.kinds.Bound.TheVariants.{AtLeast}
use Rattle.model.specs.declared.kinds.Who.{Who}
use Rattle.model.specs.declared.kinds.Who.TheVariants.{Every, Some}
use Rattle.model.specs.Limits.{none}
use Rattle.model.specs.Tables.{Model, Claim, states, actions, target, first_action, rank}
use Rattle.model.specs.Conditions.{suits, falls, some_action, lowest_action, asks_fall}
use Rattle.model.specs.Checked.{choice}
use Rattle.model.specs.WellFormed.{Row, WellFormed}
use Rattle.model.specs.Meets.{Owns, Suits, Falls, ForActions, Meets}
use Rattle.model.proofs.Rising.{start_below}
use Rattle.model.proofs.Kept.{suited, of_suited, fallen, of_fallen, asks, of_asks}

-- an action that a state owns is one of the model's, and its rows are right
pub owned_row : (k : Kind) (t : Model) (u : Claim) (chosen : ℕ) → WellFormed k t u chosen → (s a : ℕ) → s < states t → Owns t s a → Row t a
owned_row k t u chosen w s a l o =
    w.counted.rows a (omega (arith, o.1, start_below t.action_starts (actions t) w.counted.action-starts (s + 1) (omega (arith, w.sized.table2))))

-- a is the lowest of the actions that s owns of which one thing holds: of all lower ones the other does
pub record LowestOf (t : Model) (s a : ℕ) (Is Isnt : ℕ → Type 0) : Type 0 where
  pub owned : Owns t s a
  pub is : Is a
  pub lower : (b : ℕ) → Owns t s b → b < a → Isnt b

-- the lowest action for which a test holds, where there is one
pub lowest-action : (t : Model) (s : ℕ) (p : ℕ → Bool) → T (some_action t s p) → LowestOf t s (lowest_action t s p) (λ a. T (p a)) (λ a. p a ≡ false)
lowest-action t s p h =
    let f = any_first p (first_action t s) (first_action t (s + 1)) h in
    let w = lowest p (first_action t (s + 1)) (first_action t s) (omega (arith, f.0, f.1)) in
    record { owned = (f.0, f.1); is = f.2; lower = λ b o l. w.passed b o.0 l }

some-action : (t : Model) (s : ℕ) (p : ℕ → Bool) (a : ℕ) → Owns t s a → T (p a) → T (some_action t s p)
some-action t s p a o h = at_any p (first_action t s) (first_action t (s + 1)) a o.0 o.1 h

taken : (b : Bool) (x y : ℕ) → b ≡ true → cond b x y ≡ x
taken b x y e = rw e

picked : (b c : Bool) (x y z : ℕ) → b ≡ false → cond b x (cond c y z) ≡ cond c y z
picked b c x y z e = rw e

-- the actions that a claim speaks of: "every" action that the state owns, or the one chosen
abbrev pub Allowed : Who → Kind → Model → Claim → ℕ → ℕ → Type 0
Allowed Every k t u s a = Owns t s a
Allowed Some k t u s a = a ≡ choice k t u s

-- such an action is owned, suits, and falls where 24 is asked
pub record Fit (k : Kind) (t : Model) (u : Claim) (s a : ℕ) : Type 0 where
  pub owned : Owns t s a
  pub suits : Suits k t u s a
  pub falls : T (asks_fall k t u s) → Falls t u s a

module _ (k : Kind) (t : Model) (u : Claim) (s : ℕ) (e : target t s ≡ false) where
  -- where 24 is asked and met, the choice is the lowest action that suits and falls
  pub chosen_asked : asks_fall k t u s ≡ true → ForActions Some t s (Falls t u s) (λ a. Suits k t u s a × Falls t u s a)
      → LowestOf t s (choice k t u s) (λ a. Suits k t u s a × Falls t u s a) (λ a. Suits k t u s a → Falls t u s a → ⊥)
  unfolding choice
  chosen_asked f x =
      let both_hold : ℕ → Bool = λ a. suits k t u s a && falls t u s a in
      let w = lowest-action t s both_hold
      (some-action t s both_hold x.0 x.1
      (both (suits k t u s x.0) (falls t u s x.0) (of_suited k t u s x.0 x.2.0) (of_fallen t u s x.0 x.2.1))) in
      let c : choice k t u s ≡ lowest_action t s both_hold = picked (target t s) (asks_fall k t u s) _ _ _ e ∙ rw f in
      rw c
      (record {
        owned = w.owned;
        is = (suited k t u s _ (and_left (suits k t u s _) (falls t u s _) w.is), fallen t u s _ (and_right (suits k t u s _) (falls t u s _) w.is));
        lower = λ b o l p q. fails (w.lower b o l) (both (suits k t u s b) (falls t u s b) (of_suited k t u s b p) (of_fallen t u s b q));
      })

  -- where 24 is not asked and 22 is met, it is the lowest action that suits
  pub chosen_else : asks_fall k t u s ≡ false → ForActions Some t s (Suits k t u s) (Suits k t u s)
      → LowestOf t s (choice k t u s) (Suits k t u s) (λ a. Suits k t u s a → ⊥)
  unfolding choice
  chosen_else f x =
      let w = lowest-action t s (suits k t u s) (some-action t s (suits k t u s) x.0 x.1 (of_suited k t u s x.0 x.2)) in
      let c : choice k t u s ≡ lowest_action t s (suits k t u s) = picked (target t s) (asks_fall k t u s) _ _ _ e ∙ rw f in
      rw c (record { owned = w.owned; is = suited k t u s _ w.is; lower = λ b o l p. fails (w.lower b o l) (of_suited k t u s b p) })

  pub fits : Meets k t u s → (a : ℕ) → Allowed k.who k t u s a → Fit k t u s a
  fits w a = by k.who (w.met22 e) (λ q. let x = of_asks k t u s q in w.met24 x.0 e x.2)
    where
      chosen : ForActions Some t s (Suits k t u s) (Suits k t u s)
          → (T (asks_fall k t u s) → ForActions Some t s (Falls t u s) (λ a. Suits k t u s a × Falls t u s a))
          → (b : Bool) → asks_fall k t u s ≡ b → Fit k t u s (choice k t u s)
      chosen g h true f = let c = chosen_asked f (h (holds f)) in record { owned = c.owned; suits = c.is.0; falls = λ q. c.is.1 }
      chosen g h false f = let c = chosen_else f g in record { owned = c.owned; suits = c.is; falls = λ q. absurd (fails f q) }

      by : (who : Who) → ForActions who t s (Suits k t u s) (Suits k t u s)
          → (T (asks_fall k t u s) → ForActions who t s (Falls t u s) (λ a. Suits k t u s a × Falls t u s a))
          → Allowed who k t u s a → Fit k t u s a
      by Every g h o = record { owned = o; suits = g a o; falls = λ q. h q a o }
      by Some g h o = rw o (chosen g h (asks_fall k t u s) refl)

-- the choice as document 01 has it: none at a target; with a rank and "at least" the lowest action that suits and falls;
-- otherwise the lowest that suits
pub record Choice (k : Kind) (t : Model) (u : Claim) (s : ℕ) : Type 0 where
  pub at_target : target t s ≡ true → choice k t u s ≡ none
  pub with_rank : target t s ≡ false → k.bound ≡ AtLeast → (rank u s ≡ none → ⊥)
      → LowestOf t s (choice k t u s) (λ a. Suits k t u s a × Falls t u s a) (λ a. Suits k t u s a → Falls t u s a → ⊥)
  pub otherwise : target t s ≡ false → (k.bound ≡ AtLeast → rank u s ≡ none)
      → LowestOf t s (choice k t u s) (Suits k t u s) (λ a. Suits k t u s a → ⊥)

pub choice_right : (k : Kind) (t : Model) (u : Claim) (s : ℕ) → k.who ≡ Some → Meets k t u s → Choice k t u s
unfolding choice
choice_right k t u s some w =
    record {
      at_target = λ e. taken (target t s) none _ e;
      with_rank = λ e b r. chosen_asked k t u s e (is_true (asks_fall k t u s) (asks k t u s b e r))
          (subst (λ x. ForActions x t s (Falls t u s) (λ a. Suits k t u s a × Falls t u s a)) some (w.met24 b e r));
      otherwise = λ e n. chosen_else k t u s e (is_false (asks_fall k t u s) (λ q. let x = of_asks k t u s q in x.2 (n x.0)))
          (subst (λ x. ForActions x t s (Suits k t u s) (Suits k t u s)) some (w.met22 e));
    }
