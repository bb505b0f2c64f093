-- The states in order: what the loop has shown at state s, and what each way out of it answers. Assumes nothing.
use mathlib.Core.Path.{◌≡◌, refl, ◌∙◌}
use mathlib.Core.Bool.{false, not}
use mathlib.Core.List.{List}
use Prim.Native.Nat.{ℕ, ◌+◌, ◌≤◌, ◌<◌, zero-le}
use native.Mathlib.Omega.{arith}
use lib.Dec.{T}
use lib.ListN.{length, set}
use Rattle.walk.proofs.Bools.{is_true}
use Rattle.walk.proofs.Loop.{Seeking, seek_start, seek_pass, seek_hit, seek_end, Filling, fill_start, fill_pass}
use Rattle.model.specs.declared.answers.Verdict.TheVariants.{Accepted}
use Rattle.std.specs.Prelude.{Ok, Err}
use Rattle.model.specs.declared.answers.Violation.{Violation}
use Rattle.model.specs.Answers as answers
use Rattle.model.specs.declared.kinds.Kind.{Kind}
use Rattle.model.specs.Tables.{Model, Claim, states}
use Rattle.model.specs.Conditions.{judged}
use Rattle.model.specs.Checked.{accepts, greatest_rank, conditions}
use Rattle.model.proofs.Tried.{Trying, try_start, try_pass, try_stop, try_end}
use Rattle.conditions.specs.Judging.{Judges, picked, broken, room_of}

pub record Going (k : Kind) (t : Model) (u : Claim) (start : List ℕ) (room : List ℕ) (s : ℕ) : Type 0 where
  pub trying : Trying (judged k t u) (states t) (Accepted (greatest_rank u.ranks)) (conditions k t u) s
  pub seeking : Seeking (λ i. not (accepts (judged k t u i))) (states t) (broken k t u) s
  pub filling : Filling (picked k t u) start (states t) s room

pub go_start : (k : Kind) (t : Model) (u : Claim) (start : List ℕ) → states t ≤ length start → Going k t u start start 0
unfolding conditions broken
go_start k t u start h =
    record {
      trying = try_start (judged k t u) 0 (states t) (Accepted (greatest_rank u.ranks)) zero-le;
      seeking = seek_start (λ i. not (accepts (judged k t u i))) 0 (states t) zero-le;
      filling = fill_start (picked k t u) start (states t) h;
    }

module _ {k : Kind} {t : Model} {u : Claim} {start room : List ℕ} {s : ℕ} (w : Going k t u start room s) where
  pub go_pass : s < states t → {v : ℕ} → Judges (judged k t u s) (picked k t u s) (Ok v) → Going k t u start (set room s v) (s + 1)
  go_pass h {v} j =
      let p : T (accepts (judged k t u s)) = rw (← j.verdict) tt in
      record {
        trying = try_pass w.trying h p;
        seeking = seek_pass w.seeking h (rw (is_true (accepts (judged k t u s)) p));
        filling = fill_pass w.filling h v (j.choice v refl);
      }

  -- at state s the room is written up to s
  written : s ≡ broken k t u → room ≡ room_of k t u start
  unfolding room_of
  written e = rw (← e) w.filling.filled

  pub go_stop : s < states t → (z : Violation) → Judges (judged k t u s) (picked k t u s) (Err z)
      → (answers.broken z ≡ conditions k t u) × (room ≡ room_of k t u start)
  go_stop h z j =
      let p : accepts (judged k t u s) ≡ false = rw (← j.verdict) refl in
      (j.verdict ∙ try_stop w.trying h p, written (seek_hit w.seeking h (rw p)))

  pub go_end : states t ≤ s → (Accepted (greatest_rank u.ranks) ≡ conditions k t u) × (room ≡ room_of k t u start)
  go_end h =
      let q : s ≡ states t = omega (arith, w.filling.high) in
      (try_end w.trying h, written (q ∙ seek_end w.seeking h))
