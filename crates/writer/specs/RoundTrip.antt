-- What a round trip gives, stated over the promises of the reader and of the writer.
use Rattle.std.specs.Prelude.{ℕ, ◌≤◌, ◌≡◌, length}
use Rattle.model.specs.Tables.{Model, Claim}
use Rattle.certfile.specs.Outcome.{Outcome, Read}
use Rattle.certfile.specs.Tables.{Tables}
use Rattle.writer.specs.File.{header_for, overlaid}

-- lent tables long enough for a model and a claim
pub record Long (t : Model) (u : Claim) (lent : Tables) : Type 0 where
  pub marks : length t.marks ≤ length lent.marks
  pub action_starts : length t.action_starts ≤ length lent.action_starts
  pub branch_starts : length t.branch_starts ≤ length lent.branch_starts
  pub destinations : length t.destinations ≤ length lent.destinations
  pub weights : length t.weights ≤ length lent.weights
  pub costs : length u.costs ≤ length lent.costs
  pub claims : length u.claims ≤ length lent.claims
  pub ranks : length u.ranks ≤ length lent.ranks

-- the reader gives the kind, the scales, the counts and the tables back
pub record GivenBack (kind : ℕ) (t : Model) (u : Claim) (r : Outcome) (before after : Tables) : Type 0 where
  pub header : r ≡ Read (header_for kind t u)
  pub marks : after.marks ≡ overlaid t.marks before.marks
  pub action_starts : after.action_starts ≡ overlaid t.action_starts before.action_starts
  pub branch_starts : after.branch_starts ≡ overlaid t.branch_starts before.branch_starts
  pub destinations : after.destinations ≡ overlaid t.destinations before.destinations
  pub weights : after.weights ≡ overlaid t.weights before.weights
  pub costs : after.costs ≡ overlaid u.costs before.costs
  pub claims : after.claims ≡ overlaid u.claims before.claims
  pub ranks : after.ranks ≡ overlaid u.ranks before.ranks
