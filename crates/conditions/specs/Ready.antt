-- What judging the states asks of the tables: they are well formed, and the kind is one of the eight.
use Rattle.model.specs.declared.kinds.Kind.{Kind}
use Rattle.model.specs.Kinds.{Columns}
use Rattle.model.specs.Tables.{Model, Claim, states}
use Rattle.model.specs.Refusals.{entries}
use Rattle.model.specs.WellFormed.{WellFormed}

pub record Ready (k : Kind) (t : Model) (u : Claim) : Type 0 where
  pub columns : Columns k
  pub formed : WellFormed k t u (entries k.choices (states t))
