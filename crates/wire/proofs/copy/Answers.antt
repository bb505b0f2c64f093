-- `wire::copy` meets its contract. Assumes nothing.
use Rattle.wire.proofs.Copied.{copied}
use Rattle.wire.proofs.copy.Goals as goal

pub returns : goal.returns
returns c = copied _ _ _ c.args.at c.requires c.copy_from_slice.ensures.after
