-- The bytes of a number are put the highest first. Assumes nothing.
use Rattle.std.proofs.Common.{◌∙◌}
use Rattle.walk.proofs.Putting.{put_same}
use Rattle.wire.proofs.Copied.{bytes_four}
use Rattle.wire.proofs.U32Word.put.Goals as goal

pub returns : goal.returns
returns c = put_same c.copy.ensures (c.to_be_bytes.ensures ∙ bytes_four c.args.self)
