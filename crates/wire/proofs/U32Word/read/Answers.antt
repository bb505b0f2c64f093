-- The bytes of a number are read the highest first. Assumes nothing.
use Rattle.std.proofs.Common.{◌∙◌}
use Rattle.wire.proofs.Copied.{word_four}
use Rattle.wire.proofs.U32Word.read.Goals as goal

pub returns : goal.returns
returns c = c.from_be_bytes.ensures ∙ word_four c.args.file.now c.args.at
