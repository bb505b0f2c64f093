-- The bytes of a number are read the highest first. Assumes nothing.
use Rattle.std.proofs.Common.{◌∙◌}
use Rattle.wire.proofs.Copied.{word_eight}
use Rattle.wire.proofs.U64Word.read.Goals as goal

pub returns : goal.returns
returns c = c.from_be_bytes.ensures ∙ word_eight c.args.file.now c.args.at
