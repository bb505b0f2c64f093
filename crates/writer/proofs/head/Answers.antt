-- `writer::head` meets its contract: the length field, the version, the kind and the numbers go in one after the other.
use Rattle.writer.proofs.Laid.{head_put}
use Rattle.writer.proofs.head.Goals as goal

pub returns : goal.returns
returns c = head_put _ _ _ c.requires c.put-version.ensures c.put-kind.ensures c.put-rest.ensures c.spell.ensures
