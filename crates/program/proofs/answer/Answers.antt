-- `program::answer` meets its contract: the tables of a new room have the lengths that the file is judged by. Assumes nothing.
use mathlib.Core.List.{List}
use mathlib.Core.Path.{ap, subst, ◌∙◌}
use Prim.Native.Nat.{ℕ}
use Rattle.certfile.specs.Tables.{lent}
use Rattle.program.specs.Printed.{printed_of, read_text, loaded_of, most_bytes, blank}
use Rattle.program.specs.Shows.{Shows}
use Rattle.program.proofs.answer.Goals as goal

pub returns : goal.returns
unfolding printed_of
returns c =
    let file = c.args.file.now in
    let told = c.answer_within in
    subst (λ (l : List ℕ). Shows (read_text (loaded_of most_bytes l file) file blank) told.result.bytes c.args.text.now told.new.text)
    (ap lent (c.lend.ensures ∙ c.new-room.ensures)) told.ensures.answered.shows
