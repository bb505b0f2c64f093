-- `rows::marks_test` meets its contract: the first mark above 1 was sought. Assumes nothing.
use Rattle.std.proofs.Common.{rules, tests, ap, ◌∙◌}
use lib.Dec.{ltb, leb}
use Rattle.std.proofs.lemmas.Iterator.{YieldsList-from_slice}
use Rattle.std.proofs.lemmas.Iterator.Search.{position_from_yields_List}
use Rattle.model.specs.Answers.{found}
use Rattle.model.specs.Refusals.{marks_test}
use Rattle.model.proofs.Searched.{found_throughout, above}
use Rattle.rows.proofs.marks_test.Goals as goal

pub returns : goal.returns
unfolding marks_test
returns c =
    let xs = c.args.marks.now in
    c.where_found.ensures
    ∙ ap (found 8) (position_from_yields_List (ltb 1) _ _ _ c.position.ensures.ran (YieldsList-from_slice xs cc) (λ x b q k. search (rules, tests)))
    ∙ found_throughout (ltb 1) (λ x. leb x 1) (above 1) xs 8
