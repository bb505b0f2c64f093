-- `rows::starts_test` meets its contract: the first start that is not right was sought. Assumes nothing.
use Rattle.std.proofs.Common.{rules, tests, ◌≡◌, true, false, ◌∙◌, length}
use Rattle.std.proofs.lemmas.Iterator.{first_from_Range}
use Rattle.model.specs.Answers.{code}
use Rattle.model.specs.Refusals.{start_right, starts_test}
use Rattle.model.proofs.Searched.{found_sought, sought_below}
use Rattle.rows.proofs.starts_test.Goals as goal

pub where_found-requires : goal.where_found-requires
where_found-requires c =
    let right = start_right c.args.starts.now c.args.end in
    sought_below right (length c.args.starts.now) _ c.requires c.find.result
    (first_from_Range _ _ _ c.find.result (λ i. right i ≡ false) (λ i. right i ≡ true) c.find.ensures.ran
    (λ x q k. search (rules, tests)) (λ x q k. search (rules, tests)))

pub returns : goal.returns
unfolding starts_test
returns c =
    let right = start_right c.args.starts.now c.args.end in
    c.where_found.ensures
    ∙ found_sought right (length c.args.starts.now) (code c.args.refusal) c.find.result
    (first_from_Range _ _ _ c.find.result (λ i. right i ≡ false) (λ i. right i ≡ true) c.find.ensures.ran
    (λ x q k. search (rules, tests)) (λ x q k. search (rules, tests)))
