-- `checker::refusals` may ask the rows and the ranges: the sizes are right. Assumes nothing.
use Rattle.model.specs.Tables.{model_in, claim_in}
use Rattle.checker.proofs.Whole.{fitting, costs_short, claims_short, ranks_short}
use Rattle.checker.proofs.refusals.Goals as goal

pub count-requires : goal.count-requires
count-requires c = fitting _ (model_in c.args.t.now) (claim_in c.args.u.now) _ c.in_ok-sizes.ensures

pub ranges-requires-clause-costs_len_bound : goal.ranges-requires-clause-costs_len_bound
ranges-requires-clause-costs_len_bound c = costs_short _ (model_in c.args.t.now) (claim_in c.args.u.now) _ c.in_ok-sizes.ensures

pub ranges-requires-clause-claims_len_bound : goal.ranges-requires-clause-claims_len_bound
ranges-requires-clause-claims_len_bound c = claims_short _ (model_in c.args.t.now) (claim_in c.args.u.now) _ c.in_ok-sizes.ensures

pub ranges-requires-clause-ranks_len_bound : goal.ranges-requires-clause-ranks_len_bound
ranges-requires-clause-ranks_len_bound c = ranks_short _ (model_in c.args.t.now) (claim_in c.args.u.now) _ c.in_ok-sizes.ensures
