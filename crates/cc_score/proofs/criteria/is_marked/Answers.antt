use Rattle.std.proofs.Common.{◌∙◌}
use Rattle.cc_score.proofs.Found.{marked}
use Rattle.cc_score.proofs.criteria.is_marked.Goals as goal

pub returns : goal.returns
returns c =
    c.is_any.ensures
    ∙ marked c.args.listing.now c.args.wanted c.rows_of-rows.result c.rows_of-rows.ensures c.args.scores.now.marks _ _ _ c.has_mark-shared.ensures c.has_mark-parameter.ensures c.has_mark-returned.ensures
