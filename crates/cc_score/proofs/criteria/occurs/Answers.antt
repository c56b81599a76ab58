use Rattle.std.proofs.Common.{◌∙◌}
use Rattle.cc_score.proofs.Found.{seen}
use Rattle.cc_score.proofs.criteria.occurs.Goals as goal

pub returns : goal.returns
returns c =
    c.is_any.ensures
    ∙ seen c.args.listing.now c.args.wanted c.rows_of-rows.result c.rows_of-rows.ensures c.args.row _ _ _ c.is_seen-shared.ensures c.is_seen-parameter.ensures c.is_seen-returned.ensures
