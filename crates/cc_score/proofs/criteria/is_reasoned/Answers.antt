use Rattle.std.proofs.Common.{◌∙◌, ap}
use Rattle.std.specs.Prelude.{not}
use Rattle.std.specs.Option.{option_copied}
use Rattle.cc_score.proofs.Found.{reasoned}
use Rattle.cc_score.proofs.criteria.is_reasoned.Goals as goal

pub returns : goal.returns
returns c =
    ap not c.is_any.ensures
    ∙ reasoned c.args.listing.now c.args.wanted c.rows_of-rows.result c.rows_of-rows.ensures (option_copied c.args.reasons) _ _ _ c.lacks_reason-shared.ensures c.lacks_reason-parameter.ensures c.lacks_reason-returned.ensures
