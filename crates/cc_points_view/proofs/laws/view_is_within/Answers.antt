use Rattle.cc_points_view.proofs.Withins.{view_within}
use Rattle.cc_points_view.proofs.laws.view_is_within.Goals as goal

pub returns : goal.returns
returns c = view_within
