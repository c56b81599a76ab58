use Rattle.cc_types.proofs.ListedDepths.{nothing_listed, catches_up, depth_is}
use Rattle.cc_types.proofs.laws.depth_laws.Goals as goal

pub returns-clause-none : goal.returns-clause-none
returns-clause-none c = nothing_listed

pub returns-clause-catching_up : goal.returns-clause-catching_up
returns-clause-catching_up c = catches_up

pub returns-clause-right : goal.returns-clause-right
returns-clause-right c = λ ss es ds counted all a. depth_is ss es ds all counted a
