use Rattle.cc_types.proofs.AdjustedTypes.{adjusted_makes}
use Rattle.cc_types.proofs.Interned.{makes, array_makes, function_makes, taking_makes, const_added}
use Rattle.cc_types.proofs.laws.making_laws.Goals as goal

pub returns-clause-interning : goal.returns-clause-interning
returns-clause-interning c = makes

pub returns-clause-arrays : goal.returns-clause-arrays
returns-clause-arrays c = array_makes

pub returns-clause-functions : goal.returns-clause-functions
returns-clause-functions c = function_makes

pub returns-clause-parameters : goal.returns-clause-parameters
returns-clause-parameters c = taking_makes

pub returns-clause-added : goal.returns-clause-added
returns-clause-added c = const_added

pub returns-clause-adjusted : goal.returns-clause-adjusted
returns-clause-adjusted c = adjusted_makes
