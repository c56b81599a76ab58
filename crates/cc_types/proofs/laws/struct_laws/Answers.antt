use Rattle.cc_types.proofs.MeasuredStructs.{no_structs, adding_keeps, completing_keeps, more_types, complete_stays}
use Rattle.cc_types.proofs.RenewedStructs.{added_stay, none_bare, more_bare, completed_bare}
use Rattle.cc_types.proofs.laws.struct_laws.Goals as goal

pub returns-clause-none : goal.returns-clause-none
returns-clause-none c = no_structs

pub returns-clause-adding : goal.returns-clause-adding
returns-clause-adding c = adding_keeps

pub returns-clause-completing : goal.returns-clause-completing
returns-clause-completing c = completing_keeps

pub returns-clause-more_types : goal.returns-clause-more_types
returns-clause-more_types c = more_types

pub returns-clause-stay : goal.returns-clause-stay
returns-clause-stay c = complete_stays

pub returns-clause-added_stay : goal.returns-clause-added_stay
returns-clause-added_stay c = added_stay

pub returns-clause-bare : goal.returns-clause-bare
returns-clause-bare c = (none_bare, more_bare, completed_bare)
