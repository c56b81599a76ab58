use Rattle.cc_types.proofs.DeepStructs.{none_counted, more_counted, completed_counted, more_listed, completed_listed, more_deep, completed_deep}
use Rattle.cc_types.proofs.RenewedStructs.{more_types_deep, begins}
use Rattle.cc_types.proofs.laws.struct_depth_laws.Goals as goal

pub returns-clause-counted : goal.returns-clause-counted
returns-clause-counted c = (none_counted, more_counted, completed_counted)

pub returns-clause-adding_lists : goal.returns-clause-adding_lists
returns-clause-adding_lists c = λ ss es ds is_tagged token all. more_listed es is_tagged token ss ds all

pub returns-clause-completing_lists : goal.returns-clause-completing_lists
returns-clause-completing_lists c = completed_listed

pub returns-clause-adding : goal.returns-clause-adding
returns-clause-adding c = λ ss es is_tagged token measured deep. more_deep es is_tagged token ss measured deep

pub returns-clause-completing : goal.returns-clause-completing
returns-clause-completing c = λ ss es ds id ms free table counted all measured deep. completed_deep ss es ds id ms table counted all free measured deep

pub returns-clause-more_types : goal.returns-clause-more_types
returns-clause-more_types c = more_types_deep

pub returns-clause-renewing : goal.returns-clause-renewing
returns-clause-renewing c = begins
