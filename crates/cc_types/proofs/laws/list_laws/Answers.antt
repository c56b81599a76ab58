use Rattle.cc_types.proofs.NumberedLists.{none_once, numbers, equal_numbers}
use Rattle.cc_types.proofs.laws.list_laws.Goals as goal

pub returns-clause-none : goal.returns-clause-none
returns-clause-none c = none_once

pub returns-clause-numbering : goal.returns-clause-numbering
returns-clause-numbering c = numbers

pub returns-clause-numbers : goal.returns-clause-numbers
returns-clause-numbers c = equal_numbers
