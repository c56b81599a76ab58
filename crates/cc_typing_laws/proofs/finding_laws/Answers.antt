use Rattle.cc_typing_laws.proofs.NotedFindings.{least_kept, types_kept}
use Rattle.cc_typing_laws.proofs.FirstOffences as offences
use Rattle.cc_typing_laws.proofs.finding_laws.Goals as goal

pub returns-clause-least : goal.returns-clause-least
returns-clause-least c = least_kept

pub returns-clause-types : goal.returns-clause-types
returns-clause-types c = types_kept

pub returns-clause-first : goal.returns-clause-first
returns-clause-first c = offences.first
