use Rattle.std.proofs.Common.{rules}
use Rattle.cc_arena_rules.proofs.Inheriting.{is_inherited}
use Rattle.cc_graph.specs.Scopes.{scope_step}
use Rattle.cc_graph.proofs.scope.scopes.Goals as goal

pub returns-clause-each : goal.returns-clause-each
returns-clause-each c = is_inherited scope_step 0 _ _ (search rules)
