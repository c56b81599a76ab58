use Rattle.std.proofs.Common.{rules}
use Rattle.cc_arena_rules.proofs.Inheriting.{is_inherited}
use Rattle.cc_graph.specs.Evaluated.{standing_of}
use Rattle.cc_graph.proofs.standing.standings.Goals as goal

pub returns-clause-each : goal.returns-clause-each
returns-clause-each c = is_inherited (standing_of c.args.program.now) 0 _ _ (search rules)
