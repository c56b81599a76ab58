use Rattle.std.proofs.Common.{◌≡◌, drop}
use Rattle.cc_arena_rules.specs.Inherited.{inherited_from}
use Rattle.cc_graph.specs.Evaluated.{standing_of}
use Rattle.cc_graph.proofs.standing.all_standings.Given as goal

abbrev pub invariant-loop-n : goal.invariant-loop-n
invariant-loop-n l = inherited_from (standing_of l.program) 0 (drop l.n l.nodes) l.n l.all ≡ inherited_from (standing_of l.program) 0 l.nodes 0 l.initial.all
