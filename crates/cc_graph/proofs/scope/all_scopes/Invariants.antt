use Rattle.std.proofs.Common.{◌≡◌, drop}
use Rattle.cc_arena_rules.specs.Inherited.{inherited_from}
use Rattle.cc_graph.specs.Scopes.{scope_step}
use Rattle.cc_graph.proofs.scope.all_scopes.Given as goal

abbrev pub invariant-loop-n : goal.invariant-loop-n
invariant-loop-n l = inherited_from scope_step 0 (drop l.n l.nodes) l.n l.all ≡ inherited_from scope_step 0 l.nodes 0 l.initial.all
