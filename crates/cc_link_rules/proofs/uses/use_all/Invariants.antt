use Rattle.std.proofs.Common.{◌≡◌, drop}
use Rattle.cc_link_rules.specs.Uses.{use_from, use_all as all}
use Rattle.cc_link_rules.proofs.uses.use_all.Given as goal

abbrev pub invariant-loop-placed : goal.invariant-loop-placed
invariant-loop-placed l = use_from l.symbols.declared l.symbols.names l.standings l.called l.units l.number (drop l.placed-index l.placed-items) l.least ≡ all l.symbols.declared l.symbols.names l.standings l.called l.units l.arena.nodes
