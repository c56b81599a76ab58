use Rattle.std.proofs.Common.{◌≡◌, drop}
use Rattle.cc_link.specs.Numbers.{nodes_numbered}
use Rattle.cc_link.proofs.numbers.number_nodes.Given as goal

abbrev pub invariant-loop-placed : goal.invariant-loop-placed
invariant-loop-placed l = nodes_numbered l.symbols.declared l.symbols.names l.standings l.number (drop l.placed-index l.placed-items) l.numbers ≡ nodes_numbered l.symbols.declared l.symbols.names l.standings 0 l.arena.nodes l.initial.numbers
