use Rattle.std.proofs.Common.{◌≡◌, ◌++◌, drop}
use Rattle.cc_link.specs.Tables.{variables as all}
use Rattle.cc_link.proofs.tables.variables.Given as goal

abbrev pub invariant-loop-first : goal.invariant-loop-first
invariant-loop-first l = l.variables ++ all l.symbols l.standings (drop l.first-index l.first-items) ≡ all l.symbols l.standings l.numbers.variables
