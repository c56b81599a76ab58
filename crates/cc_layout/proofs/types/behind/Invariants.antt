use Rattle.std.proofs.Common.{◌≡◌, ◌-◌}
use Rattle.cc_layout.specs.Functions.{behind}
use Rattle.cc_layout.proofs.types.behind.Given as goal

abbrev pub invariant-loop : goal.invariant-loop
invariant-loop l = behind l.program.known.symbols.types (l.parameters - l.counter) l.left ≡ behind l.program.known.symbols.types l.parameters l.fn.function
