use Rattle.std.proofs.Common.{◌≡◌, drop}
use Rattle.cc_tests.specs.Entries as spec
use Rattle.cc_tests.proofs.entry.entry_named.Given as goal

abbrev pub invariant-loop-f : goal.invariant-loop-f
invariant-loop-f l = spec.first_named l.program (drop l.f-index l.f-items) l.name ≡ spec.entry_named l.program l.name
