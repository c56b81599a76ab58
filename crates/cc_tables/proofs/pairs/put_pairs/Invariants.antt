use Rattle.std.proofs.Common.{◌≡◌, ◌++◌}
use Rattle.cc_tables.specs.Records.{IsFresh, written}
use Rattle.cc_tables.specs.Pairs.{pairs_to}
use Rattle.cc_tables.proofs.pairs.put_pairs.Given as goal

abbrev pub invariant-loop-from : goal.invariant-loop-from
invariant-loop-from l = IsFresh l.records × (written l.records ≡ written l.initial.records ++ pairs_to l.program l.spans l.from)
