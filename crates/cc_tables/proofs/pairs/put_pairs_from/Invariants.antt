use Rattle.std.proofs.Common.{◌≡◌, ◌++◌}
use Rattle.cc_tables.specs.Records.{IsFresh, written}
use Rattle.cc_tables.specs.Pairs.{pairs_from}
use Rattle.cc_tables.proofs.pairs.put_pairs_from.Given as goal

abbrev pub invariant-loop-to : goal.invariant-loop-to
invariant-loop-to l = IsFresh l.records × (written l.records ≡ written l.initial.records ++ pairs_from l.program l.from l.leaving l.to)
