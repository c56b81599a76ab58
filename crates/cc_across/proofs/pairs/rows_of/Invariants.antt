use Rattle.std.proofs.Common.{◌≡◌, drop}
use Rattle.cc_across.specs.Pairs.{tabled}
use Rattle.cc_across.proofs.pairs.rows_of.Given as goal

abbrev pub invariant-loop-pair : goal.invariant-loop-pair
invariant-loop-pair l = tabled (drop l.pair-index l.pairs) l.rows.items ≡ tabled l.pairs l.initial.rows.items
