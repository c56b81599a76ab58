use Rattle.std.proofs.Common.{◌≡◌, length, take}
use Rattle.cc_lanes.specs.Rows.{Holds}
use Rattle.cc_lanes.proofs.table.table_of.Given as goal

abbrev pub invariant-loop-pair : goal.invariant-loop-pair
invariant-loop-pair l = record {
  long : length l.rows.items ≡ l.count;
  exact : Holds l.rows.items (take l.pair-index l.pairs);
}
