use Rattle.std.proofs.Common.{◌≡◌, ◌≤◌, ◌++◌}
use Rattle.cc_tables.specs.Records.{IsFresh, record_text, written}
use Rattle.cc_reduce.specs.Rows.{at, count_to}
use Rattle.cc_reduce.specs.Texts.{kept_to, reduce_header}
use Rattle.cc_reduce.proofs.tables.reduce_csv.Given as goal

abbrev pub invariant-loop-test : goal.invariant-loop-test
invariant-loop-test l = record {
  fresh : IsFresh l.records;
  text : written l.records ≡ record_text reduce_header ++ kept_to l.scores l.marks l.tests l.test;
  count : l.kept ≡ count_to (λ i. at l.marks i) l.test;
  few : l.kept ≤ l.test;
}
