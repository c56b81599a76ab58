use Rattle.std.proofs.Common.{◌≡◌, ◌++◌, length}
use Rattle.cc_tables.specs.Records.{IsFresh, record_text, written}
use Rattle.cc_reduce.specs.Texts.{order_header, places_to}
use Rattle.cc_reduce.proofs.Placed.{IsPlaced}
use Rattle.cc_reduce.proofs.tables.order_csv.Given as goal

abbrev pub invariant-loop-place : goal.invariant-loop-place
invariant-loop-place l = record {
  fresh : IsFresh l.records;
  text : written l.records ≡ record_text order_header ++ places_to l.scores l.order l.tests l.place;
  placed : IsPlaced l.scores.exercised (length l.scores.marks) l.order l.place l.covered.items l.total;
}
