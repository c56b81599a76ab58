use Rattle.std.proofs.Common.{◌≡◌, ◌++◌, take}
use Rattle.std.specs.List.{flat_map}
use Rattle.csv.specs.Writing.{default_writer, row_text}
use Rattle.cc_first.specs.ListingRows.{IsFresh, header_fields, row_fields, written}
use Rattle.cc_first.proofs.listing.table_text.Given as goal

abbrev pub invariant-loop-row : goal.invariant-loop-row
invariant-loop-row l = record {
  fresh : IsFresh l.writer;
  text : written l.writer ≡ row_text default_writer header_fields ++ flat_map (λ row. row_text default_writer (row_fields row)) (take l.row-index l.rows);
}
