use Rattle.std.proofs.Common.{◌≡◌, map, take}
use Rattle.cc_first.specs.ListingRows.{fields_from, row_fields}
use Rattle.cc_first.specs.Views.{project_view}
use Rattle.cc_first.proofs.listing.rows_of.Given as goal

abbrev pub invariant-loop-i : goal.invariant-loop-i
invariant-loop-i l = map row_fields l.rows.items ≡ fields_from (project_view l.project) l.program.functions.items 1 (take l.i l.couplings)
