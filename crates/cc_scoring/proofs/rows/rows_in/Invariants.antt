use Rattle.cc_record_tables.specs.Sets.{seen_in}
use Rattle.cc_scoring.proofs.Numbers.{AreSeenTo}
use Rattle.cc_scoring.proofs.rows.rows_in.Given as goal

abbrev pub invariant-loop-row : goal.invariant-loop-row
invariant-loop-row l = AreSeenTo l.listing (seen_in l.set) l.rows l.row
