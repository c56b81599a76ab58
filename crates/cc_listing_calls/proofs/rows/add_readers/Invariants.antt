use Rattle.std.proofs.Common.{take}
use Rattle.cc_rows.specs.Gains.{Gains, Each}
use Rattle.cc_listing_calls.specs.Rows.{IsParameterOf}
use Rattle.cc_listing_calls.proofs.rows.add_readers.Given as goal

abbrev pub invariant-loop-reader : goal.invariant-loop-reader
invariant-loop-reader l = Gains l.initial.rows.items l.rows.items (Each (take l.reader-index l.readers) (IsParameterOf l.call l.argument l.definition))
