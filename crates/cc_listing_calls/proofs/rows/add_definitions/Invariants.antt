use Rattle.std.proofs.Common.{take}
use Rattle.cc_rows.specs.Gains.{Gains, Each}
use Rattle.cc_listing_calls.specs.Rows.{OfDefinition}
use Rattle.cc_listing_calls.proofs.rows.add_definitions.Given as goal

abbrev pub invariant-loop-definition : goal.invariant-loop-definition
invariant-loop-definition l = Gains l.initial.rows.items l.rows.items (Each (take l.definition-index l.definitions) (OfDefinition l.call l.argument l.readers))
