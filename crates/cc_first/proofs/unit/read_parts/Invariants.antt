use Rattle.std.proofs.Common.{◌≤◌, length}
use Rattle.cc_first.specs.UnitReads.{ArePartsTo}
use Rattle.cc_first.specs.Views.{parts_view}
use Rattle.cc_first.proofs.unit.read_parts.Given as goal

abbrev pub invariant-loop-rest : goal.invariant-loop-rest
invariant-loop-rest l = record {
  read : ArePartsTo l.tokens (parts_view l.parts.items) l.rest;
  within : length l.rest ≤ length l.tokens;
}

abbrev pub decreases-loop-rest : goal.decreases-loop-rest
decreases-loop-rest l = length l.rest
