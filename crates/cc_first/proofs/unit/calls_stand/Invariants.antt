use Rattle.std.proofs.Common.{map, drop}
use Rattle.cc_first.specs.UnitReads.{StandTo}
use Rattle.cc_first.specs.Views.{parts_view}
use Rattle.cc_first.proofs.unit.calls_stand.Given as goal

abbrev pub invariant-loop-part : goal.invariant-loop-part
invariant-loop-part l = StandTo (parts_view l.parts) (parts_view (drop l.part-index l.parts)) (map (λ key. key.now) l.heads.keys)
