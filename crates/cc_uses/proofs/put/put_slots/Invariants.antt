use Rattle.std.proofs.Common.{◌≡◌, ◌+◌, drop}
use Rattle.cc_uses.specs.Putting.{put_from}
use Rattle.cc_uses.specs.Accessing.{put_slot}
use Rattle.cc_uses.proofs.put.put_slots.Given as goal

abbrev pub invariant-loop-part : goal.invariant-loop-part
invariant-loop-part l = record {
  put : put_from (put_slot l.point l.occurrence) (drop l.part-index l.parts) l.slot l.out.items ≡ put_from (put_slot l.point l.occurrence) l.parts l.first l.initial.out.items;
  counted : l.slot ≡ l.first + l.part-index;
}
