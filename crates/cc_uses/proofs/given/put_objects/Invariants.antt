use Rattle.std.proofs.Common.{◌≡◌, drop}
use Rattle.cc_uses.specs.Putting.{put_from}
use Rattle.cc_uses.specs.Giving.{put_object}
use Rattle.cc_uses.proofs.given.put_objects.Given as goal

abbrev pub invariant-loop-object : goal.invariant-loop-object
invariant-loop-object l = record {
  put : put_from (put_object l.program l.graph l.parts) (drop l.object-index l.objects) l.k l.out.items ≡ put_from (put_object l.program l.graph l.parts) l.objects 0 l.initial.out.items;
  counted : l.k ≡ l.object-index;
}
