use Rattle.std.proofs.Common.{◌≡◌, drop}
use Rattle.cc_uses.specs.Putting.{put_from}
use Rattle.cc_uses.specs.Giving.{put_entry}
use Rattle.cc_uses.proofs.given.put_entries.Given as goal

abbrev pub invariant-loop-f : goal.invariant-loop-f
invariant-loop-f l = put_from (put_entry l.program l.graph l.parts) (drop l.f-index l.entries) l.f-index l.out.items ≡ put_from (put_entry l.program l.graph l.parts) l.entries 0 l.initial.out.items
