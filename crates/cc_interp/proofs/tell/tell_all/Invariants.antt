use Rattle.std.proofs.Common.{List, ◌++◌, take}
use Rattle.cc_meaning.specs.declared.event.Event.{Event}
use Rattle.cc_interp.proofs.tell.tell_all.Given as goal

abbrev pub invariant-loop-event : goal.invariant-loop-event
invariant-loop-event g l = (told : List Event) → g.W.Watch.stands_for l.fn.watch told → g.W.Watch.stands_for l.watch (told ++ take l.event-index l.events)
