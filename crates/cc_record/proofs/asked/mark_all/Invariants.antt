use Rattle.std.proofs.Common.{take}
use Rattle.cc_record.specs.Asked.{Grows, AreMarked}
use Rattle.cc_record.proofs.asked.mark_all.Given as goal

abbrev pub invariant-loop-argument : goal.invariant-loop-argument
invariant-loop-argument l = Grows l.initial.asked.items l.asked.items × AreMarked l.program l.asked.items (take l.argument-index l.arguments)
