use Rattle.std.proofs.Common.{◌≡◌, map, take}
use Rattle.cc_record.specs.Recording.{argument_now}
use Rattle.cc_record.proofs.recorder.Recorder.definitions.Given as goal

abbrev pub invariant-loop-argument : goal.invariant-loop-argument
invariant-loop-argument l = l.list.items ≡ map (argument_now l.self) (take l.argument-index l.arguments)
