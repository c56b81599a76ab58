use Rattle.std.proofs.Common.{◌≡◌, drop}
use Rattle.cc_typing.specs.Typing.{bytes_from}
use Rattle.cc_typing.proofs.walk.string_length.Given as goal

abbrev pub invariant-loop-part : goal.invariant-loop-part
invariant-loop-part l = bytes_from l.length (drop l.part-index l.parts) ≡ bytes_from 1 l.parts
