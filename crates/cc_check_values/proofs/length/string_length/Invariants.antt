use Rattle.std.proofs.Common.{◌≡◌, drop}
use Rattle.cc_typing.specs.Typing.{bytes_from}
use Rattle.cc_check_values.proofs.length.string_length.Given as goal

abbrev pub invariant-loop-part : goal.invariant-loop-part
invariant-loop-part l = bytes_from l.n (drop l.part-index l.parts) ≡ bytes_from 0 l.parts
