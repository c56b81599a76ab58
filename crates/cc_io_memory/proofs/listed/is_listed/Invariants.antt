use Rattle.std.proofs.Common.{◌≡◌, drop}
use Rattle.cc_io_memory.specs.Calls.{is_listed}
use Rattle.cc_io_memory.proofs.listed.is_listed.Given as goal

abbrev pub invariant-loop-fail : goal.invariant-loop-fail
invariant-loop-fail l = is_listed (drop l.fail-index l.fails) l.call ≡ is_listed l.fails l.call
