use Rattle.std.proofs.Common.{◌≡◌, [], drop}
use Rattle.cc_device_runs.specs.Asking.{accesses_in, reads_by}
use Rattle.cc_device_runs.proofs.asks.reads_in.Given as goal

abbrev pub invariant-loop-n : goal.invariant-loop-n
invariant-loop-n l = accesses_in reads_by l.program l.graph l.roles (drop l.n l.nodes) l.n l.out.items ≡ accesses_in reads_by l.program l.graph l.roles l.nodes 0 []
