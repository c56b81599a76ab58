use Rattle.std.proofs.Common.{◌≡◌, drop}
use Rattle.cc_record_tables.specs.ActivationTable.{read_in}
use Rattle.cc_record_tables.proofs.activations.read_in.Given as goal

abbrev pub invariant-loop-read : goal.invariant-loop-read
invariant-loop-read l = read_in (drop l.read-index l.reads) l.occ ≡ read_in l.reads l.occ
