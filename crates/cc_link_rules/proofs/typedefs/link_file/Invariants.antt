use Rattle.std.proofs.Common.{◌≡◌, drop}
use Rattle.cc_link_rules.specs.Typedefs.{typedef_file}
use Rattle.cc_link_rules.proofs.typedefs.link_file.Given as goal

abbrev pub invariant-loop-outer : goal.invariant-loop-outer
invariant-loop-outer l = typedef_file l.texts l.file (drop l.outer-index l.outers) (l.names, l.so_far) ≡ typedef_file l.texts l.file l.outers (l.initial.names, l.fn.least)
