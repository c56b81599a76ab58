use Rattle.std.proofs.Common.{◌≡◌, drop}
use Rattle.cc_across.specs.Sites.{owners_from}
use Rattle.cc_across.proofs.owners.all_owners.Given as goal

abbrev pub invariant-loop-n : goal.invariant-loop-n
invariant-loop-n l = owners_from (drop l.n l.nodes) l.n l.owners ≡ owners_from l.nodes 0 l.initial.owners
