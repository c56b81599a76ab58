use Rattle.std.proofs.Common.{◌≡◌, length}
use Rattle.cc_record_laws.specs.Kept.{without}
use Rattle.cc_record_tables.proofs.opened.remove.Given as goal

abbrev pub invariant-loop-i : goal.invariant-loop-i
invariant-loop-i l = without l.act l.acts.items ≡ without l.act l.initial.acts.items

abbrev pub decreases-loop-i : goal.decreases-loop-i
decreases-loop-i l = length l.acts.items
