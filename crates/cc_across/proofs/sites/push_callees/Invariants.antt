use Rattle.std.proofs.Common.{◌-◌}
use Rattle.cc_rows.specs.Gains.{Gains}
use Rattle.cc_across.specs.Calling.{IsCalleeBetween}
use Rattle.cc_across.proofs.sites.push_callees.Given as goal

abbrev pub invariant-loop-from : goal.invariant-loop-from
invariant-loop-from l = Gains l.initial.pairs.items l.pairs.items (IsCalleeBetween l.facts l.site l.designator 0 l.from)

abbrev pub decreases-loop-from : goal.decreases-loop-from
decreases-loop-from l = 4294967296 - l.from
