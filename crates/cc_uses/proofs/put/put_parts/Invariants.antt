use Rattle.std.proofs.Common.{◌≡◌, ◌-◌, drop}
use Rattle.cc_uses.specs.Accessing.{with_parts}
use Rattle.cc_uses.proofs.put.put_parts.Given as goal

abbrev pub invariant-loop-q : goal.invariant-loop-q
invariant-loop-q l = with_parts l.facts l.reach l.point l.l (drop l.from l.facts.parts.parts) l.from l.out.items
    ≡ with_parts l.facts l.reach l.point l.l l.facts.parts.parts 0 l.initial.out.items

abbrev pub decreases-loop-q : goal.decreases-loop-q
decreases-loop-q l = l.count - l.from
