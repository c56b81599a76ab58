use Rattle.std.proofs.Common.{◌≡◌, ◌-◌}
use Rattle.cc_parts.specs.PartTables.{walk}
use Rattle.cc_parts.proofs.parts.Parts.walk.Given as goal

abbrev pub invariant-loop-step : goal.invariant-loop-step
invariant-loop-step l = walk l.self.parts l.last l.q (l.steps - l._step) ≡ walk l.self.parts l.last l.first l.steps
