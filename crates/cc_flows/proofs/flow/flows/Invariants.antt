use Rattle.std.proofs.Common.{◌-◌, ◌<◌, ◌≤◌, length, take}
use Rattle.cc_rows.specs.Gains.{Gains}
use Rattle.cc_flows.specs.Flows.{Reaches}
use Rattle.cc_flows.proofs.flow.flows.Given as goal

abbrev pub invariant-loop-first : goal.invariant-loop-first
invariant-loop-first l = record {
  within : l.first ≤ length l.definitions;
  exact : Gains l.initial.found.items l.found.items (Reaches l.ways.next.now l.ways.wipes.now l.reads (take l.first l.definitions));
}

abbrev pub decreases-loop-first : goal.decreases-loop-first
decreases-loop-first l = length l.definitions - l.first
