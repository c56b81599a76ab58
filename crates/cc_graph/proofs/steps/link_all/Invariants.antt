use Rattle.std.proofs.Common.{◌≡◌, drop}
use Rattle.cc_graph.specs.Linking.{all_linked}
use Rattle.cc_graph.proofs.steps.link_all.Given as goal

abbrev pub invariant-loop-step : goal.invariant-loop-step
invariant-loop-step l = all_linked l.rows (drop l.step-index l.steps) l.next.items ≡ all_linked l.rows l.steps l.initial.next.items
