use Rattle.std.proofs.Common.{◌≤◌, ◌-◌, length}
use Rattle.cc_prep.specs.Passages.{BeginsLine}
use Rattle.cc_prep.proofs.passage.next_passage.Given as goal

abbrev pub invariant-loop-at : goal.invariant-loop-at
invariant-loop-at l = record { begins : BeginsLine l.text l.at; within : l.at ≤ length l.text }

abbrev pub decreases-loop-at : goal.decreases-loop-at
decreases-loop-at l = length l.text - l.at
