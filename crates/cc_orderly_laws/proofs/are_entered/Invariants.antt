use Rattle.std.proofs.Common.{◌≡◌, drop}
use Rattle.cc_orderly_laws.specs.Entered.{all_enter}
use Rattle.cc_orderly_laws.proofs.are_entered.Given as goal

abbrev pub invariant-loop-entry : goal.invariant-loop-entry
invariant-loop-entry l = all_enter l.acts.nodes (drop l.entry-index l.acts.entries) ≡ all_enter l.acts.nodes l.acts.entries
