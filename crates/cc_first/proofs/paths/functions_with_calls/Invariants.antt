use Rattle.std.proofs.Common.{◌≡◌, ℕ, length}
use Rattle.std.specs.Prelude.{◌↔◌}
use Rattle.cc_base.specs.Edges.{IsMarked}
use Rattle.cc_first.proofs.PathEdges.{HasCallBelow}
use Rattle.cc_first.proofs.paths.functions_with_calls.Given as goal

abbrev pub invariant-loop-call : goal.invariant-loop-call
invariant-loop-call l = record {
  len : length l.marks.items ≡ length l.program.functions.items;
  exact : (f : ℕ) → IsMarked l.marks.items f ↔ HasCallBelow l.program.calls.items l.call-index f;
}
