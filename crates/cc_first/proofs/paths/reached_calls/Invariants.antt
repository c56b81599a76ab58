use Rattle.std.proofs.Common.{◌≡◌, ◌<◌, ℕ, length, slice_get}
use Rattle.cc_first.specs.Numbers.{before_of}
use Rattle.cc_first.proofs.paths.reached_calls.Given as goal

abbrev pub invariant-loop-i : goal.invariant-loop-i
invariant-loop-i l = record {
  len : length l.reached.items ≡ l.i;
  same : (k : ℕ) → k < l.i → slice_get l.reached.items k ≡ slice_get l.marks.items (before_of (length l.program.functions.items) l.program.calls.items k);
}
