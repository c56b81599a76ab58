use Rattle.std.proofs.Common.{◌≡◌, ◌++◌, drop}
use Rattle.cc_tree_copies.proofs.copy.copied_strings.Given as goal

abbrev pub invariant-loop-i : goal.invariant-loop-i
invariant-loop-i l = l.copy ++ drop l.i l.strings ≡ l.strings
