use Rattle.std.proofs.Common.{◌≡◌, ◌++◌, drop}
use Rattle.cc_tests.proofs.bind.texts.Given as goal

abbrev pub invariant-loop-item : goal.invariant-loop-item
invariant-loop-item l = l.list ++ drop l.item-index l.items ≡ l.items
