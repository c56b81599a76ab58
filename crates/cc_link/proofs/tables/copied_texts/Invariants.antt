use Rattle.std.proofs.Common.{◌≡◌, ◌++◌, drop}
use Rattle.cc_link.proofs.tables.copied_texts.Given as goal

abbrev pub invariant-loop-text : goal.invariant-loop-text
invariant-loop-text l = l.copy ++ drop l.text-index l.text-items ≡ l.texts
