use Rattle.std.proofs.Common.{◌≡◌, ◌++◌, drop}
use Rattle.cc_uses.specs.Tabling.{occurrences_from}
use Rattle.cc_uses.proofs.tables.occurrences_of.Given as goal

abbrev pub invariant-loop-it : goal.invariant-loop-it
invariant-loop-it l = record {
  made : l.all ++ occurrences_from l.program (drop l.it-index l.peeled) l.n ≡ occurrences_from l.program l.peeled 0;
  counted : l.n ≡ l.it-index;
}
