use Rattle.std.proofs.Common.{◌≡◌, drop}
use Rattle.cc_link.specs.Tables.{entries_from, entries as all}
use Rattle.cc_link.proofs.tables.entries.Given as goal

abbrev pub invariant-loop-name : goal.invariant-loop-name
invariant-loop-name l = entries_from l.links l.numbers (drop l.name-index l.name-items) l.entries ≡ all l.links l.numbers l.names
