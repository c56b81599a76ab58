use Rattle.std.proofs.Common.{◌≡◌, drop}
use Rattle.cc_link_rules.specs.Standings.{standings_from, standings as all_standings}
use Rattle.cc_link_rules.proofs.standing.standings.Given as goal

abbrev pub invariant-loop-declared : goal.invariant-loop-declared
invariant-loop-declared l = standings_from l.links l.definitions l.texts l.number (drop l.declared-index l.declared-items) l.table ≡ all_standings l.links l.definitions l.texts l.declared
