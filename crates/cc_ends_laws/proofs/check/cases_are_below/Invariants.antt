use Rattle.std.proofs.Common.{◌<◌, drop}
use Rattle.cc_ends_laws.specs.Ranks.{AllCases, rank}
use Rattle.cc_ends_laws.proofs.check.cases_are_below.Given as goal

abbrev pub invariant-loop-case : goal.invariant-loop-case
invariant-loop-case l = AllCases (λ q. rank l.ranks q < l.limit) (drop l.case-index l.cases) → AllCases (λ q. rank l.ranks q < l.limit) l.cases
