use Rattle.std.proofs.Common.{◌≡◌, ◌++◌, drop}
use Rattle.std.specs.List.{flat_map}
use Rattle.cc_handing.specs.Passing.{passed, passed_at}
use Rattle.cc_handing.proofs.pass.passed_of.Given as goal

abbrev pub invariant-loop-site : goal.invariant-loop-site
invariant-loop-site l = l.out.items ++ flat_map (passed_at l.program l.graph l.parts l.reach l.root) (drop l.site-index l.sites) ≡ passed l.program l.graph l.parts l.reach l.root l.sites
