use Rattle.std.proofs.Common.{◌≡◌, drop}
use Rattle.cc_handing.specs.Handing.{with_sites}
use Rattle.cc_handing.proofs.argument.put_arguments.Given as goal

abbrev pub invariant-loop-site : goal.invariant-loop-site
invariant-loop-site l = with_sites l.program l.graph l.parts (drop l.site-index l.sites) l.handed ≡ with_sites l.program l.graph l.parts l.sites l.initial.handed
