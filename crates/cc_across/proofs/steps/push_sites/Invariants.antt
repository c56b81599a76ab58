use Rattle.std.proofs.Common.{◌≡◌, drop}
use Rattle.cc_across.specs.Stepping.{site_steps}
use Rattle.cc_across.proofs.steps.push_sites.Given as goal

abbrev pub invariant-loop-site : goal.invariant-loop-site
invariant-loop-site l = site_steps l.graph l.calls (drop l.site-index l.sites) l.pairs.items ≡ site_steps l.graph l.calls l.sites l.initial.pairs.items
