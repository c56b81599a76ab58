use Rattle.std.proofs.Common.{ℕ}
use Rattle.std.specs.Prelude.{Contains, ◌↔◌}
use Rattle.cc_across.specs.Reaching.{IsSiteBelow}
use Rattle.cc_across.proofs.calls.live_sites.Given as goal

abbrev pub invariant-loop-s : goal.invariant-loop-s
invariant-loop-s l = (k : ℕ) → Contains l.sites.items k ↔ IsSiteBelow l.arena l.graph l.owners l.live l.s k
