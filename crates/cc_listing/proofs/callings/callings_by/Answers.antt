use Rattle.std.proofs.Common.{sym, subst}
use Rattle.cc_flows.specs.Sweeping.{StaysWithin}
use Rattle.cc_listing.proofs.callings.callings_by.Goals as goal

pub reach_of-requires-clause-next : goal.reach_of-requires-clause-next
reach_of-requires-clause-next c = subst StaysWithin (sym c.as_slice-2.ensures.value) c.in_ok-next.ensures.stays
