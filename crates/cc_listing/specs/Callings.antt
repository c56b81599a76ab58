-- Who may call whom, and the steps that this gives.
use Rattle.std.specs.Prelude.{◌≡◌, ◌<◌, length}
use Rattle.cc_across.specs.declared.calls.Calls.{Calls}
use Rattle.cc_across.specs.Calling.{AreCalls}
use Rattle.cc_across.specs.Crossing.{AreNext}
use Rattle.cc_facts.specs.declared.facts.Facts.{Facts}
use Rattle.cc_flows.specs.Sweeping.{StaysWithin}
use Rattle.cc_graph.specs.declared.graph.Graph.{Graph}
use Rattle.cc_listing_shared.specs.Living.{IsReach}
use Rattle.cc_program.specs.declared.program.Program.{Program}
use Rattle.cc_listing.specs.declared.callings.Callings.{Callings}
use Rattle.cc_listing.specs.Sites.{pairs_of}

-- by these calls
pub record AreCallingsBy (P : Program) (G : Graph) (C : Calls) (c : Callings) : Type 0 where
  pub are_next : AreNext P G C c.next.items
  pub is_reach : IsReach c.next.items 0 c.reach.items
  pub sites : c.sites.items ≡ C.sites.items
  pub pairs : c.pairs.items ≡ pairs_of C
  pub stays : StaysWithin c.next.items
  pub long : length c.next.items ≡ G.points
  pub some : 0 < length c.next.items

-- by the calls that the facts give
abbrev pub AreCallings : Program → Graph → Facts → Callings → Type 0
AreCallings P G F c = (C : Calls) × AreCalls P G F C × AreCallingsBy P G C c
