use Rattle.std.proofs.Common.{length, sym, take}
use Rattle.cc_store.proofs.Layouts.{ends_well}
use Rattle.cc_store.proofs.store.Store.end.Goals as goal

pub invariant_of-self : goal.invariant_of-self
invariant_of-self c =
    rw (c.pop.ensures.left, c.truncate.ensures.items) (ends_well c.self.inside.headers c.in-Some.header c.self.inside.cells.items c.self.inside.next c.self.invariant (sym c.in-Some.ensures.taken))
