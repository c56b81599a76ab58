use Rattle.std.proofs.Common.{ap, ◌∙◌, sym, length}
use Rattle.cc_store.specs.Objects.{Live, live_cells}
use Rattle.cc_store.proofs.Layouts.{live_is}
use Rattle.cc_store.proofs.store.Store.live.Goals as goal

pub returns : goal.returns
returns c =
    ap length c.as_slice.ensures.value
    ∙ sym (live_is c.self.inside.headers c.self.inside.cells.items c.self.inside.next c.self.invariant)
    ∙ ap (λ (m : Live). live_cells m.objects) c.self.view_is
