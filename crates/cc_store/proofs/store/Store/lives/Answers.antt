use Rattle.std.proofs.Common.{ap, ◌∙◌, sym}
use Rattle.std.specs.Prelude.{is_some}
use Rattle.cc_store.specs.Objects.{Live, object_of}
use Rattle.cc_store.specs.Layout.{header_of}
use Rattle.cc_store.proofs.Layouts.{object_is}
use Rattle.cc_store.proofs.Cells.{some_is}
use Rattle.cc_store.proofs.store.Store.lives.Goals as goal

pub returns : goal.returns
returns c =
    c.is_some.ensures
    ∙ ap is_some c.header_at.ensures
    ∙ sym (some_is (header_of c.args.p.instance c.self.inside.headers) c.self.inside.cells.items)
    ∙ ap is_some (sym (object_is c.self.inside.headers c.self.inside.cells.items c.self.inside.next c.args.p.instance c.self.invariant))
    ∙ ap (λ (m : Live). is_some (object_of c.args.p.instance m.objects)) c.self.view_is
