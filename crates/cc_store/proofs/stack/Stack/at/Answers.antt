use Rattle.std.proofs.Common.{ap, ◌∙◌}
use Rattle.std.specs.Prelude.{slice_get}
use Rattle.cc_store.specs.Stacks.{above}
use Rattle.cc_store.proofs.Aboves.{get_above}
use Rattle.cc_store.proofs.stack.Stack.at.Goals as goal

pub returns : goal.returns
returns g c =
    c.item_at.ensures
    ∙ ap (λ xs. slice_get xs c.args.place) c.deref.ensures.value
    ∙ get_above c.self.inside.items.items c.args.place
    ∙ ap (above c.args.place) c.self.view_is
