use Rattle.std.proofs.Common.{ap, ◌∙◌, sym}
use Rattle.cc_store.specs.Objects.{Live, next_pointer}
use Rattle.cc_store.proofs.Cells.{length_is}
use Rattle.cc_store.proofs.store.Store.make.Goals as goal

pub returns-clause-pointer : goal.returns-clause-pointer
returns-clause-pointer c =
    ap (λ n. record { object = c.args.declarator; instance = c.self.inside.next; place = n; base = 0; length = 1; index = 0 }) (c.len-place.ensures ∙ sym (length_is c.self.inside.headers c.self.inside.cells.items))
    ∙ ap (next_pointer c.args.declarator) c.self.view_is
