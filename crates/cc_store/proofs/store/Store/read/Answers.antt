use Rattle.std.proofs.Common.{ap, ◌∙◌, sym, refl, length}
use Rattle.std.proofs.lemmas.Option.{slice_get_read}
use Rattle.cc_store.specs.Objects.{read_cell, read_of}
use Rattle.cc_store.proofs.Cells.{read_is, through}
use Rattle.cc_store.proofs.store.Store.read.Goals as goal

pub returns-in-Err-clause-value : goal.returns-in-Err-clause-value
returns-in-Err-clause-value c =
    ap (through c.self.inside.cells.items) c.in-Err.ensures.at
    ∙ sym (read_is c.self.inside.headers c.self.inside.cells.items c.self.inside.next c.args.p c.self.invariant)
    ∙ ap (read_cell c.args.p) c.self.view_is

pub returns-in-Ok-clause-value : goal.returns-in-Ok-clause-value
returns-in-Ok-clause-value c =
    c.given.ensures
    ∙ ap read_of (sym (slice_get_read c.self.inside.cells.items (length c.self.inside.cells.items) c.in-Ok.cell.number c.index.result.now refl (rw c.deref.ensures.value at c.in-Ok.ensures.within) c.index.ensures))
    ∙ ap (through c.self.inside.cells.items) c.in-Ok.ensures.at
    ∙ sym (read_is c.self.inside.headers c.self.inside.cells.items c.self.inside.next c.args.p c.self.invariant)
    ∙ ap (read_cell c.args.p) c.self.view_is
