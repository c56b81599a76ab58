use Rattle.std.proofs.Common.{ap, ◌∙◌, sym, cond, Some, None, ◌≡◌, ◌+◌}
use Rattle.cc_store.specs.Objects.{Live, missing, set_cell}
use Rattle.cc_store.proofs.Cells.{missing_is, absence, put_is, unless_some, unless_none}
use Rattle.cc_store.proofs.store.Store.put.Goals as goal

pub returns-in-Err-clause-why : goal.returns-in-Err-clause-why
returns-in-Err-clause-why c =
    ap absence c.in-Err.ensures.at
    ∙ sym (missing_is c.self.inside.headers c.self.inside.cells.items c.self.inside.next c.args.p c.self.invariant)
    ∙ ap (missing c.args.p) c.self.view_is

pub returns-in-Err-clause-objects : goal.returns-in-Err-clause-objects
returns-in-Err-clause-objects c =
    unless_some (missing c.args.p c.args.self.now) c.in-Err.why c.args.p c.args.value c.args.self.now (sym (
    ap absence c.in-Err.ensures.at
    ∙ sym (missing_is c.self.inside.headers c.self.inside.cells.items c.self.inside.next c.args.p c.self.invariant)
    ∙ ap (missing c.args.p) c.self.view_is
    ))

pub returns-in-Ok-clause-why : goal.returns-in-Ok-clause-why
returns-in-Ok-clause-why c =
    ap absence c.in-Ok.ensures.at
    ∙ sym (missing_is c.self.inside.headers c.self.inside.cells.items c.self.inside.next c.args.p c.self.invariant)
    ∙ ap (missing c.args.p) c.self.view_is

pub returns-in-Ok-clause-objects : goal.returns-in-Ok-clause-objects
returns-in-Ok-clause-objects c =
    let none : None ≡ missing c.args.p c.args.self.now =
    (ap absence c.in-Ok.ensures.at
    ∙ sym (missing_is c.self.inside.headers c.self.inside.cells.items c.self.inside.next c.args.p c.self.invariant)
    ∙ ap (missing c.args.p) c.self.view_is) in
    ap (λ os. record { objects = os; next = c.self.inside.next }) (put_is c.self.inside.headers c.self.inside.cells.items c.self.inside.next c.args.p c.args.value c.in-Ok.cell c.self.invariant (sym c.in-Ok.ensures.at))
    ∙ ap (λ (n : Live). record n { objects = set_cell c.args.p.instance (c.args.p.base + c.args.p.index) c.args.value n.objects }) c.self.view_is
    ∙ unless_none (missing c.args.p c.args.self.now) c.args.p c.args.value c.args.self.now (sym none)
