use Rattle.std.proofs.Common.{ap, ◌∙◌, sym, cond, Some, None, ◌≡◌, ◌+◌}
use Rattle.cc_meaning.specs.declared.end.Undef.TheVariants.{ReadOnly}
use Rattle.cc_store.specs.Objects.{Live, refused, set_cell}
use Rattle.cc_store.proofs.Cells.{refused_is, refusal, put_is, unless_some, unless_none}
use Rattle.cc_store.proofs.store.Store.write.Goals as goal

pub returns-in-Err-clause-why : goal.returns-in-Err-clause-why
returns-in-Err-clause-why c =
    ap refusal c.in-Err.ensures.at
    ∙ sym (refused_is c.self.inside.headers c.self.inside.cells.items c.self.inside.next c.args.p c.self.invariant)
    ∙ ap (refused c.args.p) c.self.view_is

pub returns-in-Err-clause-objects : goal.returns-in-Err-clause-objects
returns-in-Err-clause-objects c =
    unless_some (refused c.args.p c.args.self.now) c.in-Err.why c.args.p c.args.value c.args.self.now (sym (
    ap refusal c.in-Err.ensures.at
    ∙ sym (refused_is c.self.inside.headers c.self.inside.cells.items c.self.inside.next c.args.p c.self.invariant)
    ∙ ap (refused c.args.p) c.self.view_is
    ))

pub returns-then-cell-clause-why : goal.returns-then-cell-clause-why
returns-then-cell-clause-why c =
    ap (λ b. cond b (Some ReadOnly) None) (sym c.if-cell.true)
    ∙ ap refusal c.in-Ok.ensures.at
    ∙ sym (refused_is c.self.inside.headers c.self.inside.cells.items c.self.inside.next c.args.p c.self.invariant)
    ∙ ap (refused c.args.p) c.self.view_is

pub returns-then-cell-clause-objects : goal.returns-then-cell-clause-objects
returns-then-cell-clause-objects c =
    unless_some (refused c.args.p c.args.self.now) ReadOnly c.args.p c.args.value c.args.self.now (sym (
    ap (λ b. cond b (Some ReadOnly) None) (sym c.if-cell.true)
    ∙ ap refusal c.in-Ok.ensures.at
    ∙ sym (refused_is c.self.inside.headers c.self.inside.cells.items c.self.inside.next c.args.p c.self.invariant)
    ∙ ap (refused c.args.p) c.self.view_is
    ))

pub returns-else-cell-clause-why : goal.returns-else-cell-clause-why
returns-else-cell-clause-why c =
    ap (λ b. cond b (Some ReadOnly) None) (sym c.if-cell.false)
    ∙ ap refusal c.in-Ok.ensures.at
    ∙ sym (refused_is c.self.inside.headers c.self.inside.cells.items c.self.inside.next c.args.p c.self.invariant)
    ∙ ap (refused c.args.p) c.self.view_is

pub returns-else-cell-clause-objects : goal.returns-else-cell-clause-objects
returns-else-cell-clause-objects c =
    let none : None ≡ refused c.args.p c.args.self.now =
    (ap (λ b. cond b (Some ReadOnly) None) (sym c.if-cell.false)
    ∙ ap refusal c.in-Ok.ensures.at
    ∙ sym (refused_is c.self.inside.headers c.self.inside.cells.items c.self.inside.next c.args.p c.self.invariant)
    ∙ ap (refused c.args.p) c.self.view_is) in
    ap (λ os. record { objects = os; next = c.self.inside.next }) (put_is c.self.inside.headers c.self.inside.cells.items c.self.inside.next c.args.p c.args.value c.in-Ok.cell c.self.invariant (sym c.in-Ok.ensures.at))
    ∙ ap (λ (n : Live). record n { objects = set_cell c.args.p.instance (c.args.p.base + c.args.p.index) c.args.value n.objects }) c.self.view_is
    ∙ unless_none (refused c.args.p c.args.self.now) c.args.p c.args.value c.args.self.now (sym none)
