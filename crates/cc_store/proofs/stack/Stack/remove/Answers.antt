use Rattle.std.proofs.Common.{ap, ◌∙◌, reverse, take, drop, length, ◌-◌}
use Rattle.cc_store.proofs.Removes.{reverse_take}
use Rattle.cc_store.proofs.stack.Stack.remove.Goals as goal

pub returns : goal.returns
returns g c =
    ap reverse (
    c.truncate.ensures.items
    ∙ ap (λ k. take k c.self.inside.items.items) (c.saturating_sub.ensures ∙ ap (λ xs. length xs - c.args.n) c.as_slice-len.ensures.value)
    )
    ∙ reverse_take c.self.inside.items.items c.args.n
    ∙ ap (drop c.args.n) c.self.view_is
