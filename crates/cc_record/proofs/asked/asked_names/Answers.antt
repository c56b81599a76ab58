use Rattle.std.proofs.Common.{◌≡◌, length, ap, subst, arith}
use Rattle.cc_arena.specs.declared.arena.Arena.{Arena}
use Rattle.cc_record.specs.Asked.{IsMarked, AreMarked}
use Rattle.cc_record.proofs.AskedFacts.{marked_more, asks}
use Rattle.cc_record.proofs.asked.asked_names.Goals as goal

pub loop-n-preserved : goal.loop-n-preserved
loop-n-preserved c =
    let p = c.args.program.now in
    let mid = c.mark_all.new.asked.items in
    let new = c.mark.new.asked.items in
    marked_more p c.loop-n.asked.items mid new c.loop-n.n c.loop-n.invariant c.mark_all.ensures.kept (subst (AreMarked p mid) c.arguments.ensures c.mark_all.ensures.marked) c.mark.ensures.kept
    (subst (IsMarked new) c.returned.ensures c.mark.ensures.marked)

pub returns : goal.returns
returns c =
    let count = ap (λ (a : Arena). length a.nodes) c.arena.ensures in
    let end : c.loop-n.n ≡ length c.args.program.now.arena.nodes = omega (arith, count, c.in_ok-nodes.ensures) in
    asks c.args.program.now c.loop-n.asked.items c.loop-n.n end c.loop-n.invariant
