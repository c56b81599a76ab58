use Rattle.std.proofs.Common.{rules, ◌≡◌, true, false, sym, ◌∙◌}
use Rattle.cc_lanes.specs.Spreading.{goes_into}
use Rattle.cc_lanes.proofs.Spreads.{into, not_into}
use Rattle.cc_lanes.proofs.laid.put_into.Goals as goal

pub returns-in_ok-push : goal.returns-in_ok-push
returns-in_ok-push c = rw (c.in_ok-push.ensures.items, c.touch_of.ensures) (into c.args.tables.now c.args.lanes.now.pairs.items c.args.whose c.args.access c.args.number c.args.out.now.items (sym c.goes_into.ensures ∙ c.if-goes_into.true))

pub returns-else-goes_into : goal.returns-else-goes_into
returns-else-goes_into c = not_into c.args.tables.now c.args.lanes.now.pairs.items c.args.whose c.args.access c.args.number c.args.out.now.items (sym c.goes_into.ensures ∙ c.if-goes_into.false)
