use Rattle.std.proofs.Common.{ℕ, ◌<◌, arith}
use Rattle.cc_blocks.proofs.Places
use Rattle.cc_blocks.proofs.row.Row.nth.Goals as goal

pub loop-next-init : goal.loop-next-init
loop-next-init c = Places.first_on_way c.args.self.now.cells.items c.args.place c.first_at_or_after-next.result c.args.self.now.ascending c.first_at_or_after-next.ensures.some c.first_at_or_after-next.ensures.none

pub loop-next-preserved : goal.loop-next-preserved
loop-next-preserved c =
    let way : Places.IsOnWay c.args.self.now.cells.items c.args.place c.loop-next.left (Places.some_target c.in-Some.target) = rw c.in-Some.is at c.loop-next.invariant in
    Places.next_on_way c.args.self.now.cells.items c.args.place c.loop-next.left c.in-Some.target c.next_after-next.result c.args.self.now.ascending way (omega arith) c.next_after-next.ensures.some c.next_after-next.ensures.none
