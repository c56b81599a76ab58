use Rattle.std.proofs.Common.{arith}
use Rattle.cc_rows.proofs.gather.make_room.Goals as goal

pub returns-then-len-most-clause-many : goal.returns-then-len-most-clause-many
returns-then-len-most-clause-many g c = λ e. (c.arrange.new.rows.items, c.arrange.ensures.ascending, omega (arith, c.if-len-most.true, c.len-2.ensures), λ x h. (c.arrange.ensures.same x).0 h)
