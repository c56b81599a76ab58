use Rattle.std.specs.Prelude.{Contains}
use Rattle.cc_listing_calls.proofs.Ordering.{more_rows}
use Rattle.cc_listing_rows.proofs.Joined.{if_listed, more_listed}
use Rattle.cc_listing_rows.proofs.listed.listed_rows.Goals as goal

pub returns-clause-listed : goal.returns-clause-listed
returns-clause-listed c = if_listed c.args.roads.next.now c.args.roads.within.now c.args.root c.args.tables.now c.args.uses.writes.now c.args.uses.given.now c.args.uses.passed.now c.args.uses.reads.now c.args.calls c.in_ok-rows.rows.items c.limited.result c.limited.ensures.same c.in_ok-rows.ensures.listed

pub returns-clause-many : goal.returns-clause-many
returns-clause-many c = λ is. more_listed c.args.roads.next.now c.args.roads.within.now c.args.root c.args.tables.now c.args.uses.writes.now c.args.uses.given.now c.args.uses.passed.now c.args.uses.reads.now c.args.calls c.in_ok-rows.rows.items c.args.most c.in_ok-rows.ensures.listed (more_rows (Contains c.in_ok-rows.rows.items) c.args.most (c.limited.ensures.many is))
