use Rattle.cc_listing_calls.specs.Views.{steps_of, accesses_of}
use Rattle.cc_listing_calls.proofs.Joining.{if_same}
use Rattle.cc_listing_calls.proofs.listed.listed_calls.Goals as goal

pub returns-clause-listed : goal.returns-clause-listed
returns-clause-listed c = if_same (steps_of c.args.roads c.args.root) c.args.tables.now (accesses_of c.args.uses) c.args.calls c.in_ok-rows.rows.items c.limited.result c.limited.ensures.same c.in_ok-rows.ensures.listed
