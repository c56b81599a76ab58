use Rattle.cc_listing_calls.proofs.rows.add_passes.Goals as goal

pub returns-clause-rows : goal.returns-clause-rows
returns-clause-rows c = rw c.items_at.ensures at c.add_arguments.ensures.rows

pub returns-clause-many : goal.returns-clause-many
returns-clause-many c = rw c.items_at.ensures at c.add_arguments.ensures.many
