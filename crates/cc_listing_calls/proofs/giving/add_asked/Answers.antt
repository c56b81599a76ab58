use Rattle.cc_listing_calls.proofs.giving.add_asked.Goals as goal

pub returns-clause-rows : goal.returns-clause-rows
returns-clause-rows c = rw c.items_at.ensures at c.add_returneds.ensures.rows

pub returns-clause-many : goal.returns-clause-many
returns-clause-many c = rw c.items_at.ensures at c.add_returneds.ensures.many
