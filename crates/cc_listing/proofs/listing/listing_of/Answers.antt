use Rattle.std.proofs.Common.{sym, subst}
use Rattle.cc_listing.specs.Answers as spec
use Rattle.cc_listing.proofs.Refusing.{by_facts}
use Rattle.cc_listing.proofs.listing.listing_of.Goals as goal

pub returns-in-Ok-couplings_by-clause-listed : goal.returns-in-Ok-couplings_by-clause-listed
returns-in-Ok-couplings_by-clause-listed c = (
  c.in-Ok.facts,
  c.in-Ok.ensures.facts,
  subst (spec.AreListed c.args.program.now c.args.graph.now c.in-Ok.facts) (sym c.new.ensures) c.in-Ok-couplings_by.ensures.listed,
)

pub returns-in-Ok-clause-fault : goal.returns-in-Ok-clause-fault
returns-in-Ok-clause-fault c =
    by_facts c.args.program.now c.args.graph.now c.in-Ok.facts c.in-Err-couplings_by.fault c.in-Ok.ensures.facts c.in-Err-couplings_by.ensures.fault
