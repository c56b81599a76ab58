use Rattle.std.proofs.Common.{sym, ◌∙◌}
use Rattle.cc_flows.proofs.Passing.{at_row}
use Rattle.cc_flows.proofs.Masking.{none_at}
use Rattle.cc_flows.proofs.mask.block_at.Goals as goal

pub returns-in-Some : goal.returns-in-Some
returns-in-Some c = λ i. sym (at_row c.args.blocks.now c.args.at i c.in-Some.block (sym c.find.ensures ∙ c.in-Some.is))

pub returns-in-None : goal.returns-in-None
returns-in-None c = λ i. c.new.ensures i ∙ sym (none_at c.args.blocks.now c.args.at i (sym c.find.ensures ∙ c.in-None.is))
