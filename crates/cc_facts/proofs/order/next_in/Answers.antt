use Rattle.std.proofs.Common.{◌≡◌, sym, ap, ◌∙◌}
use Rattle.std.specs.Option.{option_copied}
use Rattle.cc_facts.proofs.Ordered
use Rattle.cc_facts.proofs.order.next_in.Goals as goal

pub returns-in-Some : goal.returns-in-Some
returns-in-Some c = Ordered.next_on c.first_at_or_after.result c.args.rows.now.rows.items c.args.holder c.args.from c.in-Some.row.now (sym c.row_at.ensures ∙ ap option_copied c.in-Some.is) c.first_at_or_after.ensures.some c.first_at_or_after.ensures.none

pub returns-in-None : goal.returns-in-None
returns-in-None c = Ordered.next_none c.args.rows.now.rows.items c.args.holder c.args.from (sym c.row_at.ensures ∙ ap option_copied c.in-None.is)
