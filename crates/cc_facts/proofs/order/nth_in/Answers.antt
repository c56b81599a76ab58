use Rattle.std.proofs.Common.{◌≡◌, sym, ap, ◌∙◌}
use Rattle.std.specs.Option.{option_copied}
use Rattle.cc_facts.proofs.Ordered
use Rattle.cc_facts.proofs.order.nth_in.Goals as goal

pub returns-in-Some : goal.returns-in-Some
returns-in-Some c = Ordered.nth_on c.nth.result c.args.rows.now.rows.items c.args.holder c.args.place c.in-Some.row.now (sym c.row_at.ensures ∙ ap option_copied c.in-Some.is) c.nth.ensures.some c.nth.ensures.none

pub returns-in-None : goal.returns-in-None
returns-in-None c = Ordered.nth_none c.args.rows.now.rows.items c.args.holder c.args.place (sym c.row_at.ensures ∙ ap option_copied c.in-None.is)
