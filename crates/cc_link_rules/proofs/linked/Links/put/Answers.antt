use Rattle.std.proofs.Common.{ap, ◌∙◌}
use Rattle.cc_link_rules.specs.Linked.{put}
use Rattle.cc_link_rules.proofs.Entries.{names_in, insert_put}
use Rattle.cc_link_rules.proofs.linked.Links.put.Goals as goal

pub returns : goal.returns
returns c = ap names_in c.in_ok-insert.ensures.entries ∙ insert_put c.self.inside.names.entries c.args.name c.args.linked ∙ ap (λ ds. put ds c.args.name.now c.args.linked) c.self.view_is
