use Rattle.std.proofs.Common.{ap, sym, ◌∙◌}
use Rattle.std.specs.Option.{option_copied}
use Rattle.cc_link_rules.specs.Linked.{known_of}
use Rattle.cc_link_rules.proofs.Entries.{lookup_known}
use Rattle.cc_link_rules.proofs.linked.Links.find.Goals as goal

pub returns-in-Some : goal.returns-in-Some
returns-in-Some c = ap option_copied (sym c.in-Some.is) ∙ c.get.ensures.value ∙ lookup_known c.self.inside.names.entries c.args.name.now ∙ ap (λ ds. known_of ds c.args.name.now) c.self.view_is

pub returns-in-None : goal.returns-in-None
returns-in-None c = ap option_copied (sym c.in-None.is) ∙ c.get.ensures.value ∙ lookup_known c.self.inside.names.entries c.args.name.now ∙ ap (λ ds. known_of ds c.args.name.now) c.self.view_is
