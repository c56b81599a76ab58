use Rattle.std.proofs.Common.{ap, sym, ◌∙◌}
use Rattle.std.specs.Prelude.{Some}
use Rattle.cc_prep.proofs.MacroFacts.{joined, joined-lookup}
use Rattle.cc_prep.proofs.macros.Macros.find.Goals as goal

pub returns-in-Some-list-clause-some : goal.returns-in-Some-list-clause-some
returns-in-Some-list-clause-some c =
    sym (joined-lookup c.args.self.now.lists.entries c.args.name.now) ∙ ap joined (sym c.in-Some.ensures.value) ∙ c.in-Some-list.is ∙ ap Some (sym c.as_slice.ensures)

pub returns-in-None-list-clause-none : goal.returns-in-None-list-clause-none
returns-in-None-list-clause-none c = sym (joined-lookup c.args.self.now.lists.entries c.args.name.now) ∙ ap joined (sym c.in-Some.ensures.value) ∙ c.in-None-list.is

pub returns-in-None-clause-none : goal.returns-in-None-clause-none
returns-in-None-clause-none c = sym (joined-lookup c.args.self.now.lists.entries c.args.name.now) ∙ ap joined (sym c.in-None.ensures.value)
