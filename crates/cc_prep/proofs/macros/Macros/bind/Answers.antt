use Rattle.std.proofs.Common.{ap, ◌∙◌, if◌then◌else◌}
use Rattle.std.specs.Str.{bytes_eq}
use Rattle.cc_prep.specs.Macros.{macro_in}
use Rattle.cc_prep.proofs.MacroFacts.{macro_in-insert}
use Rattle.cc_prep.proofs.macros.Macros.bind.Goals as goal

pub returns-in-Ok : goal.returns-in-Ok
returns-in-Ok c = λ other.
    ap (λ es. macro_in es other) c.in-Ok.ensures.entries
    ∙ macro_in-insert c.args.self.now.lists.entries c.in_ok-name.name c.args.list other
    ∙ ap (λ w. if bytes_eq other w then c.args.list else macro_in c.args.self.now.lists.entries other) c.in_ok-name.ensures.ok
