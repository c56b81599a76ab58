use Rattle.std.proofs.Common.{ap, map, ◌∙◌}
use Rattle.std.specs.String.{string_bytes}
use Rattle.cc_grammar.specs.Names.{added}
use Rattle.cc_parse_tokens.proofs.NameLists.{added_string}
use Rattle.cc_parse_tokens.proofs.names.TypedefNames.add.Goals as goal

pub returns-clause-ok : goal.returns-clause-ok
returns-clause-ok c =
    ap (map string_bytes) c.in_ok-insert.ensures.keys
    ∙ added_string c.in_ok-name.name c.self.inside.names.keys
    ∙ ap (λ x. added x (map string_bytes c.self.inside.names.keys)) c.in_ok-name.ensures.ok
    ∙ ap (added c.args.name.now) c.self.view_is
