use Rattle.std.proofs.Common.{sym, ◌∙◌}
use Rattle.cc_grammar.specs.Classes as class
use Rattle.cc_parse_expr.specs.Modes.{inner_at}
use Rattle.cc_parse_expr.proofs.Beginnings.{at_sizeof}
use Rattle.cc_parse_expr.proofs.grammar.Grammar.prefix.Goals as goal

pub returns-in-Sizeof : goal.returns-in-Sizeof
returns-in-Sizeof g c =
    let names = c.args.self.now.names.now in
    let d = c.args.self.now.depth in
    rw (at_sizeof names (inner_at names d) d c.args.least (class.start c.args.tokens.now) (class.spot c.args.tokens.now) c.args.tokens.now (sym c.start.ensures ∙ c.in-Sizeof.is)) (rw c.spot-note.ensures at c.sized.ensures)
