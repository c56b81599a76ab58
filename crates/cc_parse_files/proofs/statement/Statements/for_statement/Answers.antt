use Rattle.cc_tree.specs.Views.{view_start}
use Rattle.cc_parse_files.proofs.Clauses.{for_from}
use Rattle.cc_parse_files.proofs.statement.Statements.for_statement.Goals as goal

pub returns-clause-gives : goal.returns-clause-gives
returns-clause-gives g c =
    rw (for_from c.args.self.now.depth c.args.names.now c.start_clause.new.names c.args.spot c.args.tokens.now c.skip.new.self c.take.new.self c.start_clause.new.tokens (view_start c.in_ok-start.start)
    c.skip.ensures c.in_ok-take.ensures.gives c.in_ok-start.ensures.gives c.in_ok-start.ensures.after) c.for_behind.ensures.gives
