use Rattle.cc_parse_files.proofs.statement.+statements.Given as goal

abbrev pub decreases-stmt : goal.decreases-stmt
decreases-stmt l = l.depth

abbrev pub decreases-body : goal.decreases-body
decreases-body l = l.depth
