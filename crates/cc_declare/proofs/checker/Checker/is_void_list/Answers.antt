use Rattle.cc_declare.proofs.LoneParameters.{several_not_void}
use Rattle.cc_declare.proofs.checker.Checker.is_void_list.Goals as goal

-- src/parameters.rt:92:5
pub returns-in-len2-up : goal.returns-in-len2-up
returns-in-len2-up c = several_not_void c.args.self.now c.args.ps.now c.in-len2-up.len_at_least
