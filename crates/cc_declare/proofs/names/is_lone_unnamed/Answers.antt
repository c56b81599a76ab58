use Rattle.cc_declare.proofs.LoneParameters.{several}
use Rattle.cc_declare.proofs.names.is_lone_unnamed.Goals as goal

-- src/names.rt:96:1
pub returns-in-len2-up : goal.returns-in-len2-up
returns-in-len2-up c = several c.args.ps.now c.in-len2-up.len_at_least
