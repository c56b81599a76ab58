use Rattle.cc_project.proofs.KeyTexts.{field_text-owned}
use Rattle.cc_project.proofs.fault.field_key.Goals as goal

pub returns-in_ok-key-in-Some : goal.returns-in_ok-key-in-Some
returns-in_ok-key-in-Some c = field_text-owned c.args.field c.in-Some.owner _ c.in-Some.is c.in_ok-key-in-Some.ensures.ok
