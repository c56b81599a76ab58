use Rattle.std.proofs.Common.{◌∙◌}
use Rattle.cc_project.proofs.KeyTexts.{key_text-item}
use Rattle.cc_project.proofs.fault.place_key.Goals as goal

pub returns-in_ok-key-in-Some : goal.returns-in_ok-key-in-Some
returns-in_ok-key-in-Some c =
    c.new-in-Some.ensures ∙ key_text-item c.args.place c.in-Some.k _ _ c.in-Some.is c.in_ok-key.ensures c.in_ok-key-in-Some.ensures.ok
