use Rattle.std.proofs.Common.{◌∙◌}
use Rattle.cc_first.proofs.UnitStands.{among_keys}
use Rattle.cc_first.proofs.unit.is_known.Goals as goal

pub returns : goal.returns
returns c = c.contains.ensures ∙ among_keys c.args.heads.now.keys c.args.name.now.text.now
