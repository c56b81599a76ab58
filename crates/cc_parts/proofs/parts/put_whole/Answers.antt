use Rattle.cc_parts.specs.PartTables.{object_parts}
use Rattle.cc_parts.proofs.parts.put_whole.Goals as goal

pub returns : goal.returns
unfolding object_parts
returns c = c.in_ok-put_parts.ensures
