use Rattle.std.proofs.Common.{◌∙◌}
use Rattle.cc_parts.proofs.PartLists.{parts_put}
use Rattle.cc_parts.proofs.build.put_parts.Goals as goal

pub returns : goal.returns
returns c = c.in_ok-put_type.ensures ∙ parts_put c.args.table.now c.args.structs.now c.args.object c.args.depth c.args.in_array c.args.kind c.args.parts.now
