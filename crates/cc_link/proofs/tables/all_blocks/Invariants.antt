use Rattle.std.proofs.Common.{◌≡◌, drop}
use Rattle.cc_link.specs.Tables.{blocks_from, all_blocks as all}
use Rattle.cc_link.proofs.tables.all_blocks.Given as goal

abbrev pub invariant-loop-placed : goal.invariant-loop-placed
invariant-loop-placed l = blocks_from l.arena.nodes (drop l.placed-index l.placed-items) l.number l.blocks ≡ all l.arena.nodes
