use Rattle.std.proofs.Common.{◌≡◌, ◌∙◌, ℕ, List, [], Some, length, ap, subst, arith}
use Rattle.std.specs.Prelude.{◌↔◌, slice_get, Result, Ok, Err, IfOk}
use Rattle.std.specs.declared.vec.Vec.{Vec}
use Rattle.std.specs.declared.alloc.Global.{Global}
use Rattle.cc_base.specs.declared.memory.Memory.{Memory}
use Rattle.cc_blocks.specs.declared.block.Block.{Block}
use Rattle.cc_flows.specs.Masks.{points_of}
use Rattle.cc_flows.proofs.Masking.{points_long}
use Rattle.cc_flows.proofs.Flowing.{point_within, reached_ok}
use Rattle.cc_flows.proofs.flow.reach_of.Goals as goal

pub sweep-requires-clause-starts : goal.sweep-requires-clause-starts
sweep-requires-clause-starts c = point_within c.args.definitions.now c.as_slice-2.result.now (length c.args.ways.next.now) (c.as_slice-2.ensures.value ∙ c.in_ok-points.ensures) c.requires.definitions

pub sweep-requires-clause-count : goal.sweep-requires-clause-count
sweep-requires-clause-count c = omega (arith, ap (λ (xs : List ℕ). length xs) (c.as_slice-2.ensures.value ∙ c.in_ok-points.ensures), points_long c.args.definitions.now [], c.requires.count)

pub returns : goal.returns
returns c = reached_ok c.args.ways.next.now c.args.ways.wipes.now c.args.definitions.now c.args.masks.now c.in_ok-clears.clears.items c.as_slice.result.now c.as_slice-2.result.now c.sweep.result
    c.in_ok-clears.ensures.exact c.as_slice.ensures.value (c.as_slice-2.ensures.value ∙ c.in_ok-points.ensures) c.sweep.ensures.exact
