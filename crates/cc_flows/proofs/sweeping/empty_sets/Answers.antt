use Rattle.std.proofs.Common.{◌∷◌, [], refl, arith, length-append}
use Rattle.cc_flows.specs.Sweeping.{bit_at_point}
use Rattle.cc_flows.proofs.Passing.{none_push}
use Rattle.cc_flows.proofs.sweeping.empty_sets.Goals as goal

pub loop-block-init : goal.loop-block-init
unfolding bit_at_point
loop-block-init c = record { long = rw c.new-blocks.ensures.items refl; none = rw c.new-blocks.ensures.items (λ p i. refl) }

pub loop-block-preserved : goal.loop-block-preserved
loop-block-preserved c = record {
  long = rw c.in_ok-push.ensures.items (omega (arith, length-append c.loop-block.blocks.items (c.new.result ∷ []), c.loop-block.invariant.long));
  none = rw c.in_ok-push.ensures.items (none_push c.loop-block.blocks.items c.new.result c.new.ensures c.loop-block.invariant.none);
}
