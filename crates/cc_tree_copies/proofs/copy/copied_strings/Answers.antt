use Rattle.cc_tree_copies.proofs.Rest.{copied_more}
use Rattle.cc_tree_copies.proofs.copy.copied_strings.Goals as goal

pub loop-i-preserved : goal.loop-i-preserved
loop-i-preserved c = copied_more _ _ _ _ _ _ c.get.ensures c.in_ok-copied_bytes.ensures c.in_ok-push.ensures.ok c.loop-i.invariant
