use Rattle.std.proofs.Common.{sym, ◌+◌, ◌-◌, ◌/◌, ◌∙◌, arith}
use Rattle.cc_score.proofs.Search.{down, past_end, tells, up}
use Rattle.cc_score.proofs.groups.count_before.Goals as goal

pub loop-low-init : goal.loop-low-init
loop-low-init c = record {
  within = omega arith;
  below = λ row h. absurd (omega arith);
  above = λ row h. past_end c.args.listing.now c.args.kind c.args.wanted row (omega arith);
}

pub loop-low-preserved-then-is_before : goal.loop-low-preserved-then-is_before
loop-low-preserved-then-is_before c =
    let middle = c.loop-low.low + (c.loop-low.high - c.loop-low.low) / 2 in
    record {
      within = c.loop-low.invariant.within;
      below = λ row h. down c.args.listing.now c.args.kind c.args.wanted c.requires row middle c.row.result.now (omega arith) c.row.ensures (sym c.is_before.ensures ∙ c.if-is_before.true);
      above = c.loop-low.invariant.above;
    }

pub loop-low-preserved : goal.loop-low-preserved
loop-low-preserved c =
    let middle = c.loop-low.low + (c.loop-low.high - c.loop-low.low) / 2 in
    record {
      within = omega arith;
      below = c.loop-low.invariant.below;
      above = λ row h. up c.args.listing.now c.args.kind c.args.wanted c.requires middle row c.row.result.now h c.row.ensures (sym c.is_before.ensures ∙ c.if-is_before.false);
    }

pub returns : goal.returns
returns c = λ row.
    tells c.args.listing.now c.args.kind c.args.wanted c.requires c.loop-low.low row (c.loop-low.invariant.below row) (λ ge. c.loop-low.invariant.above row (omega arith))
