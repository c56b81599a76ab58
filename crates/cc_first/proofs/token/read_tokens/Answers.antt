use Rattle.std.proofs.Common.{◌+◌, ◌≤◌, get_or, sym, ◌≡◌, ◌∙◌, arith, length}
use Rattle.cc_first.proofs.TokenSteps.{step_white, step_none, step_token, step_end, line_grows, column_grows, drop_len}
use Rattle.cc_first.proofs.token.read_tokens.Goals as goal

pub loop-rest-preserved-then-is_white : goal.loop-rest-preserved-then-is_white
loop-rest-preserved-then-is_white c =
    let n : length c.behind-rest.result.now + 1 ≡ length c.loop-rest.rest.now = drop_len 1 _ _ c.in-len1-up.len_at_least c.behind-rest.ensures in
    let line : c.next-spot.result.line ≤ c.loop-rest.spot.line + 1 = rw c.next-spot.ensures (line_grows c.loop-rest.spot (get_or c.loop-rest.rest.now 0 0)) in
    let column : c.next-spot.result.column ≤ c.loop-rest.spot.column + 1 = rw c.next-spot.ensures (column_grows c.loop-rest.spot (get_or c.loop-rest.rest.now 0 0)) in
    record {
      read = rw (c.next-spot.ensures, c.behind-rest.ensures)
          (step_white c.args.bytes.now c.loop-rest.tokens.items c.loop-rest.spot c.loop-rest.rest.now c.loop-rest.invariant.read c.in-len1-up.len_at_least (sym c.is_white.ensures ∙ c.if-is_white.true));
      within = omega (arith, c.loop-rest.invariant.within);
      line = omega (arith, c.loop-rest.invariant.line);
      column = omega (arith, c.loop-rest.invariant.column);
    }

pub returns-in_default-first_kind-clause-none : goal.returns-in_default-first_kind-clause-none
returns-in_default-first_kind-clause-none c =
    step_none c.args.bytes.now c.loop-rest.tokens.items c.loop-rest.spot c.loop-rest.rest.now c.loop-rest.invariant.read c.in-len1-up.len_at_least (sym c.is_white.ensures ∙ c.if-is_white.false) c.in_default-first_kind.ensures.none

pub loop-rest-preserved : goal.loop-rest-preserved
loop-rest-preserved c =
    let first = c.in-Some.ensures.some in
    let n : length c.behind-rest-else-is_white.result.now + c.in-Some.len ≡ length c.loop-rest.rest.now = drop_len c.in-Some.len _ _ first.within c.behind-rest-else-is_white.ensures in
    record {
      read = rw (c.in_ok-push.ensures.items, c.behind-rest-else-is_white.ensures)
          (step_token c.args.bytes.now c.loop-rest.tokens.items c.loop-rest.spot c.loop-rest.rest.now c.in-Some.kind c.in-Some.len c.loop-rest.invariant.read c.in-len1-up.len_at_least (sym c.is_white.ensures ∙ c.if-is_white.false) first);
      within = omega (arith, c.loop-rest.invariant.within);
      line = omega (arith, c.loop-rest.invariant.line);
      column = omega (arith, c.loop-rest.invariant.column);
    }

pub returns-clause-some : goal.returns-clause-some
returns-clause-some c =
    step_end c.args.bytes.now c.loop-rest.tokens.items c.loop-rest.spot c.loop-rest.rest.now c.loop-rest.invariant.read c.in_default.len_below
