use Rattle.std.proofs.Common.{◌∙◌, ◌<◌, ◌≤◌, length, arith}
use Rattle.cc_first.proofs.PathRows.{IsRead, is_read, read_taken, read_same, read_unreached, chosen_none, chosen_all}
use Rattle.cc_first.proofs.paths.coupling_calls.Goals as goal
use Rattle.cc_first.proofs.paths.coupling_calls.Goals.{then-index+then-ne+in_ok-push, else-index, else-index-via-then-index+else-ne, else-index-via-else-index}

pub loop-i-init : goal.loop-i-init
loop-i-init c = chosen_none c.args.program.now c.new-couplings.result.items c.new-couplings.ensures.items

pub loop-i-preserved : goal.loop-i-preserved
loop-i-preserved c =
    let program = c.args.program.now in
    let n = c.loop-i.i in
    let call = c.index-call.result.now in
    let caller = c.index.result.now in
    let callee = c.index-in-loop-i.result.now in
    let reached = c.in_ok-reached.reached.items in
    let mark = c.index-in-loop-i-2.result.now in
    let chosen = c.loop-i.couplings.items in
    let lt : n < length program.calls.items = (let t = c.loop-i-test.true in let e = c.len-i-end.ensures ∙ program.calls.ok.0 in omega arith) in
    let read : IsRead program n call caller callee reached mark =
    is_read program n call caller callee reached mark c.requires lt c.in_ok-reached.ensures.len c.in_ok-reached.ensures.exact c.index-call.ensures c.index.ensures c.index-in-loop-i.ensures c.index-in-loop-i-2.ensures in
    elim c.if-index.branch [
      | then-index+then-ne+in_ok-push w ↦ rw (w.couplings-is, w.in_ok-push.ensures.items) (read_taken program n call caller callee reached mark w.ne.result chosen c.requires read w.if-index.true w.ne.ensures w.if-ne.true c.loop-i.invariant)
      | else-index w ↦ rw w.couplings-is (elim w.else-index.branch [
        | else-index-via-then-index+else-ne v ↦ read_same program n call caller callee reached mark v.ne.result chosen c.requires read v.ne.ensures v.if-ne.false c.loop-i.invariant
        | else-index-via-else-index v ↦ read_unreached program n call caller callee reached mark chosen read v.if-index.false c.loop-i.invariant
      ])
    ]

pub returns : goal.returns
returns c =
    let program = c.args.program.now in
    let long : length program.calls.items ≤ c.loop-i.i = (let t = c.loop-i-test.false in let e = c.len-i-end.ensures ∙ program.calls.ok.0 in omega arith) in
    chosen_all program c.loop-i.i c.loop-i.couplings.items c.requires long c.loop-i.invariant
