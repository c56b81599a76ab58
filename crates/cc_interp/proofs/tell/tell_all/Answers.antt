use Rattle.std.proofs.Common.{take, drop, sym}
use Rattle.std.proofs.lemmas.List.{take-append-drop}
use Rattle.std.proofs.lemmas.Result.{err_from_is_err_and}
use Rattle.cc_interp.proofs.tell.tell_all.Goals as goal

pub returns-in_err-event-clause-err : goal.returns-in_err-event-clause-err
returns-in_err-event-clause-err g c =
    let p = err_from_is_err_and c.from_residual.result c.from_residual.ensures.1 in
    let n = c.loop-event.event-index in
    let events = c.args.events.now in
    rw p.1 (record { some = take n events; others = drop n events; begins = sym (take-append-drop n events); told = λ told s. c.in_err-event.ensures.err _ (c.loop-event.invariant told s) })
