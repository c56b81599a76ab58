use Rattle.std.proofs.Common.{sym, ◌∙◌, map}
use Rattle.std.proofs.lemmas.List.{map-append}
use Rattle.cc_first.specs.Views.{name_view}
use Rattle.cc_first.proofs.UnitReads.{calls_more, calls_some, calls_none}
use Rattle.cc_first.proofs.unit.first_calls.Goals as goal

pub loop-call-preserved : goal.loop-call-preserved
loop-call-preserved c =
    rw (c.in_ok-push.ensures.items, c.behind-rest.ensures)
    (rw map-append (calls_more c.args.tokens.now (map name_view c.loop-call.calls.items) c.loop-call.rest.now (name_view c.in-Some.call) c.loop-call.invariant (sym c.in-Some.ensures)))

pub returns-then-is_mark-clause-some : goal.returns-then-is_mark-clause-some
returns-then-is_mark-clause-some c =
    calls_some c.args.tokens.now (map name_view c.loop-call.calls.items) c.loop-call.rest.now c.loop-call.invariant (sym c.in_default.ensures) (sym c.is_mark.ensures ∙ c.if-is_mark.true)

pub returns-clause-none : goal.returns-clause-none
returns-clause-none c =
    calls_none c.args.tokens.now (map name_view c.loop-call.calls.items) c.loop-call.rest.now c.loop-call.invariant (sym c.in_default.ensures) (sym c.is_mark.ensures ∙ c.if-is_mark.false)
