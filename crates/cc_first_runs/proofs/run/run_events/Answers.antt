use Rattle.std.proofs.Common.{◌<◌, ◌≤◌, arith, refl, subst, length, Option, get_or}
use Rattle.cc_first_runs.specs.Events.{End, Done}
use Rattle.cc_first_runs.specs.Stacks.{program_view, Calls}
use Rattle.cc_first_runs.proofs.Stacks.{call_ends, test_ends}
use Rattle.cc_first_runs.proofs.run.run_events.Goals as goal

pub returns-in-Some : goal.returns-in-Some
returns-in-Some c =
    let program = program_view c.args.program.now in
    let calls = c.args.calls.now in
    let i = c.loop-call.call-index in
    let below : i < length calls = omega arith in
    let does = subst (λ (end : Option End). Calls program (get_or calls i 0) c.loop-call.machine end c.call.new.self) c.in-Some.is c.in_ok-end.ensures.does in
    call_ends program calls c.args.turns i c.loop-call.machine c.call.new.self c.in-Some.end c.loop-call.invariant below does (record { events = c.call.new.self.events; end = c.in-Some.end }) refl refl

pub returns : goal.returns
returns c =
    let calls = c.args.calls.now in
    let past : length calls ≤ c.loop-call.call-index = omega arith in
    test_ends (program_view c.args.program.now) calls c.args.turns c.loop-call.call-index c.loop-call.machine c.loop-call.invariant past (record { events = c.loop-call.machine.events; end = Done }) refl refl
