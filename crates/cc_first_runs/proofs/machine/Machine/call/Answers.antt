use Rattle.std.proofs.Common.{refl, sym, subst, None, Option, length}
use Rattle.std.proofs.lemmas.List.{length-map}
use Rattle.cc_first_runs.specs.Events.{End}
use Rattle.cc_first_runs.specs.Stacks.{program_view, function_view, Enters, GoesOn, Calls}
use Rattle.cc_first_runs.proofs.Stacks.{call_starts, frame_goes, frame_stays}
use Rattle.cc_first_runs.proofs.machine.Machine.call.Goals as goal

pub loop-frame-init : goal.loop-frame-init
loop-frame-init c =
    let size = length c.args.program.now in
    let entered = subst (λ (end : Option End). Enters size None c.args.callee c.args.self.now end c.enter.new.self) c.in_default.is c.in_ok-end.ensures in
    call_starts (program_view c.args.program.now) size (sym (length-map c.args.program.now function_view)) c.args.self.now c.enter.new.self c.args.callee c.requires entered

pub returns-in-Some-2-clause-does : goal.returns-in-Some-2-clause-does
returns-in-Some-2-clause-does c =
    let program = program_view c.args.program.now in
    let calls = frame_goes program c.args.callee c.args.self.now c.loop-frame.self (record c.loop-frame.self { frames = c.pop.new.self }) c.step.new.self c.in-Some-pop.frame c.in_ok-end-2.field-0
    c.loop-frame.invariant.does c.loop-frame.invariant.room refl refl refl c.in-Some-pop.ensures.items c.in_ok-end-2.ensures.does in
    subst (λ (end : Option End). Calls program c.args.callee c.args.self.now end c.step.new.self) c.in-Some-2.is calls

pub loop-frame-preserved : goal.loop-frame-preserved
loop-frame-preserved c =
    let program = program_view c.args.program.now in
    let popped = record c.loop-frame.self { frames = c.pop.new.self } in
    frame_stays program c.args.callee c.args.self.now c.loop-frame.self popped c.step.new.self c.in-Some-pop.frame
    c.loop-frame.invariant refl refl refl c.in-Some-pop.ensures.items
    (subst (λ (end : Option End). GoesOn program c.in-Some-pop.frame popped end c.step.new.self) c.in_default-2.is c.in_ok-end-2.ensures.does)
    (c.in_ok-end-2.ensures.room c.in_default-2.is)
