use Rattle.std.proofs.Common.{◌≡◌, ◌∙◌, ap, sym, refl, arith, ◌+◌, ◌++◌, ◌∷◌, [], suc, length}
use Rattle.std.proofs.lemmas.List.{length-map}
use Rattle.std.proofs.lemmas.Result.{IfOk-weaker}
use Rattle.cc_first_runs.specs.Stacks.{program_view, function_view}
use Rattle.cc_first_runs.proofs.Stacks.{over_goes, no_body_goes, callee_goes}
use Rattle.cc_first_runs.proofs.machine.Machine.step.Goals as goal

pub overflow_add-next : goal.overflow_add-next
overflow_add-next c = let small = c.in-Callee.ensures.is.small in omega arith

pub returns-in_ok-push-in-Over-clause-does : goal.returns-in_ok-push-in-Over-clause-does
returns-in_ok-push-in-Over-clause-does c =
    let old = c.args.self.now in
    over_goes (program_view c.args.program.now) (length c.args.program.now) (sym (length-map c.args.program.now function_view)) old (record old { events = c.push.new.self }) c.args.frame c.in-Over.ensures.is refl refl refl c.in_ok-push-in-Over.ensures.items

pub returns-in-NoBody-clause-does : goal.returns-in-NoBody-clause-does
returns-in-NoBody-clause-does c =
    let old = c.args.self.now in
    no_body_goes (program_view c.args.program.now) (length c.args.program.now) (sym (length-map c.args.program.now function_view)) old old c.args.frame c.in-NoBody.ensures.is refl

pub returns-in_ok-push-in-Callee-clause-does : goal.returns-in_ok-push-in-Callee-clause-does
returns-in_ok-push-in-Callee-clause-does c =
    let old = c.args.self.now in
    let next : c.args.frame.next + 1 ≡ suc c.args.frame.next = omega arith in
    let frames = c.in_ok-push-in-Callee.ensures.items ∙ ap (λ n. old.frames.items ++ record { function = c.args.frame.function; next = n; act = c.args.frame.act } ∷ []) next in
    IfOk-weaker c.enter.result _ _ (callee_goes (program_view c.args.program.now) (length c.args.program.now) (sym (length-map c.args.program.now function_view)) old (record old { frames = c.push-in-Callee.new.self; small = _ }) c.enter.new.self c.args.frame c.in-Callee.callee c.in-Callee.ensures.is refl refl refl frames) c.enter.ensures
