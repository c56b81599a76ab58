use Rattle.std.proofs.Common.{rules, ◌≡◌, ap, ◌∙◌, sym, length, ◌∷◌, None, true}
use Rattle.cc_meaning.specs.declared.event.Event.TheVariants.{Enter}
use Rattle.cc_acts.specs.Runs.{Goes, give}
use Rattle.cc_acts.specs.Parts.{pass_all, begun, enter_if, has_room}
use Rattle.cc_interp_step.specs.Progress.{behind}
use Rattle.cc_interp_step.proofs.Behind.{goes_with}
use Rattle.cc_interp_step.proofs.calls.enter_frame.Goals as goal

pub returns : goal.returns
returns c =
    let old = c.args.state.now in
    let run : behind c.pass_args.new.outbox (Goes tt c.pass_args.new.state) ≡ behind (Enter c.args.site c.args.callee old.next_act ∷ c.args.outbox.now) (pass_all c.args.formals.now c.args.site old.next_act c.args.from (length old.names) 0 c.args.args.now (begun c.args.names old)) = search rules in
    let room : has_room (length c.args.args.now) old ≡ true = search rules in
    ap (λ b. behind c.pass_args.new.outbox (Goes (record { act = old.next_act; base = b; returned = None }) c.pass_args.new.state)) c.len-base.ensures
    ∙ goes_with (Enter c.args.site c.args.callee old.next_act ∷ c.args.outbox.now) c.pass_args.new.outbox _ tt c.pass_args.new.state (λ _. give (record { act = old.next_act; base = length old.names; returned = None })) run
    ∙ ap (λ b. behind c.args.outbox.now (enter_if b c.args.formals.now c.args.site c.args.callee c.args.from c.args.names c.args.args.now old)) (sym room)
