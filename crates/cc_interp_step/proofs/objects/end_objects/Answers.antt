use Rattle.std.proofs.Common.{◌≡◌, ◌-◌, ap, ◌∙◌, arith}
use Rattle.cc_acts.specs.Parts.{end_name, end_names}
use Rattle.cc_interp_step.specs.Progress.{behind}
use Rattle.cc_interp_step.proofs.Behind.{goes_with, stops_with}
use Rattle.cc_interp_step.proofs.Names.{names_more}
use Rattle.cc_interp_step.proofs.objects.end_objects.Goals as goal

pub returns-in-Some : goal.returns-in-Some
returns-in-Some c =
    stops_with c.loop-left.outbox c.end_object.new.outbox _ c.in-Some.stop (λ _. end_names c.args.base (c.loop-left.left - 1)) (rw c.in-Some.is at c.in_ok-stop.ensures)
    ∙ ap (λ m. behind c.loop-left.outbox (m c.loop-left.state)) (names_more c.args.base c.loop-left.left c.loop-left-test.true)
    ∙ c.loop-left.invariant.same

pub loop-left-preserved : goal.loop-left-preserved
loop-left-preserved c =
    record {
      same =
          goes_with c.loop-left.outbox c.end_object.new.outbox _ tt c.end_object.new.state (λ _. end_names c.args.base (c.loop-left.left - 1)) (rw c.in-None.is at c.in_ok-stop.ensures)
          ∙ ap (λ m. behind c.loop-left.outbox (m c.loop-left.state)) (names_more c.args.base c.loop-left.left c.loop-left-test.true)
          ∙ c.loop-left.invariant.same;
      below = let le = c.loop-left.invariant.below in omega arith;
    }
