use Rattle.std.proofs.Common.{◌≡◌, ◌-◌, ◌+◌, ap, ◌∙◌, arith}
use Rattle.cc_acts.specs.Runs.{◌>>◌}
use Rattle.cc_acts.specs.Parts.{fill, fill_same}
use Rattle.cc_interp_step.specs.Progress.{behind}
use Rattle.cc_interp_step.proofs.Behind.{goes_with, stops_with}
use Rattle.cc_interp_step.proofs.Names.{same_more}
use Rattle.cc_interp_step.proofs.objects.fill_same.Goals as goal

pub returns-in-Some : goal.returns-in-Some
returns-in-Some c =
    let l = c.loop-left in
    let a = c.args in
    stops_with l.outbox c.fill_one.new.outbox _ c.in-Some.stop (λ _. fill_same a.occ a.act a.p (l.at + 1) (l.left - 1) a.value) (rw c.in-Some.is at c.in_ok-stop.ensures)
    ∙ ap (λ q. behind l.outbox ((fill a.occ a.act q a.value >> fill_same a.occ a.act a.p (l.at + 1) (l.left - 1) a.value) l.state)) c.cell_on.ensures
    ∙ ap (λ m. behind l.outbox (m l.state)) (same_more a.occ a.act a.p l.at l.left a.value c.loop-left-test.true)
    ∙ l.invariant.same

pub loop-left-preserved : goal.loop-left-preserved
loop-left-preserved c =
    let l = c.loop-left in
    let a = c.args in
    let sum = l.invariant.sum in
    let lt = c.loop-left-test.true in
    record {
      same =
          goes_with l.outbox c.fill_one.new.outbox _ tt c.fill_one.new.state (λ _. fill_same a.occ a.act a.p (l.at + 1) (l.left - 1) a.value) (rw c.in-None.is at c.in_ok-stop.ensures)
          ∙ ap (λ q. behind l.outbox ((fill a.occ a.act q a.value >> fill_same a.occ a.act a.p (l.at + 1) (l.left - 1) a.value) l.state)) c.cell_on.ensures
          ∙ ap (λ m. behind l.outbox (m l.state)) (same_more a.occ a.act a.p l.at l.left a.value c.loop-left-test.true)
          ∙ l.invariant.same;
      sum = omega arith;
    }
