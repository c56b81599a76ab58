use Rattle.std.proofs.Common.{◌≡◌, suc, ◌∷◌, ◌+◌, drop, ap, ◌∙◌, arith}
use Rattle.std.specs.Prelude.{slice_index_or}
use Rattle.std.proofs.Math.Seq.{drop-cons}
use Rattle.cc_store.specs.declared.value.Value.TheVariants.{Unwritten}
use Rattle.cc_acts.specs.declared.acts.Filler.TheVariants.{Cells as SameCells}
use Rattle.cc_acts.specs.Parts.{fill_all}
use Rattle.cc_interp_step.specs.Progress.{behind}
use Rattle.cc_interp_step.proofs.Behind.{goes_with, stops_with}
use Rattle.cc_interp_step.proofs.Filling.{one_filler}
use Rattle.cc_interp_step.proofs.objects.fill_all.Goals as goal

pub returns-in-Err : goal.returns-in-Err
returns-in-Err c =
    let l = c.loop-filler in
    let a = c.args in
    let f = slice_index_or a.fillers.now l.filler-index (SameCells 0 Unwritten) in
    let rest : drop l.filler-index a.fillers.now ≡ f ∷ drop (l.filler-index + 1) a.fillers.now = drop-cons a.fillers.now l.filler-index (SameCells 0 Unwritten) c.loop-filler-test.true ∙ ap (λ n. f ∷ drop n a.fillers.now) (let e : suc l.filler-index ≡ l.filler-index + 1 = omega arith in e) in
    stops_with l.outbox c.fill_next.new.outbox _ c.in-Err.stop (λ d. fill_all a.occ a.act a.p a.operands.now d.k d.i (drop (l.filler-index + 1) a.fillers.now)) (rw c.in-Err.is at c.in_ok-stop.ensures)
    ∙ ap (behind l.outbox) (one_filler a.occ a.act a.p a.operands.now l.at f (drop (l.filler-index + 1) a.fillers.now) (drop l.filler-index a.fillers.now) l.state rest)
    ∙ l.invariant

pub loop-filler-preserved : goal.loop-filler-preserved
loop-filler-preserved c =
    let l = c.loop-filler in
    let a = c.args in
    let f = slice_index_or a.fillers.now l.filler-index (SameCells 0 Unwritten) in
    let rest : drop l.filler-index a.fillers.now ≡ f ∷ drop (l.filler-index + 1) a.fillers.now = drop-cons a.fillers.now l.filler-index (SameCells 0 Unwritten) c.loop-filler-test.true ∙ ap (λ n. f ∷ drop n a.fillers.now) (let e : suc l.filler-index ≡ l.filler-index + 1 = omega arith in e) in
    goes_with l.outbox c.fill_next.new.outbox _ c.in-Ok.next c.fill_next.new.state (λ d. fill_all a.occ a.act a.p a.operands.now d.k d.i (drop (l.filler-index + 1) a.fillers.now)) (rw c.in-Ok.is at c.in_ok-stop.ensures)
    ∙ ap (behind l.outbox) (one_filler a.occ a.act a.p a.operands.now l.at f (drop (l.filler-index + 1) a.fillers.now) (drop l.filler-index a.fillers.now) l.state rest)
    ∙ l.invariant
