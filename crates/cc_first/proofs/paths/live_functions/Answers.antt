use Rattle.std.proofs.Common.{◌∙◌, ℕ, Bool, subst, length, List, sym}
use Rattle.std.specs.Prelude.{◌↔◌}
use Rattle.std.specs.declared.vec.Vec.{Vec}
use Rattle.std.specs.declared.alloc.Global.{Global}
use Rattle.std.proofs.lemmas.Result.{IfOk-weaker}
use Rattle.cc_base.specs.declared.reach.Edge.{Edge}
use Rattle.cc_base.specs.Edges.{AreBelow, IsMarked, Leads}
use Rattle.cc_base.specs.Paths.{Reaches}
use Rattle.cc_first_runs.specs.Points.{IsLive}
use Rattle.cc_first.specs.Views.{program_view}
use Rattle.cc_first.proofs.PathEdges.{call_edges_whole}
use Rattle.cc_first.proofs.PathSites.{edges_below, reaches_live}
use Rattle.cc_first.proofs.paths.live_functions.Goals as goal

pub reachable-requires-clause-edges : goal.reachable-requires-clause-edges
reachable-requires-clause-edges c =
    let all = call_edges_whole c.args.program.now.calls.items c.deref-call-items.result.now c.deref.result.now c.loop-call.edges.items c.loop-call.call-index c.deref-call-items.ensures.value c.deref.ensures.value c.loop-call-test.false c.loop-call.invariant in
    let count = c.len.ensures ∙ c.args.program.now.functions.ok.0 in
    subst (λ (n : ℕ). AreBelow n c.deref.result.now) (sym count) (subst (AreBelow (length c.args.program.now.functions.items)) (sym all) (edges_below c.args.program.now c.requires))

pub returns-clause-exact : goal.returns-clause-exact
returns-clause-exact c =
    let all = call_edges_whole c.args.program.now.calls.items c.deref-call-items.result.now c.deref.result.now c.loop-call.edges.items c.loop-call.call-index c.deref-call-items.ensures.value c.deref.ensures.value c.loop-call-test.false c.loop-call.invariant in
    let entry = c.args.program.now.entry in
    IfOk-weaker c.reachable.result
    (λ (marks : Vec Bool Global). (f : ℕ) → IsMarked marks.items f ↔ Reaches (Leads c.deref.result.now) entry f)
    (λ (marks : Vec Bool Global). (f : ℕ) → IsMarked marks.items f ↔ IsLive (program_view c.args.program.now) entry f)
    (λ marks exact f.
    let paths = reaches_live c.args.program.now c.requires f in (
      λ marked. paths.0 (subst (λ (edges : List Edge). Reaches (Leads edges) entry f) all ((exact f).0 marked)),
      λ live. (exact f).1 (subst (λ (edges : List Edge). Reaches (Leads edges) entry f) (sym all) (paths.1 live)),
    ))
    c.reachable.ensures.exact
