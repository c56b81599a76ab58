use Rattle.std.proofs.Common.{◌≡◌, ◌∙◌, ◌<◌, ◌≤◌, ◌+◌, ◌*◌, ◌∷◌, [], ℕ, Bool, List, Some, length, length-append, get_or, refl, ap, sym, subst, arith, slice_get}
use Rattle.std.specs.Prelude.{◌↔◌}
use Rattle.std.proofs.lemmas.Option.{slice_get_read, slice_get-get_or}
use Rattle.cc_base.specs.declared.reach.Edge.{Edge}
use Rattle.cc_base.specs.Edges.{AreBelow, IsMarked, Leads}
use Rattle.cc_base.specs.Paths.{Reaches}
use Rattle.cc_first.specs.Numbers.{before_of}
use Rattle.cc_first.specs.declared.program.Call.{Call}
use Rattle.cc_first.proofs.PathExact.{AreLive, edges_within, before_within, reached_exact, read_more}
use Rattle.cc_first.proofs.paths.reached_calls.Goals as goal

pub reachable-requires-clause-edges : goal.reachable-requires-clause-edges
reachable-requires-clause-edges c =
    let program = c.args.program.now in
    let count : c.len.result ≡ 2 * length program.functions.items + length program.calls.items = (let f = c.in_ok-points.ensures.functions in let k = c.in_ok-points.ensures.calls in let l = c.len.ensures in omega arith) in
    let live = subst (AreLive program) (sym c.deref.ensures.value) c.in_ok-live.ensures.exact in
    subst (λ (n : ℕ). AreBelow n c.deref-2.result.now) (sym count)
    (subst (AreBelow (2 * length program.functions.items + length program.calls.items)) (sym c.deref-2.ensures.value)
    (edges_within program c.requires c.deref.result.now c.in_ok-edges.edges.items live c.in_ok-edges.ensures))

pub reachable-requires-clause-start : goal.reachable-requires-clause-start
reachable-requires-clause-start c =
    let f = c.in_ok-points.ensures.functions in
    let e = c.requires.entry in
    let l = c.len.ensures in
    omega arith

pub loop-i-preserved : goal.loop-i-preserved
loop-i-preserved c =
    let program = c.args.program.now in
    let functions = length program.functions.items in
    let calls = program.calls.items in
    let marks = c.in_ok-marks.marks.items in
    let i = c.loop-i.i in
    let d : Call = record { name = record { text = record { ref_ptr = (0, 0); now = [] }; spot = record { line = 0; column = 0 } }; caller = 0; callee = 0 } in
    let inside : i < length calls = subst (λ (cs : List Call). i < length cs) c.as_slice-calls.ensures.value c.loop-i-test.true in
    let at = slice_get-get_or calls i d inside in
    let live = subst (AreLive program) (sym c.deref.ensures.value) c.in_ok-live.ensures.exact in
    let below = before_within program c.requires c.deref.result.now c.in_ok-edges.edges.items live c.in_ok-edges.ensures i (get_or calls i d) at in
    let point : c.point_before.result ≡ before_of functions calls i = c.point_before.ensures ∙ ap (λ (f : ℕ). before_of f c.as_slice-calls.result.now i) c.in_ok-points.ensures.functions ∙ ap (λ (cs : List Call). before_of functions cs i) c.as_slice-calls.ensures.value in
    let count : length marks ≡ 2 * functions + length calls = (let m = c.in_ok-marks.ensures.len in let f = c.in_ok-points.ensures.functions in let k = c.in_ok-points.ensures.calls in let l = c.len.ensures in omega arith) in
    let within : c.point_before.result < length marks = omega arith in
    let read = slice_get_read marks (length marks) c.point_before.result c.index.result.now refl within c.index.ensures in
    let new : slice_get marks (before_of functions calls i) ≡ Some c.index.result.now = ap (slice_get marks) (sym point) ∙ read in
    let items = c.in_ok-push.ensures.items in
    record {
      len = ap length items ∙ (let e = length-append c.loop-i.reached.items (c.index.result.now ∷ []) in let l = c.loop-i.invariant.len in omega arith);
      same = λ k lt. ap (λ (xs : List Bool). slice_get xs k) items ∙ read_more c.loop-i.reached.items marks functions calls i c.index.result.now c.loop-i.invariant.len c.loop-i.invariant.same new k lt;
    }

pub returns-clause-exact : goal.returns-clause-exact
returns-clause-exact c = λ k call at.
    let program = c.args.program.now in
    let live = subst (AreLive program) (sym c.deref.ensures.value) c.in_ok-live.ensures.exact in
    let exact = subst (λ (edges : List Edge). (p : ℕ) → IsMarked c.in_ok-marks.marks.items p ↔ Reaches (Leads edges) program.entry p) c.deref-2.ensures.value c.in_ok-marks.ensures.exact in
    let long : length program.calls.items ≤ c.loop-i.i = subst (λ (calls : List Call). length calls ≤ c.loop-i.i) c.as_slice-calls.ensures.value c.loop-i-test.false in
    reached_exact program c.requires c.deref.result.now c.in_ok-edges.edges.items live c.in_ok-edges.ensures c.in_ok-marks.marks.items c.loop-i.reached.items c.loop-i.i long c.loop-i.invariant.same exact k call at
