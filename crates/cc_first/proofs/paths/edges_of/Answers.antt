use Rattle.std.proofs.Common.{◌≡◌, ◌∙◌, ◌<◌, ◌≤◌, ◌+◌, ◌++◌, ◌∷◌, [], ℕ, List, length, cond, not, refl, ap, subst, arith}
use Rattle.std.proofs.lemmas.Option.{slice_get_read}
use Rattle.cc_first.specs.declared.program.Call.{Call}
use Rattle.cc_first.proofs.PathEdges.{calls_none, calls_more_as, functions_none, functions_more, functions_all}
use Rattle.cc_first.proofs.PathSites.{callees_below, callers_below}
use Rattle.cc_first.proofs.paths.edges_of.Goals as goal

pub push_edges-requires-clause-callers : goal.push_edges-requires-clause-callers
push_edges-requires-clause-callers c = callers_below c.args.program.now c.in_ok-points.points.functions c.as_slice-calls.result.now c.requires.sound c.in_ok-points.ensures.functions c.as_slice-calls.ensures.value

pub push_edges-requires-clause-callees : goal.push_edges-requires-clause-callees
push_edges-requires-clause-callees c = callees_below c.args.program.now c.in_ok-points.points.functions c.as_slice-calls.result.now c.requires.sound c.in_ok-points.ensures.functions c.as_slice-calls.ensures.value

pub loop-i-init : goal.loop-i-init
loop-i-init c = calls_none (length c.args.program.now.functions.items) c.args.program.now.calls.items c.args.live.now c.new-edges.result.items c.new-edges.ensures.items

pub loop-i-preserved : goal.loop-i-preserved
loop-i-preserved c =
    calls_more_as (length c.args.program.now.functions.items) c.in_ok-points.points.functions c.args.program.now.calls.items c.as_slice-calls.result.now c.args.live.now c.loop-i.i c.loop-i.edges.items c.push_edges.new.edges.items
    c.in_ok-points.ensures.functions c.as_slice-calls.ensures.value c.loop-i.invariant c.in_ok-push_edges.ensures

pub loop-function-init : goal.loop-function-init
loop-function-init c =
    let long : length c.args.program.now.calls.items ≤ c.loop-i.i = subst (λ (calls : List Call). length calls ≤ c.loop-i.i) c.as_slice-calls.ensures.value c.loop-i-test.false in
    functions_none (length c.args.program.now.functions.items) c.args.program.now.calls.items c.args.live.now c.loop-i.i c.loop-i.edges.items long c.loop-i.invariant

pub loop-function-preserved : goal.loop-function-preserved
loop-function-preserved c =
    let functions = length c.args.program.now.functions.items in
    let n = c.loop-function.function in
    let has_calls = c.in_ok-has_calls.has_calls.items in
    let has = c.index.result.now in
    let same : c.in_ok-points.points.functions ≡ functions = c.in_ok-points.ensures.functions in
    let lt : n < functions = (let t = c.loop-function-test.true in omega arith) in
    let inside : n < length has_calls = (let l = c.in_ok-has_calls.ensures.len in omega arith) in
    functions_more functions c.args.program.now.calls.items c.args.live.now has_calls n has c.loop-function.edges.items c.push_if.new.edges.items
    lt c.in_ok-has_calls.ensures.exact (slice_get_read has_calls (length has_calls) n has refl inside c.index.ensures) c.loop-function.invariant
    (c.in_ok-push_if.ensures ∙ ap (λ (p : ℕ). c.loop-function.edges.items ++ cond (not has) (record { from = n; to = p } ∷ []) []) (c.exit.ensures ∙ ap (λ (m : ℕ). m + n) same))

pub returns : goal.returns
returns c =
    let functions = length c.args.program.now.functions.items in
    let same : c.in_ok-points.points.functions ≡ functions = c.in_ok-points.ensures.functions in
    let long : functions ≤ c.loop-function.function = (let t = c.loop-function-test.false in omega arith) in
    functions_all functions c.args.program.now.calls.items c.args.live.now c.loop-function.function c.loop-function.edges.items long c.loop-function.invariant
