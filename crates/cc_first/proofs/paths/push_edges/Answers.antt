use Rattle.std.proofs.Common.{◌∙◌, ◌<◌, ◌+◌, ◌*◌, ◌++◌, ◌∷◌, [], ℕ, length, get_or, cond, false, ap, arith}
use Rattle.std.proofs.lemmas.Option.{slice_get-get_or}
use Rattle.std.proofs.lemmas.Result.{on_ok_weaker}
use Rattle.cc_first.specs.declared.program.Call.{Call}
use Rattle.cc_first.proofs.PathEdges.{edges_added}
use Rattle.cc_first.proofs.paths.push_edges.Goals as goal

pub returns : goal.returns
returns c =
    let d : Call = record { name = record { text = record { ref_ptr = (0, 0); now = [] }; spot = record { line = 0; column = 0 } }; caller = 0; callee = 0 } in
    let functions = c.args.points.functions in
    let calls = c.args.calls.now in
    let i = c.args.i in
    let call : Call = get_or c.args.calls.now c.args.i d in
    let lt : i < length calls = c.requires.within in
    let below : call.caller < functions = c.requires.callers i d lt in
    let inside : call.caller < length c.args.live.now = (let l = c.requires.live in omega arith) in
    on_ok_weaker c.push_if-2.result (λ new_is.
    edges_added functions calls c.args.live.now i call c.args.edges.now.items c.push.new.self.items c.push_if.new.edges.items c.push_if-2.new.edges.items c.is_last.result (get_or c.args.live.now call.caller false)
    (slice_get-get_or calls i d lt)
    (c.in_ok-push.ensures.items ∙ ap (λ (p : ℕ). c.args.edges.now.items ++ record { from = p; to = call.callee } ∷ []) c.point_before.ensures)
    c.is_last.ensures
    (c.in_ok-push_if.ensures
    ∙ ap (λ (p : ℕ). c.push.new.self.items ++ cond c.is_last.result (record { from = p; to = c.exit.result } ∷ []) []) c.after.ensures
    ∙ ap (λ (q : ℕ). c.push.new.self.items ++ cond c.is_last.result (record { from = 2 * functions + i; to = q } ∷ []) []) c.exit.ensures)
    (slice_get-get_or c.args.live.now call.caller false inside)
    (new_is
    ∙ ap (λ (p : ℕ). c.push_if.new.edges.items ++ cond (get_or c.args.live.now call.caller false) (record { from = p; to = c.after-2.result } ∷ []) []) c.exit-2.ensures
    ∙ ap (λ (q : ℕ). c.push_if.new.edges.items ++ cond (get_or c.args.live.now call.caller false) (record { from = functions + call.callee; to = q } ∷ []) []) c.after-2.ensures))
    c.push_if-2.ensures
