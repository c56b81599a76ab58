use Rattle.std.proofs.Common.{◌≡◌, ◌∙◌, ◌≤◌, List, [], length, length-set, get_or, replicate, false, true, Some, subst, slice_get, arith, rules}
use Rattle.cc_first.specs.declared.program.Call.{Call}
use Rattle.std.proofs.lemmas.Option.{slice_get-get_or}
use Rattle.cc_first.proofs.PathEdges.{marks_none, marks_more, marks_all}
use Rattle.cc_first.proofs.PathSites.{linked_at}
use Rattle.cc_first.proofs.paths.functions_with_calls.Goals as goal

pub loop-call-init : goal.loop-call-init
loop-call-init c =
    let blank : c.in_ok-marks.marks.items ≡ replicate (length c.args.program.now.functions.items) false = search rules in
    record {
      len = search rules;
      exact = marks_none c.in_ok-marks.marks.items c.args.program.now.calls.items (length c.args.program.now.functions.items) blank;
    }

pub loop-call-preserved : goal.loop-call-preserved
loop-call-preserved c =
    let d : Call = record { name = record { text = record { ref_ptr = (0, 0); now = [] }; spot = record { line = 0; column = 0 } }; caller = 0; callee = 0 } in
    let i = c.loop-call.call-index in
    let call : Call = get_or c.deref-call-items.result.now c.loop-call.call-index d in
    let at = subst (λ (calls : List Call). slice_get calls i ≡ Some call) c.deref-call-items.ensures.value (slice_get-get_or c.deref-call-items.result.now i d c.loop-call-test.true) in
    let linked = linked_at c.args.program.now i call c.requires at in
    record {
      len = length-set c.loop-call.marks.items call.caller true ∙ c.loop-call.invariant.len;
      exact = marks_more c.loop-call.marks.items c.args.program.now.calls.items i call at (let k = linked.caller in let l = c.loop-call.invariant.len in omega arith) c.loop-call.invariant.exact;
    }

pub returns-clause-exact : goal.returns-clause-exact
returns-clause-exact c =
    marks_all c.loop-call.marks.items c.args.program.now.calls.items c.loop-call.call-index
    (subst (λ (calls : List Call). length calls ≤ c.loop-call.call-index) c.deref-call-items.ensures.value c.loop-call-test.false) c.loop-call.invariant.exact
