use Rattle.std.proofs.Common.{List, ◌++◌, refl, sym, ap, ◌∙◌, subst, append_assoc, map, All, Contains}
use Rattle.std.specs.List.{AllZip}
use Rattle.cc_first_runs.specs.Program as tree
use Rattle.cc_first.specs.Linking.{AreCalls, IsCallFrom, names_of}
use Rattle.cc_first.specs.Views.{name_view}
use Rattle.cc_first.specs.declared.unit.Name.{Name}
use Rattle.cc_first.proofs.ProgramNames.{not_among, name_at}
use Rattle.cc_first.proofs.ProgramParts.{definition_within, known_at, calls_more, functions_same}
use Rattle.cc_first.proofs.program.add_calls.Goals as goal
use Rattle.cc_first.proofs.program.add_calls.Goals.{in-Definition+in-Some+in_ok-add_body+else-not-branch, in_default}

pub returns-in_default-get_index_of-clause-unknown : goal.returns-in_default-get_index_of-clause-unknown
returns-in_default-get_index_of-clause-unknown c = λ _ file all.
    let within = definition_within file c.args.parts.now c.loop-part.part-index c.part-item.result c.in-Definition.head c.in-Definition.called c.loop-part-test.true c.part-item.is c.in-Definition.is in
    not_among c.in-Definition.head.text.now c.args.names.now.keys (sym c.in_default-get_index_of.ensures.found) (known_at (names_of c.args.names.now.keys) _ _ all within).0

pub returns-then-not-branch-clause-unknown : goal.returns-then-not-branch-clause-unknown
returns-then-not-branch-clause-unknown c = λ _ file all.
    let within = definition_within file c.args.parts.now c.loop-part.part-index c.part-item.result c.in-Definition.head c.in-Definition.called c.loop-part-test.true c.part-item.is c.in-Definition.is in
    let known = (known_at (names_of c.args.names.now.keys) _ _ all within).1 in
    c.in_ok-add_body.ensures.unknown c.if-not-branch.true
    (subst (λ (called : List Name). All (λ (call : tree.Name). Contains (names_of c.args.names.now.keys) call.text) (map name_view called)) (sym c.deref.ensures.value) known)

pub loop-part-preserved : goal.loop-part-preserved
loop-part-preserved c = elim c.match-part.branch [
  | in-Definition+in-Some+in_ok-add_body+else-not-branch w ↦ (
      let body = w.in_ok-add_body.ensures.more w.if-not-branch.false in
      let own = body.0 in
      let more = c.loop-part.invariant.more in
      let zipped = subst (λ (called : List Name). AllZip (IsCallFrom (names_of c.args.names.now.keys) w.in-Some.caller) (map name_view called) own) w.deref.ensures.value body.2 in
      rw w.calls-is (record {
        more = more ++ own;
        added = body.1 ∙ ap (λ calls. calls ++ own) c.loop-part.invariant.added ∙ append_assoc c.args.calls.now.items more own;
        are = λ file. calls_more (names_of c.args.names.now.keys) file c.args.parts.now c.loop-part.part-index c.part-item.result w.in-Definition.head w.in-Definition.called more own w.in-Some.caller
            c.loop-part-test.true c.part-item.is w.in-Definition.is (name_at w.in-Definition.head.text.now c.args.names.now.keys w.in-Some.caller (sym w.in-Some.ensures.index)) zipped (c.loop-part.invariant.are file);
      }))
  | in_default w ↦ rw w.calls-is (record {
    more = c.loop-part.invariant.more;
    added = c.loop-part.invariant.added;
    are = λ file. subst (λ fs. AreCalls (names_of c.args.names.now.keys) fs c.loop-part.invariant.more)
        (sym (functions_same file c.args.parts.now c.loop-part.part-index c.part-item.result c.loop-part-test.true c.part-item.is (rw w.in_default.is refl)))
        (c.loop-part.invariant.are file);
  })
]
