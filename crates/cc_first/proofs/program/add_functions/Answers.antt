use Rattle.std.proofs.Common.{refl, ap, sym, ◌∙◌, ◌++◌, map}
use Rattle.std.proofs.lemmas.Bool.{not-false}
use Rattle.cc_first.specs.Linking.{bare, bare_view}
use Rattle.cc_first.proofs.ProgramNames.{numbered_insert}
use Rattle.cc_first.proofs.ProgramParts.{definition_twice, bare_more, functions_same}
use Rattle.cc_first.proofs.program.add_functions.Goals as goal
use Rattle.cc_first.proofs.program.add_functions.Goals.{in-Definition+in_ok-insert+else-not-branch+in_ok-push, in_default}

pub returns-then-not-branch-clause-twice : goal.returns-then-not-branch-clause-twice
returns-then-not-branch-clause-twice c = λ _ rest.
    definition_twice c.args.file.0 c.args.parts.now c.loop-part.part-index c.part-item.result c.in-Definition.head c.in-Definition.field-1 c.args.functions.now.items c.loop-part.functions.items c.loop-part.names.keys rest
    c.loop-part-test.true c.part-item.is c.in-Definition.is c.loop-part.invariant.more c.loop-part.invariant.numbered
    (not-false _ (sym c.in_ok-insert.ensures.added ∙ c.if-not-branch.true))

pub loop-part-preserved : goal.loop-part-preserved
loop-part-preserved c = elim c.match-part.branch [
  | in-Definition+in_ok-insert+else-not-branch+in_ok-push w ↦ rw (w.functions-is, w.names-is, w.in_ok-push.ensures.items) (record {
    numbered = numbered_insert c.loop-part.functions.items c.loop-part.names.keys w.insert.new.self.keys (record { head = w.in-Definition.head; file = c.args.file }) w.in_ok-insert.field-0
        w.in_ok-insert.ensures.added w.if-not-branch.false w.in_ok-insert.ensures.keys c.loop-part.invariant.numbered;
    more = bare_more c.args.file.0 c.args.parts.now c.loop-part.part-index c.part-item.result w.in-Definition.head w.in-Definition.field-1 (map bare_view c.args.functions.now.items) c.loop-part.functions.items
        (record { head = w.in-Definition.head; file = c.args.file }) c.loop-part-test.true c.part-item.is w.in-Definition.is refl c.loop-part.invariant.more;
  })
  | in_default w ↦ rw (w.functions-is, w.names-is) (record {
    numbered = c.loop-part.invariant.numbered;
    more = c.loop-part.invariant.more ∙ ap (λ fs. map bare_view c.args.functions.now.items ++ map bare fs)
        (sym (functions_same c.args.file.0 c.args.parts.now c.loop-part.part-index c.part-item.result c.loop-part-test.true c.part-item.is (rw w.in_default.is refl)));
  })
]
