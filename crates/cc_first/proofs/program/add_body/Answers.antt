use Rattle.std.proofs.Common.{[], ◌∷◌, ◌++◌, get_or, refl, sym, ap, ◌∙◌, append_assoc}
use Rattle.cc_first.specs.declared.unit.Name.{Name}
use Rattle.cc_first.specs.declared.program.Call.{Call}
use Rattle.cc_first.proofs.ProgramNames.{unknown_at, body_more}
use Rattle.cc_first.proofs.program.add_body.Goals as goal

pub returns-in_default-clause-unknown : goal.returns-in_default-clause-unknown
returns-in_default-clause-unknown c = λ _ all.
    let none : Name = record { text = record { ref_ptr = (0, 0); now = [] }; spot = record { line = 0; column = 0 } } in
    unknown_at c.args.names.now.keys c.args.called.now c.loop-name.name-index none c.loop-name-test.true (sym c.in_default.ensures.found) all

pub loop-name-preserved : goal.loop-name-preserved
loop-name-preserved c =
    let none : Name = record { text = record { ref_ptr = (0, 0); now = [] }; spot = record { line = 0; column = 0 } } in
    let own = c.loop-name.invariant.own in
    let call : Call = record { name = get_or c.args.called.now c.loop-name.name-index none; caller = c.args.caller; callee = c.in-Some.callee } in
    record {
      own = own ++ call ∷ [];
      added = c.in_ok-push.ensures.items ∙ ap (λ calls. calls ++ call ∷ []) c.loop-name.invariant.added ∙ append_assoc c.args.calls.now.items own (call ∷ []);
      zipped = body_more c.args.names.now.keys c.args.caller c.args.called.now c.loop-name.name-index none own call c.loop-name-test.true refl refl c.in-Some.ensures.index c.loop-name.invariant.zipped;
    }
