use Rattle.std.proofs.Common.{◌≡◌, ◌++◌, [], refl, sym, ap, map}
use Rattle.cc_first_runs.specs.Program as tree
use Rattle.cc_first.specs.Linking.{bare, bare_view, names_of, texts_of}
use Rattle.cc_first.specs.Linked.{heads_of}
use Rattle.cc_first.specs.Unit.{functions_of}
use Rattle.cc_first.specs.Views.{parts_view}
use Rattle.cc_first.specs.declared.program.Program.{Program}
use Rattle.cc_first.proofs.ProgramLinked.{texts_are, program_made, functions_made, calls_made, names_are}
use Rattle.cc_first.proofs.ProgramRefused.{heads_of-append, twice_in_first, twice_in_both, whole_known, known_front, known_back, no_entry}
use Rattle.cc_first.proofs.program.link.Goals as goal
use Rattle.cc_first.proofs.program.link.Goals.{then-not-branch-via-then-not-branch, then-not-branch-via-else-not-branch+in_ok-add_functions-2+then-not-branch-2, then-not-branch-via-else-not-branch+in_ok-add_functions-2+else-not-branch-2+in_ok-add_calls+then-not-branch-3, then-not-branch-via-else-not-branch+in_ok-add_functions-2+else-not-branch-2+in_ok-add_calls+else-not-branch-3+in_ok-add_calls-2+then-not-branch-4}

pub returns-then-not-branch-clause-none : goal.returns-then-not-branch-clause-none
returns-then-not-branch-clause-none c = λ e linked.
    let p : tree.Program = functions_of 0 (parts_view c.args.first.now) in
    let q : tree.Program = functions_of 1 (parts_view c.args.second.now) in
    let none = c.new-functions.result.items in
    let empty = c.new-functions.ensures.items in
    elim c.then-not-branch.branch [
      | then-not-branch-via-then-not-branch w ↦ twice_in_first (texts_of none) (heads_of p) (heads_of q) (p ++ q) (ap texts_of empty) (heads_of-append p q) (c.in_ok-add_functions.ensures.twice w.if-not-branch.true) linked.0
      | then-not-branch-via-else-not-branch+in_ok-add_functions-2+then-not-branch-2 w ↦ twice_in_both (texts_of c.add_functions.new.functions.items) (heads_of p) (heads_of q) (p ++ q)
          (texts_are none c.add_functions.new.functions.items p empty (c.in_ok-add_functions.ensures.more w.if-not-branch.false)) (heads_of-append p q)
          (w.in_ok-add_functions-2.ensures.twice w.if-not-branch-2.true) linked.0
      | then-not-branch-via-else-not-branch+in_ok-add_functions-2+else-not-branch-2+in_ok-add_calls+then-not-branch-3 w ↦ (let names = names_of w.add_functions-else-not-branch.new.names.keys in
          w.in_ok-add_calls.ensures.unknown w.if-not-branch-3.true 0 (known_front names p q (whole_known names (p ++ q)
          (names_are [] w.add_functions-else-not-branch.new.functions.items w.add_functions-else-not-branch.new.names.keys (p ++ q) refl (w.in_ok-add_functions-2.ensures.numbered w.if-not-branch-2.false)
          (functions_made _ _ _ p q empty (c.in_ok-add_functions.ensures.more w.if-not-branch.false) (w.in_ok-add_functions-2.ensures.more w.if-not-branch-2.false)))
          linked.0)))
      | then-not-branch-via-else-not-branch+in_ok-add_functions-2+else-not-branch-2+in_ok-add_calls+else-not-branch-3+in_ok-add_calls-2+then-not-branch-4 w ↦ (let names = names_of w.add_functions-else-not-branch.new.names.keys in
          w.in_ok-add_calls-2.ensures.unknown w.if-not-branch-4.true 1 (known_back names p q (whole_known names (p ++ q)
          (names_are [] w.add_functions-else-not-branch.new.functions.items w.add_functions-else-not-branch.new.names.keys (p ++ q) refl (w.in_ok-add_functions-2.ensures.numbered w.if-not-branch-2.false)
          (functions_made _ _ _ p q empty (c.in_ok-add_functions.ensures.more w.if-not-branch.false) (w.in_ok-add_functions-2.ensures.more w.if-not-branch-2.false)))
          linked.0)))
    ]

pub returns-in_default-clause-none : goal.returns-in_default-clause-none
returns-in_default-clause-none c = λ e linked.
    let p : tree.Program = functions_of 0 (parts_view c.args.first.now) in
    let q : tree.Program = functions_of 1 (parts_view c.args.second.now) in
    let functions = c.add_functions-else-not-branch.new.functions.items in
    let keys = c.add_functions-else-not-branch.new.names.keys in
    let same : map bare_view functions ≡ map bare (p ++ q) =
    functions_made _ _ _ p q c.new-functions.ensures.items (c.in_ok-add_functions.ensures.more c.if-not-branch.false) (c.in_ok-add_functions-2.ensures.more c.if-not-branch-2.false) in
    let names = names_are [] functions keys (p ++ q) refl (c.in_ok-add_functions-2.ensures.numbered c.if-not-branch-2.false) same in
    no_entry keys (p ++ q) c.args.entry.now e names (sym c.in_default.ensures.found) linked

pub returns-clause-some : goal.returns-clause-some
returns-clause-some c =
    let p : tree.Program = functions_of 0 (parts_view c.args.first.now) in
    let q : tree.Program = functions_of 1 (parts_view c.args.second.now) in
    let functions = c.add_functions-else-not-branch.new.functions in
    let calls = c.add_calls-else-not-branch-3.new.calls in
    let keys = c.add_functions-else-not-branch.new.names.keys in
    let made : Program = record { functions = functions; calls = calls; entry = c.in-Some.entry } in
    let one = c.in_ok-add_calls.ensures.more c.if-not-branch-3.false in
    let two = c.in_ok-add_calls-2.ensures.more c.if-not-branch-4.false in
    program_made made keys (p ++ q) c.args.entry.now
    (c.in_ok-add_functions-2.ensures.numbered c.if-not-branch-2.false)
    (functions_made _ _ _ p q c.new-functions.ensures.items (c.in_ok-add_functions.ensures.more c.if-not-branch.false) (c.in_ok-add_functions-2.ensures.more c.if-not-branch-2.false))
    (calls_made (names_of keys) c.new-calls.result.items c.add_calls.new.calls.items calls.items one.0 two.0 p q c.new-calls.ensures.items one.1 two.1 (one.2 0) (two.2 1))
    (sym c.in-Some.ensures.index)
