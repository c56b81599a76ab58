use Rattle.std.proofs.Common.{◌≡◌, ℕ, inl, inr, Bool, false, List, arith}
use Rattle.std.proofs.lemmas.Bool.{cases_eq}
use Rattle.cc_blocks.specs.declared.row.Row.{Row}
use Rattle.cc_blocks.specs.Pairs.{pair_bit}
use Rattle.cc_blocks.proofs.Tables.{pair_bit-lt}
use Rattle.cc_solver.proofs.Linked
use Rattle.cc_solver.proofs.solving.add_edge.Goals as goal
use Rattle.std.specs.Prelude.{◌↔◌, IsTrue}

was_there : (rows : List Row) (from to : ℕ) (new : Bool) → IsTrue new ↔ (pair_bit rows from to ≡ 0) → new ≡ false → pair_bit rows from to ≡ 1
was_there rows from to new is not = elim (cases_eq (pair_bit rows from to) 0) [
  | inl e ↦ absurd (let t = is.1 e in let f = not in cc)
  | inr ne ↦ omega (arith, pair_bit-lt rows from to)
]

pub flow-requires-clause-state : goal.flow-requires-clause-state
flow-requires-clause-state c =
    let s = c.args.state.now in
    let e = c.in_ok-new.ensures in
    Linked.edges_state c.args.limits s c.add.new.self c.args.from c.args.to e.at e.others c.add.ensures.holders c.requires.state c.requires.to

pub returns-then-not-new-clause-state : goal.returns-then-not-new-clause-state
returns-then-not-new-clause-state c =
    let s = c.args.state.now in
    let e = c.in_ok-new.ensures in
    Linked.edges_state c.args.limits s c.add.new.self c.args.from c.args.to e.at e.others c.add.ensures.holders c.requires.state c.requires.to

pub returns-then-not-new-clause-links : goal.returns-then-not-new-clause-links
returns-then-not-new-clause-links c =
    let s = c.args.state.now in
    let e = c.in_ok-new.ensures in
    Linked.links_still c.args.limits s c.add.new.self c.args.from c.args.to e.at e.others c.add.ensures.holders c.requires.state c.requires.to (inl (was_there s.edges.rows.items c.args.from c.args.to c.in_ok-new.new e.new cc))

pub returns-then-from-to-clause-state : goal.returns-then-from-to-clause-state
returns-then-from-to-clause-state c =
    let s = c.args.state.now in
    let e = c.in_ok-new.ensures in
    Linked.edges_state c.args.limits s c.add.new.self c.args.from c.args.to e.at e.others c.add.ensures.holders c.requires.state c.requires.to

pub returns-then-from-to-clause-links : goal.returns-then-from-to-clause-links
returns-then-from-to-clause-links c =
    let s = c.args.state.now in
    let e = c.in_ok-new.ensures in
    Linked.links_still c.args.limits s c.add.new.self c.args.from c.args.to e.at e.others c.add.ensures.holders c.requires.state c.requires.to (inr c.if-from-to.true)

pub returns-clause-links : goal.returns-clause-links
returns-clause-links c =
    let s = c.args.state.now in
    let e = c.in_ok-new.ensures in
    let f = c.in_ok-flow.ensures in
    Linked.links_on c.args.limits s c.add.new.self c.args.from c.args.to e.at e.others c.add.ensures.holders c.requires.state c.requires.to c.flow.new.state f.grows f.got f.edges
