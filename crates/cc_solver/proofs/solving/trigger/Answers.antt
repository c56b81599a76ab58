use Rattle.std.proofs.Common.{◌≡◌, ℕ, ◌<◌, inl, inr, Some, None, Err, List, sym, ap, ◌∙◌, subst, arith}
use Rattle.std.proofs.lemmas.Bool.{cases_eq, cases_lt}
use Rattle.cc_blocks.specs.declared.cell.Cell.{Cell}
use Rattle.cc_solver.specs.Solving.{In, OwesNone, IsDue, OwesDue, OwesAll, LagsAll}
use Rattle.cc_solver.proofs.Solved
use Rattle.cc_solver.proofs.solving.trigger.Goals as goal
use Rattle.std.proofs.lemmas.Result.{err_from_is_err_and}
use Rattle.cc_blocks.specs.Cells.{AreAscending}
use Rattle.cc_blocks.proofs.Ranks.{row_bit-high}

In_small : (cells : List Cell) (t : ℕ) → AreAscending 0 cells → In cells t → t < 4294967296
In_small cells t up is = elim (cases_lt t 4294967296) [
  | inl lt ↦ lt
  | inr ge ↦ absurd (let z = row_bit-high 0 cells t up ge in omega arith)
]

pub loop-next-init : goal.loop-next-init
loop-next-init g c =
    let cells = c.args.delta.now.cells.items in
    record {
      state = c.requires.state;
      keeps = Solved.keeps_refl c.args.state.now;
      in_delta = Solved.first_in c.first_at_or_after-next.result cells c.first_at_or_after-next.ensures.some;
      on = λ given joins v. Solved.solves_weaker given joins (g.R.Rules.adds c.args.rules.now) (g.R.Rules.gives c.args.rules.now) c.args.state.now (OwesAll c.args.holder cells) (OwesDue c.args.holder cells c.first_at_or_after-next.result) (LagsAll c.args.holder cells) (LagsAll c.args.holder cells) v
          (λ p q is o. inl (o.0, o.1, Solved.due_first c.first_at_or_after-next.result cells q c.first_at_or_after-next.ensures.some c.first_at_or_after-next.ensures.none o.1))
          (λ x h t edge l. inl l);
    }

pub trigger_one-requires-clause-pair : goal.trigger_one-requires-clause-pair
trigger_one-requires-clause-pair g c =
    let cells = c.args.delta.now.cells.items in
    let adds = g.R.Rules.adds c.args.rules.now in
    let gives = g.R.Rules.gives c.args.rules.now in
    let t = c.in-Some.target in
    let in_delta : In cells t = rw c.in-Some.is at c.loop-next.invariant.in_delta in
    c.loop-next.invariant.keeps.pairs c.args.holder t (c.requires.delta t in_delta)

pub trigger_one-requires-clause-adds : goal.trigger_one-requires-clause-adds
trigger_one-requires-clause-adds g c =
    λ h t x k a. let w = c.requires.adds h t x k a in let n = c.loop-next.invariant.keeps.same_length in (omega arith, omega arith)

pub hand_one-requires-clause-pair : goal.hand_one-requires-clause-pair
hand_one-requires-clause-pair g c =
    let cells = c.args.delta.now.cells.items in
    let t = c.in-Some.target in
    let in_delta : In cells t = rw c.in-Some.is at c.loop-next.invariant.in_delta in
    c.in_ok-trigger_one.ensures.keeps.pairs c.args.holder t (c.loop-next.invariant.keeps.pairs c.args.holder t (c.requires.delta t in_delta))

pub hand_one-requires-clause-gives : goal.hand_one-requires-clause-gives
hand_one-requires-clause-gives g c =
    λ h t k u a. let w = c.requires.gives h t k u a in let n = c.loop-next.invariant.keeps.same_length in let m = c.in_ok-trigger_one.ensures.keeps.same_length in omega arith

pub loop-next-smaller : goal.loop-next-smaller
loop-next-smaller g c =
    let cells = c.args.delta.now.cells.items in
    let adds = g.R.Rules.adds c.args.rules.now in
    let gives = g.R.Rules.gives c.args.rules.now in
    let t = c.in-Some.target in
    let in_delta : In cells t = rw c.in-Some.is at c.loop-next.invariant.in_delta in
    rw c.in-Some.is (Solved.left_less c.next_after-next.result cells t (In_small cells t c.args.delta.now.ascending in_delta) c.next_after-next.ensures.some)

pub loop-next-preserved : goal.loop-next-preserved
loop-next-preserved g c =
    let cells = c.args.delta.now.cells.items in
    let adds = g.R.Rules.adds c.args.rules.now in
    let gives = g.R.Rules.gives c.args.rules.now in
    let t = c.in-Some.target in
    let in_delta : In cells t = rw c.in-Some.is at c.loop-next.invariant.in_delta in
    let one = c.in_ok-trigger_one.ensures in
    let two = c.in_ok-hand_one.ensures in
    record {
      state = two.state;
      keeps = Solved.keeps_on c.args.state.now c.trigger_one.new.state c.hand_one.new.state (Solved.keeps_on c.args.state.now c.loop-next.state c.trigger_one.new.state c.loop-next.invariant.keeps one.keeps) two.keeps;
      in_delta = Solved.next_in c.next_after-next.result cells t c.next_after-next.ensures.some;
      on = λ given joins v.
          let now = two.on given joins c.args.holder cells c.loop-next.next (one.on given joins c.args.holder cells c.loop-next.next (c.loop-next.invariant.on given joins v)) in
          Solved.solves_weaker given joins adds gives c.hand_one.new.state (OwesDue c.args.holder cells c.loop-next.next) (OwesDue c.args.holder cells c.next_after-next.result) (LagsAll c.args.holder cells) (LagsAll c.args.holder cells) now
          (λ p q is o. elim (cases_eq q t) [
            | inl e ↦ inr (λ x k a. two.keeps.edges x k (one.all x k (subst (λ y. adds y t x k) o.0 (subst (λ y. adds p y x k) e a))), λ x u a. two.all x u (subst (λ y. gives y t x u) o.0 (subst (λ y. gives p y x u) e a)))
            | inr ne ↦ inl (o.0, o.1, Solved.due_on c.next_after-next.result cells t q c.next_after-next.ensures.some c.next_after-next.ensures.none o.1 (let d : IsDue (Some t) q = rw c.in-Some.is at o.2 in omega arith))
          ])
          (λ x h t edge l. inl l);
    }

pub returns-in_err-trigger_one-clause-many : goal.returns-in_err-trigger_one-clause-many
returns-in_err-trigger_one-clause-many g c = λ is given joins v.
    let p = err_from_is_err_and c.from_residual.result c.from_residual.ensures.1 in
    c.in_err-trigger_one.ensures.many (ap Err (sym p.2) ∙ sym p.1 ∙ is) given joins c.args.holder c.args.delta.now.cells.items c.loop-next.next (c.loop-next.invariant.on given joins v)

pub returns-in_err-hand_one-clause-many : goal.returns-in_err-hand_one-clause-many
returns-in_err-hand_one-clause-many g c = λ is given joins v.
    let p = err_from_is_err_and c.from_residual-in_err-hand_one.result c.from_residual-in_err-hand_one.ensures.1 in
    c.in_err-hand_one.ensures.many (ap Err (sym p.2) ∙ sym p.1 ∙ is) given joins c.args.holder c.args.delta.now.cells.items c.loop-next.next
    (c.in_ok-trigger_one.ensures.on given joins c.args.holder c.args.delta.now.cells.items c.loop-next.next (c.loop-next.invariant.on given joins v))

pub returns-clause-on : goal.returns-clause-on
returns-clause-on g c = λ given joins v.
    let none : c.loop-next.next ≡ None = c.in_default.is in
    Solved.solves_weaker given joins (g.R.Rules.adds c.args.rules.now) (g.R.Rules.gives c.args.rules.now) c.loop-next.state (OwesDue c.args.holder c.args.delta.now.cells.items c.loop-next.next) OwesNone (LagsAll c.args.holder c.args.delta.now.cells.items) (LagsAll c.args.holder c.args.delta.now.cells.items) (c.loop-next.invariant.on given joins v)
    (λ p q is o. absurd (rw none at o.2))
    (λ x h t edge l. inl l)
