use Rattle.std.proofs.Common.{◌≡◌, inl, inr, length, take, Err, List, sym, ap, ◌∙◌, arith}
use Rattle.std.specs.Prelude.{Result}
use Rattle.std.proofs.lemmas.Bool.{cases_eq}
use Rattle.cc_blocks.specs.declared.row.Row.{Row}
use Rattle.cc_blocks.specs.Pairs.{pair_bit}
use Rattle.cc_blocks.proofs.Tables.{pair_bit-lt}
use Rattle.cc_solver.proofs.Solved
use Rattle.cc_solver.proofs.solving.solve.Goals as goal
use Rattle.std.proofs.lemmas.Result.{err_from_is_err_and}
use Rattle.cc_solver.specs.Least.{Given}
use Rattle.cc_blocks.proofs.Counts.{count_grows}
use Rattle.cc_solver.proofs.Counted.{first_is}

error_is : {X : Type 0} {Y : Type 0} (r : Result X Y) (x y e : Y) → r ≡ Err x → x ≡ y → r ≡ Err e → y ≡ e
error_is r x y e a b c = let d : x ≡ e = cc in sym b ∙ d

pub loop-step-init : goal.loop-step-init
loop-step-init g c =
    let e = c.in_ok-state.ensures in
    record {
      state = e.state;
      long = e.holders;
      given = e.begins.given_is;
      joins = e.begins.joins_is;
      solves = Solved.solves_begins c.args.given.now c.args.joins.now (g.R.Rules.adds c.args.rules.now) (g.R.Rules.gives c.args.rules.now) c.in_ok-state.state e.begins;
    }

pub loop-step-preserved : goal.loop-step-preserved
loop-step-preserved g c =
    let given = c.args.given.now in
    let joins = c.args.joins.now in
    let adds = g.R.Rules.adds c.args.rules.now in
    let gives = g.R.Rules.gives c.args.rules.now in
    let inv = c.loop-step.invariant in
    let step = c.in-Some.step in
    let cells = step.delta.cells.items in
    let s1 = c.take_next.new.state in
    let took = c.in-Some.ensures in
    let v1 = Solved.solves_takes given joins adds gives c.loop-step.state s1 step.holder cells inv.solves took.takes in
    let t = c.in_ok-trigger.ensures in
    let p = c.in_ok-spread.ensures in
    let s2 = c.trigger.new.state in
    let s3 = c.spread.new.state in
    let v2 = t.on given joins v1 in
    let same = ap (λ (xs : List Row). length xs) took.takes.pairs in
    record {
      state = p.state;
      long = p.keeps.same_length ∙ t.keeps.same_length ∙ same ∙ inv.long;
      given = λ h x is. p.keeps.pairs h x (t.keeps.pairs h x (ap (λ xs. pair_bit xs h x) took.takes.pairs ∙ inv.given h x is));
      joins = λ a b is. p.keeps.edges a b (t.keeps.edges a b (ap (λ xs. pair_bit xs a b) took.takes.edges ∙ inv.joins a b is));
      solves = Solved.solves_spreads given joins adds gives s2 s3 step.holder cells v2 (λ x is. t.keeps.pairs step.holder x (took.delta x is)) p.keeps p.spreads;
    }

pub returns-in_err-state-clause-many : goal.returns-in_err-state-clause-many
returns-in_err-state-clause-many g c = λ is.
    let p = err_from_is_err_and c.from_residual.result c.from_residual.ensures.1 in
    let x = c.in_err-state.ensures.many (ap Err (error_is _ p.0 _ _ p.1 p.2 is)) in
    (x.0, x.1, λ h t has. let y = x.2 h t has in (y.0, Given y.1))

pub returns-in_err-trigger-clause-many : goal.returns-in_err-trigger-clause-many
returns-in_err-trigger-clause-many g c = λ is.
    let given = c.args.given.now in
    let joins = c.args.joins.now in
    let adds = g.R.Rules.adds c.args.rules.now in
    let gives = g.R.Rules.gives c.args.rules.now in
    let inv = c.loop-step.invariant in
    let step = c.in-Some.step in
    let cells = step.delta.cells.items in
    let s1 = c.take_next.new.state in
    let took = c.in-Some.ensures in
    let v1 = Solved.solves_takes given joins adds gives c.loop-step.state s1 step.holder cells inv.solves took.takes in
    let p = err_from_is_err_and c.from_residual-in_err-trigger.result c.from_residual-in_err-trigger.ensures.1 in
    c.in_err-trigger.ensures.many (ap Err (error_is _ p.0 _ _ p.1 p.2 is)) given joins v1

pub returns-in_err-spread-clause-many : goal.returns-in_err-spread-clause-many
returns-in_err-spread-clause-many g c = λ is.
    let given = c.args.given.now in
    let joins = c.args.joins.now in
    let adds = g.R.Rules.adds c.args.rules.now in
    let gives = g.R.Rules.gives c.args.rules.now in
    let inv = c.loop-step.invariant in
    let step = c.in-Some.step in
    let cells = step.delta.cells.items in
    let s1 = c.take_next.new.state in
    let took = c.in-Some.ensures in
    let v1 = Solved.solves_takes given joins adds gives c.loop-step.state s1 step.holder cells inv.solves took.takes in
    let p = err_from_is_err_and c.from_residual-in_err-spread.result c.from_residual-in_err-spread.ensures.1 in
    let t = c.in_ok-trigger.ensures in
    let s2 = c.trigger.new.state in
    Solved.more_by_spread given joins adds gives c.args.limits s2 c.spread.new.state step.holder cells (t.on given joins v1) (λ x has. t.keeps.pairs step.holder x (took.delta x has)) (c.in_err-spread.ensures.many (ap Err (error_is _ p.0 _ _ p.1 p.2 is)))

pub returns-clause-exact : goal.returns-clause-exact
returns-clause-exact g c =
    let inv = c.loop-step.invariant in
    let none = c.in_default.ensures.none in
    let adds = g.R.Rules.adds c.args.rules.now in
    let gives = g.R.Rules.gives c.args.rules.now in
    λ h t. (
      λ is. inv.solves.sound h t (ap (λ xs. pair_bit xs h t) (sym none.0) ∙ is),
      λ l. ap (λ xs. pair_bit xs h t) none.0 ∙ Solved.complete c.args.given.now c.args.joins.now adds gives c.loop-step.state inv.solves inv.given inv.joins none.1 h t l,
    )

pub returns-clause-fits : goal.returns-clause-fits
returns-clause-fits g c = λ more.
    let inv = c.loop-step.invariant in
    let none = c.in_default.ensures.none in
    let adds = g.R.Rules.adds c.args.rules.now in
    let gives = g.R.Rules.gives c.args.rules.now in
    let rows = c.loop-step.state.pairs.rows.items in
    let le = count_grows more.0 (take c.args.limits.counters rows) (λ h t. elim (cases_eq (pair_bit more.0 h t) 1) [
      | inl e ↦ (let y = more.2 h t e in let x = first_is rows c.args.limits.counters h t y.0 (Solved.complete c.args.given.now c.args.joins.now adds gives c.loop-step.state inv.solves inv.given inv.joins none.1 h t y.1) in omega arith)
      | inr ne ↦ omega (arith, pair_bit-lt more.0 h t)
    ]) in
    let most = more.1 in
    omega (arith, inv.state.told_is, inv.state.told_limited)
