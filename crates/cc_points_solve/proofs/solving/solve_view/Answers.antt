use Rattle.std.proofs.Common.{◌+◌, ◌≡◌, ◌<◌, Err, refl, sym, ap, ◌∙◌, subst}
use Rattle.std.specs.Prelude.{Result}
use Rattle.std.proofs.lemmas.Result.{err_from_is_err_and}
use Rattle.cc_points_solve.proofs.Top
use Rattle.cc_points_solve.proofs.solving.solve_view.Goals as goal

error_is : {X : Type 0} {Y : Type 0} (r : Result X Y) (x y e : Y) → r ≡ Err x → x ≡ y → r ≡ Err e → y ≡ e
error_is r x y e a b c = let d : x ≡ e = cc in sym b ∙ d

pub solve-requires-clause-given : goal.solve-requires-clause-given
solve-requires-clause-given c =
    let p = c.in_ok-problem.ensures in
    λ pair is. subst (λ n. pair.holder < n) (sym p.holders) (Top.given_within c.args.view.now c.in_ok-problem.problem.layout c.as_slice-2.result.now c.as_slice-3.result.now c.as_slice.result.now p.layout (c.as_slice-2.ensures.value ∙ p.given) (c.as_slice-3.ensures.value ∙ p.joins) (c.as_slice.ensures.value ∙ p.table) pair is)

pub solve-requires-clause-joins : goal.solve-requires-clause-joins
solve-requires-clause-joins c =
    let p = c.in_ok-problem.ensures in
    λ edge is. subst (λ n. (edge.from < n) × (edge.to < n)) (sym p.holders) (Top.joins_within c.args.view.now c.in_ok-problem.problem.layout c.as_slice-2.result.now c.as_slice-3.result.now c.as_slice.result.now p.layout (c.as_slice-2.ensures.value ∙ p.given) (c.as_slice-3.ensures.value ∙ p.joins) (c.as_slice.ensures.value ∙ p.table) edge is)

pub solve-requires-clause-adds : goal.solve-requires-clause-adds
solve-requires-clause-adds c =
    let p = c.in_ok-problem.ensures in
    λ h t g k a. subst (λ n. (g < n) × (k < n)) (sym p.holders) (Top.adds_within c.args.view.now c.in_ok-problem.problem.layout c.as_slice-2.result.now c.as_slice-3.result.now c.as_slice.result.now p.layout (c.as_slice-2.ensures.value ∙ p.given) (c.as_slice-3.ensures.value ∙ p.joins) (c.as_slice.ensures.value ∙ p.table) h t g k a)

pub solve-requires-clause-gives : goal.solve-requires-clause-gives
solve-requires-clause-gives c =
    let p = c.in_ok-problem.ensures in
    λ h t k u a. subst (λ n. k < n) (sym p.holders) (Top.gives_within c.args.view.now c.in_ok-problem.problem.layout c.as_slice-2.result.now c.as_slice-3.result.now c.as_slice.result.now p.layout (c.as_slice-2.ensures.value ∙ p.given) (c.as_slice-3.ensures.value ∙ p.joins) (c.as_slice.ensures.value ∙ p.table) h t k u a)

pub returns-clause-exist : goal.returns-clause-exist
returns-clause-exist c =
    let p = c.in_ok-problem.ensures in
    Top.exist c.args.view.now c.in_ok-problem.problem.layout c.as_slice-2.result.now c.as_slice-3.result.now c.as_slice.result.now p.layout (c.as_slice-2.ensures.value ∙ p.given) (c.as_slice-3.ensures.value ∙ p.joins) (c.as_slice.ensures.value ∙ p.table) c.in_ok-rows.rows.rows.items c.in_ok-rows.ensures.exact

pub returns-clause-tells : goal.returns-clause-tells
returns-clause-tells c =
    let p = c.in_ok-problem.ensures in
    Top.tells c.args.view.now c.in_ok-problem.problem.layout c.as_slice-2.result.now c.as_slice-3.result.now c.as_slice.result.now p.layout (c.as_slice-2.ensures.value ∙ p.given) (c.as_slice-3.ensures.value ∙ p.joins) (c.as_slice.ensures.value ∙ p.table) c.in_ok-rows.rows.rows.items c.in_ok-rows.ensures.exact

pub returns-clause-parts : goal.returns-clause-parts
returns-clause-parts c =
    let p = c.in_ok-problem.ensures in
    Top.tells_parts c.args.view.now c.in_ok-problem.problem.layout c.as_slice-2.result.now c.as_slice-3.result.now c.as_slice.result.now p.layout (c.as_slice-2.ensures.value ∙ p.given) (c.as_slice-3.ensures.value ∙ p.joins) (c.as_slice.ensures.value ∙ p.table) c.in_ok-rows.rows.rows.items c.in_ok-rows.ensures.exact

pub returns-clause-fit : goal.returns-clause-fit
returns-clause-fit c =
    let p = c.in_ok-problem.ensures in
    Top.fit c.args.view.now c.in_ok-problem.problem.layout c.as_slice-2.result.now c.as_slice-3.result.now c.as_slice.result.now p.layout (c.as_slice-2.ensures.value ∙ p.given) (c.as_slice-3.ensures.value ∙ p.joins) (c.as_slice.ensures.value ∙ p.table) (record { counters = c.in_ok-problem.problem.layout.nodes + c.in_ok-problem.problem.layout.slots; most = c.args.most; room = c.args.room }) refl c.in_ok-rows.ensures.fits

pub returns-in_err-rows-clause-many : goal.returns-in_err-rows-clause-many
returns-in_err-rows-clause-many c = λ is.
    let p = c.in_ok-problem.ensures in
    let q = err_from_is_err_and c.from_residual-in_err-rows.result c.from_residual-in_err-rows.ensures.1 in
    Top.many c.args.view.now c.in_ok-problem.problem.layout c.as_slice-2.result.now c.as_slice-3.result.now c.as_slice.result.now p.layout (c.as_slice-2.ensures.value ∙ p.given) (c.as_slice-3.ensures.value ∙ p.joins) (c.as_slice.ensures.value ∙ p.table) (record { counters = c.in_ok-problem.problem.layout.nodes + c.in_ok-problem.problem.layout.slots; most = c.args.most; room = c.args.room }) refl (c.in_err-rows.ensures.many (ap Err (error_is _ q.0 _ _ q.1 q.2 is)))
