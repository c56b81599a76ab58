use Rattle.std.proofs.Common.{◌≡◌, ap, ◌∙◌, sym, refl}
use Rattle.std.specs.Prelude.{Ok, Err, ℤ, FitsSigned}
use Rattle.std.specs.Int.{w128}
use Rattle.std.proofs.lemmas.Int.{to_z-of_z}
use Rattle.cc_acts.specs.Values.{unary_applied, with_undefined}
use Rattle.cc_interp_step.proofs.Right.{in_kind}
use Rattle.cc_interp_step.proofs.values.apply_unary.Goals as goal

pub returns-in-Ok : goal.returns-in-Ok
unfolding unary_applied
returns-in-Ok c =
    let fits_a = c.ranges.a in
    let x_fits : FitsSigned w128 c.convert.result = record { sfits = c.convert.type_inv } in
    let k = c.promote-kind.ensures.value in
    let a = simp to_z-of_z at c.convert.ensures.value in
    let z = simp to_z-of_z at c.in-Ok.ensures.value in
    let t = rw c.in-Ok.is at c.unary.type_inv in
    let z_fits : FitsSigned w128 c.in-Ok.z = record { sfits = t.1.1.1.1.0.1 } in
    simp to_z-of_z (ap with_undefined (z ∙ in_kind c.args.op c.args.kind c.promote-kind.result c.args.a c.convert.result k a))

pub returns-in-Err : goal.returns-in-Err
unfolding unary_applied
returns-in-Err c =
    let fits_a = c.ranges.a in
    let x_fits : FitsSigned w128 c.convert.result = record { sfits = c.convert.type_inv } in
    let k = c.promote-kind.ensures.value in
    let a = simp to_z-of_z at c.convert.ensures.value in
    let z = simp to_z-of_z at c.in-Err.ensures.value in
    ap Err c.undef_of.ensures ∙ ap with_undefined (z ∙ in_kind c.args.op c.args.kind c.promote-kind.result c.args.a c.convert.result k a)
