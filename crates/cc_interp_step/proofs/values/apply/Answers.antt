use Rattle.std.proofs.Common.{◌≡◌, ap, ◌∙◌, sym, refl}
use Rattle.std.specs.Prelude.{Ok, Err, ℤ, FitsSigned}
use Rattle.std.specs.Int.{w128}
use Rattle.std.proofs.lemmas.Int.{to_z-of_z}
use Rattle.cc_arith.specs.Operators.{binary_of}
use Rattle.cc_arith.specs.Promotions.{promoted}
use Rattle.cc_acts.specs.Values.{applied, with_undefined}
use Rattle.cc_interp_step.proofs.Right.{right_ok, in_kinds}
use Rattle.cc_interp_step.proofs.values.apply.Goals as goal

pub binary-requires-clause-right : goal.binary-requires-clause-right
binary-requires-clause-right c =
    let r_fits : FitsSigned w128 c.convert-b.result = record { sfits = c.convert-b.type_inv } in
    simp to_z-of_z (right_ok c.args.op c.args.left c.args.right c.promote-kind.result c.convert-b.result c.promote-kind.ensures.value (rw c.right_kind.ensures at c.convert-b.ensures.within))

pub returns-in-Ok : goal.returns-in-Ok
unfolding applied
returns-in-Ok c =
    let fits_a = c.ranges.a in
    let fits_b = c.ranges.b in
    let x_fits : FitsSigned w128 c.convert.result = record { sfits = c.convert.type_inv } in
    let y_fits : FitsSigned w128 c.convert-b.result = record { sfits = c.convert-b.type_inv } in
    let k = c.promote-kind.ensures.value in
    let a = simp to_z-of_z at c.convert.ensures.value in
    let b = simp to_z-of_z at c.convert-b.ensures.value in
    let z = simp to_z-of_z at c.in-Ok.ensures.value in
    let t = rw c.in-Ok.is at c.binary.type_inv in
    let z_fits : FitsSigned w128 c.in-Ok.z = record { sfits = t.1.1.1.1.0.1 } in
    simp to_z-of_z (ap with_undefined (z ∙ in_kinds c.args.op c.args.left c.args.right c.promote-kind.result c.right_kind.result c.args.a c.args.b c.convert.result c.convert-b.result k c.right_kind.ensures a b))

pub returns-in-Err : goal.returns-in-Err
unfolding applied
returns-in-Err c =
    let fits_a = c.ranges.a in
    let fits_b = c.ranges.b in
    let x_fits : FitsSigned w128 c.convert.result = record { sfits = c.convert.type_inv } in
    let y_fits : FitsSigned w128 c.convert-b.result = record { sfits = c.convert-b.type_inv } in
    let k = c.promote-kind.ensures.value in
    let a = simp to_z-of_z at c.convert.ensures.value in
    let b = simp to_z-of_z at c.convert-b.ensures.value in
    let z = simp to_z-of_z at c.in-Err.ensures.value in
    ap Err c.undef_of.ensures ∙ ap with_undefined (z ∙ in_kinds c.args.op c.args.left c.args.right c.promote-kind.result c.right_kind.result c.args.a c.args.b c.convert.result c.convert-b.result k c.right_kind.ensures a b)
