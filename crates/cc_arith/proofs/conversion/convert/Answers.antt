use Rattle.std.proofs.Common.{◌∙◌, FitsSigned, subst, sym, ℤ}
use Rattle.std.specs.Int.{w128}
use Rattle.std.proofs.lemmas.Int.{to_z-of_z}
use Rattle.cc_arith.specs.Kinds.{width_of}
use Rattle.cc_arith.specs.Conversions.{IsSameModulo}
use Rattle.cc_arith.proofs.ConversionLaws.{converted_modulo, converted_unique}
use Rattle.cc_arith.proofs.conversion.convert.Goals as goal

pub returns-clause-modulo : goal.returns-clause-modulo
returns-clause-modulo c = λ other.
    let v_fits = c.ranges.v in
    let r_fits : FitsSigned w128 c.value_in.result = record { sfits = c.value_in.type_inv } in
    let e = simp to_z-of_z at c.value_in.ensures in
    let done = subst (λ (r : ℤ). IsSameModulo (width_of c.args.k) c.args.v r) (sym e) (converted_modulo c.args.k c.args.v other) in
    simp to_z-of_z done

pub returns-clause-only : goal.returns-clause-only
returns-clause-only c = λ other r within same.
    let v_fits = c.ranges.v in
    let r_fits : FitsSigned w128 c.value_in.result = record { sfits = c.value_in.type_inv } in
    let e = simp to_z-of_z at c.value_in.ensures in
    let done = converted_unique c.args.k c.args.v r other within same ∙ sym e in
    simp to_z-of_z done
