use Rattle.std.proofs.Common.{ℤ, Result, IfOk, subst, sym}
use Rattle.std.proofs.lemmas.Int.{to_z-of_z}
use Rattle.cc_arith.specs.declared.undefined.ArithUndef.{ArithUndef}
use Rattle.cc_arith.specs.Kinds.{IsInRange}
use Rattle.cc_arith.specs.Operators.{unary_kind_of}
use Rattle.cc_arith.specs.Laws.{TruthIfNot, BitsInverted}
use Rattle.cc_arith.proofs.ResultLaws.{unary_within, unary_truth, unary_bits}
use Rattle.cc_arith.proofs.unary_operator.unary.Goals as goal

pub returns-clause-within : goal.returns-clause-within
returns-clause-within c =
    let a_fits = c.ranges.a in
    let value = simp to_z-of_z at c.result_of.ensures.value in
    subst (λ (r : Result ℤ ArithUndef). IfOk r (IsInRange (unary_kind_of c.args.op c.args.k))) (sym value) (unary_within c.args.op c.args.k c.args.a c.requires.left)

pub returns-clause-truth : goal.returns-clause-truth
returns-clause-truth c =
    let a_fits = c.ranges.a in
    let value = simp to_z-of_z at c.result_of.ensures.value in
    subst (λ (r : Result ℤ ArithUndef). IfOk r (TruthIfNot c.args.op)) (sym value) (unary_truth c.args.op c.args.k c.args.a)

pub returns-clause-bits : goal.returns-clause-bits
returns-clause-bits c =
    let a_fits = c.ranges.a in
    let value = simp to_z-of_z at c.result_of.ensures.value in
    subst (λ (r : Result ℤ ArithUndef). IfOk r (BitsInverted c.args.op c.args.k c.args.a)) (sym value) (unary_bits c.args.op c.args.k c.args.a c.requires.kind)
