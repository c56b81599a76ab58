use Rattle.std.proofs.Common.{ℤ, Result, IfOk, subst, sym}
use Rattle.std.proofs.lemmas.Int.{to_z-of_z}
use Rattle.cc_arith.specs.declared.undefined.ArithUndef.{ArithUndef}
use Rattle.cc_arith.specs.Kinds.{IsInRange}
use Rattle.cc_arith.specs.Operators.{binary_kind_of}
use Rattle.cc_arith.specs.Laws.{TruthIfCompared, BitsFollow}
use Rattle.cc_arith.proofs.ResultLaws.{binary_within, binary_truth, binary_bits}
use Rattle.cc_arith.proofs.binary_operator.binary.Goals as goal

pub returns-clause-within : goal.returns-clause-within
returns-clause-within c =
    let a_fits = c.ranges.a in
    let b_fits = c.ranges.b in
    let value = simp to_z-of_z at c.result_of.ensures.value in
    subst (λ (r : Result ℤ ArithUndef). IfOk r (IsInRange (binary_kind_of c.args.op c.args.k))) (sym value) (binary_within c.args.op c.args.k c.args.a c.args.b c.requires.left)

pub returns-clause-truth : goal.returns-clause-truth
returns-clause-truth c =
    let a_fits = c.ranges.a in
    let b_fits = c.ranges.b in
    let value = simp to_z-of_z at c.result_of.ensures.value in
    subst (λ (r : Result ℤ ArithUndef). IfOk r (TruthIfCompared c.args.op)) (sym value) (binary_truth c.args.op c.args.k c.args.a c.args.b)

pub returns-clause-bits : goal.returns-clause-bits
returns-clause-bits c =
    let a_fits = c.ranges.a in
    let b_fits = c.ranges.b in
    let value = simp to_z-of_z at c.result_of.ensures.value in
    subst (λ (r : Result ℤ ArithUndef). IfOk r (BitsFollow c.args.op c.args.k c.args.a c.args.b)) (sym value) (binary_bits c.args.op c.args.k c.args.a c.args.b c.requires.kind)
