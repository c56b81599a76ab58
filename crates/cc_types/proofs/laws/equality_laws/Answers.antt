use Rattle.std.proofs.Common.{[], arith}
use Rattle.std.proofs.lemmas.Bool.{lt-ltb}
use Rattle.cc_types.proofs.TypeEquality.{says, tells}
use Rattle.cc_types.proofs.GrowingTables.{id_is, one_shape, length_from}
use Rattle.cc_types.specs.Shapes.{types_of}
use Rattle.cc_types.proofs.laws.equality_laws.Goals as goal

pub returns-clause-told : goal.returns-clause-told
returns-clause-told c = λ t u. (says t u, tells t u)

pub returns-clause-numbers : goal.returns-clause-numbers
returns-clause-numbers c = λ ss table a b ha hb e. id_is (types_of ss) table.once a b (lt-ltb _ _ (omega (arith, ha, length_from [] ss))) (lt-ltb _ _ (omega (arith, hb, length_from [] ss))) e

pub returns-clause-shapes : goal.returns-clause-shapes
returns-clause-shapes c = λ ss table a b ha hb e. one_shape (types_of ss) table.once a b ha hb e
