-- The types and values of expressions whose names are known.
use Rattle.std.specs.Prelude.{ℤ, Option, Some, None}
use Rattle.cc_constants.specs.Values.{constant}
use Rattle.cc_tree.specs.Trees.{ExprTree}
use Rattle.cc_tree_notes.specs.declared.note.Counted.{Counted}
use Rattle.cc_tree_walks.specs.Notes.{expr_note}
use Rattle.cc_types.specs.declared.expr_type.ExprType.{ExprType}
use Rattle.cc_typing.specs.Typing.{type_of, noted}
use Rattle.cc_declare.specs.declared.checker.Checker.{Checker}
use Rattle.cc_declare.specs.declared.enumerators.ConstantValue.{ConstantValue}
use Rattle.cc_declare.specs.declared.enumerators.ConstantValue.TheVariants as v
use Rattle.cc_declare.specs.Rules as rule
use Rattle.cc_declare.specs.State.{offended}

-- the type of a full expression, with what is found of its nodes
abbrev pub judged : ExprTree Counted → Checker → Checker × Option ExprType
judged e s = (record s { found = noted s.symbols e s.found }, type_of s.symbols e)

abbrev pub valued_by : ExprTree Counted → Checker → Option ℤ → Checker × ConstantValue
valued_by e s (Some n) = (s, v.Is n)
valued_by e s None = (offended s (expr_note e) rule.constant, v.NoConstant)

-- the value of an expression of this type, which has to be a constant
abbrev pub valued : ExprTree Counted → Option ExprType → Checker → Checker × ConstantValue
valued e (Some t) s = valued_by e s (constant s.symbols s.found e)
valued e None s = (s, v.Untyped)

abbrev pub valued_after : ExprTree Counted → Checker × Option ExprType → Checker × ConstantValue
valued_after e p = valued e p.1 p.0
