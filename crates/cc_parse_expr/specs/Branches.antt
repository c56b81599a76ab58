-- Branches of the rules of expressions, which the code has as methods of their own.
use Rattle.std.specs.Prelude.{ℕ, ℤ, Option, Some, None}
use Rattle.cc_arith.specs.declared.kind.IntKind.{IntKind}
use Rattle.cc_tree.specs.declared.operator.Side.TheVariants as side
use Rattle.cc_tree.specs.declared.operator.StepOp.{StepOp}
use Rattle.cc_tree.specs.declared.operator.UnaryOp.{UnaryOp}
use Rattle.cc_base.specs.declared.place.Spot.{Spot}
use Rattle.cc_lex.specs.declared.punct.Punct.TheVariants as the_punct
use Rattle.cc_tree.specs.Trees.{ExprTree, TypeTree, name, integer, character, string, paren, unary, step, choice, cast, size_type}
use Rattle.cc_grammar.specs.Names.{Names}
use Rattle.cc_grammar.specs.Outcomes.{Parser, ◌>>=◌, ◌>>◌, pure, ◌<$>◌, take, refuse}
use Rattle.cc_grammar.specs.Reading.{Inner, without_name, typed, skipping, id, literals}

-- `: no`, behind `test ? yes`
abbrev pub choosing : Inner → ExprTree Spot → ExprTree Spot → Spot → Parser (ExprTree Spot)
choosing inner test first n = take the_punct.Colon >> (choice n test first <$> inner.expr 3)

-- a name
abbrev pub naming : Names → Spot → Parser (ExprTree Spot)
naming names n = name n <$> id names

-- constants
abbrev pub integer_by : Option (ℤ × IntKind) → Spot → Parser (ExprTree Spot)
integer_by None n = refuse
integer_by (Some x) n = skipping (pure (integer n x.0 x.1))

abbrev pub character_by : Option ℤ → Spot → Parser (ExprTree Spot)
character_by None n = refuse
character_by (Some v) n = skipping (pure (character n v))

-- a prefix operator and its operand
abbrev pub operand : Inner → UnaryOp → Spot → Parser (ExprTree Spot)
operand inner op n = skipping (unary n op <$> inner.expr 14)

abbrev pub stepping : Inner → StepOp → Spot → Parser (ExprTree Spot)
stepping inner op n = skipping (step n op side.Before <$> inner.expr 15)

-- `) e`, behind `(type`
abbrev pub cast_operand : Inner → TypeTree Spot → Spot → Parser (ExprTree Spot)
cast_operand inner t n = take the_punct.RightParen >> (cast n t <$> inner.expr 14)

-- `e)`, behind `(`
abbrev pub enclosing : Inner → Spot → Parser (ExprTree Spot)
enclosing inner n = inner.expr 1 >>= (λ e. take the_punct.RightParen >> pure (paren n e))

module _ (names : Names) (inner : Inner) (d : ℕ) where
  -- string literals
  abbrev pub quoting : Spot → Parser (ExprTree Spot)
  quoting n = string n <$> literals names inner d

  -- `type) e`, behind `(`
  abbrev pub casting : Spot → Parser (ExprTree Spot)
  casting n = typed names inner d without_name >>= (λ t. cast_operand inner t n)

  -- `(type)`, behind `sizeof`
  abbrev pub sizing : Spot → Parser (ExprTree Spot)
  sizing n = skipping (typed names inner d without_name >>= (λ t. take the_punct.RightParen >> pure (size_type n t)))
