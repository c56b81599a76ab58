-- What a token can begin or go on with.
use Rattle.std.specs.Prelude.{ℕ, ℤ, Bool, true, false, List, [], ◌∷◌, Option, Some, None, if◌then◌else◌}
use denote.Enum.Bare.{sameb}
use Rattle.cc_arith.specs.declared.kind.IntKind.{IntKind}
use Rattle.cc_arith.specs.declared.binary_operator.IntOp.TheVariants as int
use Rattle.cc_arith.specs.declared.unary_operator.IntUnary.TheVariants as int_unary
use Rattle.cc_base.specs.declared.place.Spot.{Spot}
use Rattle.cc_base.specs.Spots as spots
use Rattle.cc_lex.specs.declared.token.Token.{Token}
use Rattle.cc_lex.specs.declared.token.TokenKind.{TokenKind}
use Rattle.cc_lex.specs.declared.token.TokenKind.TheVariants as kind
use Rattle.cc_lex.specs.declared.keyword.Keyword.{Keyword}
use Rattle.cc_lex.specs.declared.keyword.Keyword.TheVariants as the_keyword
use Rattle.cc_lex.specs.contracts.keyword.Keyword as keywords
use Rattle.cc_lex.specs.declared.punct.Punct.{Punct}
use Rattle.cc_lex.specs.declared.punct.Punct.TheVariants as the_punct
use Rattle.cc_lex.specs.contracts.punct.Punct as puncts
use Rattle.cc_tree.specs.Trees.{Name}
use Rattle.cc_tree.specs.declared.operator.UnaryOp.{UnaryOp}
use Rattle.cc_tree.specs.declared.operator.UnaryOp.TheVariants as the_unary
use Rattle.cc_tree.specs.declared.operator.BinaryOp.{BinaryOp}
use Rattle.cc_tree.specs.declared.operator.BinaryOp.TheVariants as the_binary
use Rattle.cc_tree.specs.declared.operator.AssignOp.{AssignOp}
use Rattle.cc_tree.specs.declared.operator.AssignOp.TheVariants as the_assign
use Rattle.cc_tree.specs.declared.operator.StepOp.{StepOp}
use Rattle.cc_tree.specs.declared.operator.StepOp.TheVariants as the_step
use Rattle.cc_tree.specs.declared.operator.SpecWord.{SpecWord}
use Rattle.cc_tree.specs.declared.operator.SpecWord.TheVariants as the_spec_word
use Rattle.cc_grammar.specs.Levels.{binary_level}
use Rattle.cc_grammar.specs.Names.{Names, is_type}

abbrev pub same_punct : Punct → Punct → Bool
same_punct = sameb puncts.the_type

abbrev pub same_keyword : Keyword → Keyword → Bool
same_keyword = sameb keywords.the_type

-- ---- The next token

abbrev pub is_punct : Punct → TokenKind → Bool
is_punct s (kind.Punct t) = same_punct s t
is_punct s (kind.Keyword w) = false
is_punct s (kind.Identifier x) = false
is_punct s (kind.Integer v c) = false
is_punct s (kind.Character v) = false
is_punct s (kind.Str bytes) = false

abbrev pub is_keyword : Keyword → TokenKind → Bool
is_keyword w (kind.Keyword v) = same_keyword w v
is_keyword w (kind.Punct t) = false
is_keyword w (kind.Identifier x) = false
is_keyword w (kind.Integer v c) = false
is_keyword w (kind.Character v) = false
is_keyword w (kind.Str bytes) = false

abbrev pub next_is : Punct → List Token → Bool
next_is s [] = false
next_is s (t ∷ ts) = is_punct s t.kind

abbrev pub next_is_keyword : Keyword → List Token → Bool
next_is_keyword w [] = false
next_is_keyword w (t ∷ ts) = is_keyword w t.kind

abbrev pub skip : List Token → List Token
skip [] = []
skip (t ∷ ts) = ts

-- where the next token stands
abbrev pub spot : List Token → Spot
spot [] = spots.start
spot (t ∷ ts) = t.spot

-- the bytes of a string literal, if one comes next
abbrev pub literal : TokenKind → Option (List ℕ)
literal (kind.Str bytes) = Some bytes
literal (kind.Punct t) = None
literal (kind.Keyword v) = None
literal (kind.Identifier x) = None
literal (kind.Integer v c) = None
literal (kind.Character v) = None

abbrev pub next_literal : List Token → Option (List ℕ)
next_literal [] = None
next_literal (t ∷ ts) = literal t.kind

abbrev pub ident : TokenKind → Option Name
ident (kind.Identifier x) = Some x
ident (kind.Str bytes) = None
ident (kind.Punct t) = None
ident (kind.Keyword v) = None
ident (kind.Integer v c) = None
ident (kind.Character v) = None

abbrev pub next_ident : List Token → Option Name
next_ident [] = None
next_ident (t ∷ ts) = ident t.kind

-- ---- How an expression begins

pub data Start : Type 0 where
  begins_name : Name → Start
  begins_integer : ℤ → IntKind → Start
  begins_character : ℤ → Start
  begins_string : List ℕ → Start
  begins_paren : Start
  begins_unary : UnaryOp → Start
  begins_step : StepOp → Start
  begins_sizeof : Start
  begins_nothing : Start

abbrev pub start_punct : Punct → Start
start_punct the_punct.LeftParen = begins_paren
start_punct the_punct.And = begins_unary the_unary.Address
start_punct the_punct.Star = begins_unary the_unary.Deref
start_punct the_punct.Plus = begins_unary (the_unary.Int int_unary.Plus)
start_punct the_punct.Minus = begins_unary (the_unary.Int int_unary.Minus)
start_punct the_punct.Tilde = begins_unary (the_unary.Int int_unary.Invert)
start_punct the_punct.Not = begins_unary (the_unary.Int int_unary.Not)
start_punct the_punct.PlusPlus = begins_step the_step.Increment
start_punct the_punct.MinusMinus = begins_step the_step.Decrement
start_punct _ = begins_nothing

abbrev pub start_keyword : Keyword → Start
start_keyword the_keyword.Sizeof = begins_sizeof
start_keyword _ = begins_nothing

abbrev pub start_kind : TokenKind → Start
start_kind (kind.Identifier x) = begins_name x
start_kind (kind.Integer v c) = begins_integer v c
start_kind (kind.Character v) = begins_character v
start_kind (kind.Str bytes) = begins_string bytes
start_kind (kind.Punct t) = start_punct t
start_kind (kind.Keyword w) = start_keyword w

abbrev pub start : List Token → Start
start [] = begins_nothing
start (t ∷ ts) = start_kind t.kind

-- ---- How an expression goes on

pub data Tail : Type 0 where
  goes_binary : BinaryOp → Tail
  goes_assign : AssignOp → Tail
  goes_question : Tail
  goes_comma : Tail
  goes_call : Tail
  goes_index : Tail
  goes_dot : Tail
  goes_arrow : Tail
  goes_step : StepOp → Tail
  ends_here : Tail

abbrev pub tail_punct : Punct → Tail
tail_punct the_punct.OrOr = goes_binary the_binary.OrOr
tail_punct the_punct.AndAnd = goes_binary the_binary.AndAnd
tail_punct the_punct.Or = goes_binary (the_binary.Int int.Or)
tail_punct the_punct.Caret = goes_binary (the_binary.Int int.Xor)
tail_punct the_punct.And = goes_binary (the_binary.Int int.And)
tail_punct the_punct.EqualEqual = goes_binary (the_binary.Int int.Eq)
tail_punct the_punct.NotEqual = goes_binary (the_binary.Int int.Ne)
tail_punct the_punct.Less = goes_binary (the_binary.Int int.Lt)
tail_punct the_punct.LessEqual = goes_binary (the_binary.Int int.Le)
tail_punct the_punct.Greater = goes_binary (the_binary.Int int.Gt)
tail_punct the_punct.GreaterEqual = goes_binary (the_binary.Int int.Ge)
tail_punct the_punct.ShiftLeft = goes_binary (the_binary.Int int.Shl)
tail_punct the_punct.ShiftRight = goes_binary (the_binary.Int int.Shr)
tail_punct the_punct.Plus = goes_binary (the_binary.Int int.Add)
tail_punct the_punct.Minus = goes_binary (the_binary.Int int.Sub)
tail_punct the_punct.Star = goes_binary (the_binary.Int int.Mul)
tail_punct the_punct.Slash = goes_binary (the_binary.Int int.Div)
tail_punct the_punct.Percent = goes_binary (the_binary.Int int.Rem)
tail_punct the_punct.Equal = goes_assign the_assign.Plain
tail_punct the_punct.StarEqual = goes_assign the_assign.Mul
tail_punct the_punct.SlashEqual = goes_assign the_assign.Div
tail_punct the_punct.PercentEqual = goes_assign the_assign.Rem
tail_punct the_punct.PlusEqual = goes_assign the_assign.Add
tail_punct the_punct.MinusEqual = goes_assign the_assign.Sub
tail_punct the_punct.ShiftLeftEqual = goes_assign the_assign.Shl
tail_punct the_punct.ShiftRightEqual = goes_assign the_assign.Shr
tail_punct the_punct.AndEqual = goes_assign the_assign.And
tail_punct the_punct.CaretEqual = goes_assign the_assign.Xor
tail_punct the_punct.OrEqual = goes_assign the_assign.Or
tail_punct the_punct.Question = goes_question
tail_punct the_punct.Comma = goes_comma
tail_punct the_punct.LeftParen = goes_call
tail_punct the_punct.LeftBracket = goes_index
tail_punct the_punct.Dot = goes_dot
tail_punct the_punct.Arrow = goes_arrow
tail_punct the_punct.PlusPlus = goes_step the_step.Increment
tail_punct the_punct.MinusMinus = goes_step the_step.Decrement
tail_punct _ = ends_here

abbrev pub tail_kind : TokenKind → Tail
tail_kind (kind.Punct t) = tail_punct t
tail_kind (kind.Keyword w) = ends_here
tail_kind (kind.Identifier x) = ends_here
tail_kind (kind.Integer v c) = ends_here
tail_kind (kind.Character v) = ends_here
tail_kind (kind.Str bytes) = ends_here

abbrev pub tail : List Token → Tail
tail [] = ends_here
tail (t ∷ ts) = tail_kind t.kind

-- how tightly it binds what stands before it
abbrev pub binds : Tail → ℕ
binds (goes_binary op) = binary_level op
binds (goes_assign op) = 2
binds goes_question = 3
binds goes_comma = 1
binds goes_call = 16
binds goes_index = 16
binds goes_dot = 16
binds goes_arrow = 16
binds (goes_step op) = 16
binds ends_here = 0

-- the least level of what may stand before it
abbrev pub left_level : Tail → ℕ
left_level (goes_binary op) = binary_level op
left_level (goes_assign op) = 15
left_level goes_question = 4
left_level goes_comma = 1
left_level goes_call = 16
left_level goes_index = 16
left_level goes_dot = 16
left_level goes_arrow = 16
left_level (goes_step op) = 16
left_level ends_here = 16

-- ---- How a specifier begins

pub data SpecStart : Type 0 where
  spec_word : SpecWord → SpecStart
  spec_struct : SpecStart
  spec_enum : SpecStart
  spec_named : Name → SpecStart
  no_spec : SpecStart

abbrev pub spec_keyword : Keyword → SpecStart
spec_keyword the_keyword.Typedef = spec_word the_spec_word.Typedef
spec_keyword the_keyword.Extern = spec_word the_spec_word.Extern
spec_keyword the_keyword.Static = spec_word the_spec_word.Static
spec_keyword the_keyword.Inline = spec_word the_spec_word.Inline
spec_keyword the_keyword.Const = spec_word the_spec_word.Const
spec_keyword the_keyword.Void = spec_word the_spec_word.Void
spec_keyword the_keyword.Char = spec_word the_spec_word.Char
spec_keyword the_keyword.Short = spec_word the_spec_word.Short
spec_keyword the_keyword.Int = spec_word the_spec_word.Int
spec_keyword the_keyword.Long = spec_word the_spec_word.Long
spec_keyword the_keyword.Signed = spec_word the_spec_word.Signed
spec_keyword the_keyword.Unsigned = spec_word the_spec_word.Unsigned
spec_keyword the_keyword.Bool = spec_word the_spec_word.Bool
spec_keyword the_keyword.Struct = spec_struct
spec_keyword the_keyword.Enum = spec_enum
spec_keyword _ = no_spec

abbrev pub spec_kind : Names → TokenKind → SpecStart
spec_kind names (kind.Keyword w) = spec_keyword w
spec_kind names (kind.Identifier x) = if is_type names x then spec_named x else no_spec
spec_kind names (kind.Punct t) = no_spec
spec_kind names (kind.Integer v c) = no_spec
spec_kind names (kind.Character v) = no_spec
spec_kind names (kind.Str bytes) = no_spec

abbrev pub spec_start : Names → List Token → SpecStart
spec_start names [] = no_spec
spec_start names (t ∷ ts) = spec_kind names t.kind

abbrev pub is_spec : SpecStart → Bool
is_spec (spec_word w) = true
is_spec spec_struct = true
is_spec spec_enum = true
is_spec (spec_named x) = true
is_spec no_spec = false

abbrev pub starts_spec : Names → List Token → Bool
starts_spec names ts = is_spec (spec_start names ts)

-- ---- How a statement or a label begins

pub data StmtStart : Type 0 where
  begins_block : StmtStart
  begins_empty : StmtStart
  begins_if : StmtStart
  begins_switch : StmtStart
  begins_while : StmtStart
  begins_do : StmtStart
  begins_for : StmtStart
  begins_break : StmtStart
  begins_continue : StmtStart
  begins_return : StmtStart
  begins_case : StmtStart
  begins_default : StmtStart
  begins_other : StmtStart

abbrev pub stmt_keyword : Keyword → StmtStart
stmt_keyword the_keyword.If = begins_if
stmt_keyword the_keyword.Switch = begins_switch
stmt_keyword the_keyword.While = begins_while
stmt_keyword the_keyword.Do = begins_do
stmt_keyword the_keyword.For = begins_for
stmt_keyword the_keyword.Break = begins_break
stmt_keyword the_keyword.Continue = begins_continue
stmt_keyword the_keyword.Return = begins_return
stmt_keyword the_keyword.Case = begins_case
stmt_keyword the_keyword.Default = begins_default
stmt_keyword _ = begins_other

abbrev pub stmt_punct : Punct → StmtStart
stmt_punct the_punct.LeftBrace = begins_block
stmt_punct the_punct.Semicolon = begins_empty
stmt_punct _ = begins_other

abbrev pub stmt_kind : TokenKind → StmtStart
stmt_kind (kind.Keyword w) = stmt_keyword w
stmt_kind (kind.Punct t) = stmt_punct t
stmt_kind (kind.Identifier x) = begins_other
stmt_kind (kind.Integer v c) = begins_other
stmt_kind (kind.Character v) = begins_other
stmt_kind (kind.Str bytes) = begins_other

abbrev pub stmt_start : List Token → StmtStart
stmt_start [] = begins_other
stmt_start (t ∷ ts) = stmt_kind t.kind
