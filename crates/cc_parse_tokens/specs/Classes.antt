-- The classes of tokens, as the code has them. A beginning has no name and no value there: they are those of the token.
use Rattle.std.specs.Prelude.{ℤ, Option, Some, None}
use Rattle.cc_arith.specs.declared.kind.IntKind.{IntKind}
use Rattle.cc_grammar.specs.Classes as grammar
use Rattle.cc_parse_tokens.specs.declared.class.Start.{Start}
use Rattle.cc_parse_tokens.specs.declared.class.Start.TheVariants as the_start
use Rattle.cc_parse_tokens.specs.declared.class.Tail.{Tail}
use Rattle.cc_parse_tokens.specs.declared.class.Tail.TheVariants as the_tail
use Rattle.cc_parse_tokens.specs.declared.class.SpecStart.{SpecStart}
use Rattle.cc_parse_tokens.specs.declared.class.SpecStart.TheVariants as the_spec_start
use Rattle.cc_parse_tokens.specs.declared.class.StmtStart.{StmtStart}
use Rattle.cc_parse_tokens.specs.declared.class.StmtStart.TheVariants as the_stmt_start

abbrev pub class_of_start : grammar.Start → Start
class_of_start (grammar.begins_name x) = the_start.Name
class_of_start (grammar.begins_integer v c) = the_start.Integer
class_of_start (grammar.begins_character v) = the_start.Character
class_of_start (grammar.begins_string bytes) = the_start.Str
class_of_start grammar.begins_paren = the_start.Paren
class_of_start (grammar.begins_unary op) = the_start.Unary op
class_of_start (grammar.begins_step op) = the_start.Step op
class_of_start grammar.begins_sizeof = the_start.Sizeof
class_of_start grammar.begins_nothing = the_start.Nothing

-- the value and kind of an integer constant, and the value of a character constant
abbrev pub integer_of : grammar.Start → Option (ℤ × IntKind)
integer_of (grammar.begins_integer v c) = Some (v, c)
integer_of _ = None

abbrev pub character_of : grammar.Start → Option ℤ
character_of (grammar.begins_character v) = Some v
character_of _ = None

abbrev pub tail_of : Tail → grammar.Tail
tail_of (the_tail.Binary op) = grammar.goes_binary op
tail_of (the_tail.Assign op) = grammar.goes_assign op
tail_of the_tail.Question = grammar.goes_question
tail_of the_tail.Comma = grammar.goes_comma
tail_of the_tail.Call = grammar.goes_call
tail_of the_tail.Index = grammar.goes_index
tail_of the_tail.Dot = grammar.goes_dot
tail_of the_tail.Arrow = grammar.goes_arrow
tail_of (the_tail.Step op) = grammar.goes_step op
tail_of the_tail.End = grammar.ends_here

abbrev pub class_of_spec : grammar.SpecStart → SpecStart
class_of_spec (grammar.spec_word w) = the_spec_start.Word w
class_of_spec grammar.spec_struct = the_spec_start.Struct
class_of_spec grammar.spec_enum = the_spec_start.Enum
class_of_spec (grammar.spec_named x) = the_spec_start.Named
class_of_spec grammar.no_spec = the_spec_start.Nothing

abbrev pub stmt_of : StmtStart → grammar.StmtStart
stmt_of the_stmt_start.Block = grammar.begins_block
stmt_of the_stmt_start.Empty = grammar.begins_empty
stmt_of the_stmt_start.If = grammar.begins_if
stmt_of the_stmt_start.Switch = grammar.begins_switch
stmt_of the_stmt_start.While = grammar.begins_while
stmt_of the_stmt_start.Do = grammar.begins_do
stmt_of the_stmt_start.For = grammar.begins_for
stmt_of the_stmt_start.Break = grammar.begins_break
stmt_of the_stmt_start.Continue = grammar.begins_continue
stmt_of the_stmt_start.Return = grammar.begins_return
stmt_of the_stmt_start.Case = grammar.begins_case
stmt_of the_stmt_start.Default = grammar.begins_default
stmt_of the_stmt_start.Other = grammar.begins_other
