-- The words of a type (C17 6.7.2), in any order.
use Rattle.std.specs.Prelude.{Bool, true, false, not, ◌&&◌, Option, Some, None, if◌then◌else◌}
use Rattle.cc_arith.specs.declared.kind.IntKind.{IntKind}
use Rattle.cc_arith.specs.declared.kind.IntKind.TheVariants as k
use Rattle.cc_tree.specs.declared.operator.SpecWord.{SpecWord}
use Rattle.cc_tree.specs.declared.operator.SpecWord.TheVariants as w
use Rattle.cc_types.specs.declared.shape.Shape.{Shape}
use Rattle.cc_types.specs.declared.shape.Shape.TheVariants as h
use Rattle.cc_declare.specs.declared.type_words.Core.{Core}
use Rattle.cc_declare.specs.declared.type_words.Core.TheVariants as c
use Rattle.cc_declare.specs.declared.type_words.Sign.{Sign}
use Rattle.cc_declare.specs.declared.type_words.Sign.TheVariants.{Unsaid, Signed, Unsigned}
use Rattle.cc_declare.specs.declared.type_words.TypeWords.{TypeWords}

abbrev pub no_words : TypeWords
no_words = record { core = c.Nothing; sign = Unsaid; has_int = false; is_wrong = false }

abbrev pub wrong : TypeWords → TypeWords
wrong t = record t { is_wrong = true }

abbrev pub with_core : TypeWords → Core → TypeWords
with_core t x = record t { core = x }

abbrev pub is_nothing : Core → Bool
is_nothing c.Nothing = true
is_nothing x = false

-- what one `long` more makes of this, if it can stand there
abbrev pub one_long_more : Core → Option Core
one_long_more c.Nothing = Some c.Long
one_long_more c.Long = Some c.LongLong
one_long_more x = None

-- one word more that names a type by itself: beside another there are two
abbrev pub core_named : TypeWords → Core → TypeWords
core_named t x = if is_nothing t.core then with_core t x else wrong t

abbrev pub long_said_as : TypeWords → Option Core → TypeWords
long_said_as t (Some x) = with_core t x
long_said_as t None = wrong t

abbrev pub long_said : TypeWords → TypeWords
long_said t = long_said_as t (one_long_more t.core)

abbrev pub int_said : TypeWords → TypeWords
int_said t = if t.has_int then wrong t else record t { has_int = true }

abbrev pub sign_said_at : TypeWords → Sign → Sign → TypeWords
sign_said_at t x Unsaid = record t { sign = x }
sign_said_at t x other = wrong t

abbrev pub sign_said : TypeWords → Sign → TypeWords
sign_said t x = sign_said_at t x t.sign

-- one word more; words that say nothing of the type change nothing
abbrev pub word_said : TypeWords → SpecWord → TypeWords
word_said t w.Void = core_named t c.Void
word_said t w.Bool = core_named t c.Bool
word_said t w.Char = core_named t c.Char
word_said t w.Short = core_named t c.Short
word_said t w.Long = long_said t
word_said t w.Int = int_said t
word_said t w.Signed = sign_said t Signed
word_said t w.Unsigned = sign_said t Unsigned
word_said t x = t

abbrev pub is_unsaid : Sign → Bool
is_unsaid Unsaid = true
is_unsaid x = false

-- neither `int`, `signed` nor `unsigned` has been said
abbrev pub is_bare : TypeWords → Bool
is_bare t = not t.has_int && is_unsaid t.sign

abbrev pub is_whole_at : TypeWords → Core → Bool
is_whole_at t c.Nothing = not (is_bare t)
is_whole_at t c.Void = is_bare t
is_whole_at t c.Bool = is_bare t
is_whole_at t (c.Type x) = is_bare t
is_whole_at t c.Untyped = is_bare t
is_whole_at t c.Char = not t.has_int
is_whole_at t c.Short = true
is_whole_at t c.Long = true
is_whole_at t c.LongLong = true

-- these words together name a type
abbrev pub is_whole : TypeWords → Bool
is_whole t = is_whole_at t t.core

-- they name one type and no other
abbrev pub name_one_type : TypeWords → Bool
name_one_type t = not t.is_wrong && is_whole t

abbrev pub signed_or : Sign → IntKind → IntKind → IntKind
signed_or Unsigned a b = b
signed_or x a b = a

abbrev pub char_kind : Sign → IntKind
char_kind Unsaid = k.Char
char_kind Signed = k.SChar
char_kind Unsigned = k.UChar

abbrev pub integer : Sign → IntKind → IntKind → Shape
integer x a b = h.Integer false (signed_or x a b)

-- the form of the type that words name; none for a struct, an enum or a typedef name
abbrev pub shape_named : Core → Sign → Option Shape
shape_named c.Void x = Some (h.Void false)
shape_named c.Bool x = Some (h.Integer false k.Bool)
shape_named c.Char x = Some (h.Integer false (char_kind x))
shape_named c.Nothing x = Some (integer x k.Int k.UInt)
shape_named c.Short x = Some (integer x k.Short k.UShort)
shape_named c.Long x = Some (integer x k.Long k.ULong)
shape_named c.LongLong x = Some (integer x k.LLong k.ULLong)
shape_named (c.Type t) x = None
shape_named c.Untyped x = None
