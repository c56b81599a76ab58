-- Tokens that `lex` can give.
use Rattle.std.specs.Prelude.{◌≡◌, Bool, true, false, pos, ◌≤ℤ◌, None}
use Rattle.cc_arith.specs.declared.kind.IntKind.{IntKind}
use Rattle.cc_arith.specs.declared.kind.IntKind.TheVariants.{Char, Int, UInt, Long, ULong, LLong, ULLong}
use Rattle.cc_arith.specs.Kinds.{IsInRange}
use Rattle.cc_lex.specs.declared.token.TokenKind.{TokenKind}
use Rattle.cc_lex.specs.declared.token.TokenKind.TheVariants as kind
use Rattle.cc_lex.specs.Spellings.{is_name, keywords}
use Rattle.cc_lex.specs.Meanings.{lookup}

-- a kind from `int` up
abbrev pub is_constant_kind : IntKind → Bool
is_constant_kind Int = true
is_constant_kind UInt = true
is_constant_kind Long = true
is_constant_kind ULong = true
is_constant_kind LLong = true
is_constant_kind ULLong = true
is_constant_kind _ = false

-- An identifier is a name and no keyword, an integer has a kind from `int` up and a value from 0 to the greatest of that
-- kind, and a character has a value of `char`.
abbrev pub CanBeGiven : TokenKind → Type 0
CanBeGiven (kind.Identifier w) = (is_name w ≡ true) × (lookup keywords w ≡ None)
CanBeGiven (kind.Integer value k) = (is_constant_kind k ≡ true) × (pos 0 ≤ℤ value) × IsInRange k value
CanBeGiven (kind.Character value) = IsInRange Char value
CanBeGiven _ = Unit {0}
