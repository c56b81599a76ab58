-- Words and punctuators that the profile doesn't have: C1 to C14.
use Rattle.std.specs.Prelude.{ℕ, ◌≡◌, ◌<◌, Bool, ◌||◌, if◌then◌else◌, List, length, Option, Some, None, codes}
use Rattle.std.specs.Option.{option_and_then}
use Rattle.std.specs.List.{slice_get}
use Rattle.cc_lex.specs.declared.token.Token.{Token}
use Rattle.cc_lex.specs.declared.token.TokenKind.{TokenKind}
use Rattle.cc_lex.specs.declared.token.TokenKind.TheVariants as kind
use Rattle.cc_lex.specs.declared.keyword.Keyword.{Keyword}
use Rattle.cc_lex.specs.declared.keyword.Keyword.TheVariants as word
use Rattle.cc_lex.specs.declared.punct.Punct.TheVariants as punct
use Rattle.cc_lex.specs.Spellings.{same}

-- the rule that a keyword meets
abbrev pub keyword_rule : Keyword → Option ℕ
keyword_rule word.Float = Some 1
keyword_rule word.Double = Some 1
keyword_rule word.Complex = Some 1
keyword_rule word.Imaginary = Some 1
keyword_rule word.Union = Some 2
keyword_rule word.Goto = Some 3
keyword_rule word.Volatile = Some 4
keyword_rule word.Restrict = Some 5
keyword_rule word.Register = Some 6
keyword_rule word.Auto = Some 6
keyword_rule word.Atomic = Some 7
keyword_rule word.ThreadLocal = Some 8
keyword_rule word.Alignas = Some 9
keyword_rule word.Alignof = Some 9
keyword_rule word.Generic = Some 10
keyword_rule word.Noreturn = Some 11
keyword_rule word.StaticAssert = Some 12
keyword_rule _ = None

-- `asm`, `__asm`, `__asm__` or `__attribute__`
abbrev pub is_assembly : List ℕ → Bool
is_assembly w =
    ((same (codes "asm") w || same (codes "__asm") w) || same (codes "__asm__") w) || same (codes "__attribute__") w

-- the rule that a token meets
abbrev pub banned_rule : TokenKind → Option ℕ
banned_rule (kind.Keyword k) = keyword_rule k
banned_rule (kind.Punct punct.Ellipsis) = Some 13
banned_rule (kind.Identifier w) = if is_assembly w then Some 14 else None
banned_rule _ = None

-- the rule that the token at the index meets, if one stands there
abbrev pub rule_at : List Token → ℕ → Option ℕ
rule_at tokens i = option_and_then (λ t. banned_rule t.kind) (slice_get tokens i)

-- no token meets a rule
abbrev pub IsAllowed : List Token → Type 0
IsAllowed tokens = (i : ℕ) → i < length tokens → rule_at tokens i ≡ None

-- the token at the index is the first that meets a rule
pub record IsFirstBanned (tokens : List Token) (index rule : ℕ) : Type 0 where
  pub within : index < length tokens
  pub meets : rule_at tokens index ≡ Some rule
  pub first : (i : ℕ) → i < index → rule_at tokens i ≡ None
