-- What the spelling of a token means, and which faults it has.
use Rattle.std.specs.Prelude.{ℕ, pos, Bool, ◌&&◌, ◌||◌, ◌==◌, if◌then◌else◌, List, [], ◌∷◌, Option, Some, None, is_some, unwrap_or}
use Rattle.cc_arith.specs.declared.kind.IntKind.TheVariants.{Int}
use Rattle.cc_lex.specs.declared.token.TokenKind.{TokenKind}
use Rattle.cc_lex.specs.declared.token.TokenKind.TheVariants as kind
use Rattle.cc_lex.specs.declared.keyword.Keyword.{Keyword}
use Rattle.cc_lex.specs.declared.punct.Punct.TheVariants as punct
use Rattle.cc_lex.specs.Bytes.{first, is_letter, is_quote}
use Rattle.cc_lex.specs.Spellings.{same, keywords, puncts, is_digraph, begins_number}
use Rattle.cc_lex.specs.Numbers.{value_of, type_of, number_faults}
use Rattle.cc_lex.specs.Characters.{inner, character_value, characters_of, values_of, as_char, string_faults, character_faults}

-- what the table has beside the spelling
abbrev pub lookup : {A : Type 0} → List (List ℕ × A) → List ℕ → Option A
lookup [] w = None
lookup (k ∷ ks) w = if same k.0 w then Some k.1 else lookup ks w

-- one of the 44 keywords
abbrev pub is_keyword : List ℕ → Bool
is_keyword w = is_some (lookup keywords w)

-- ---- Kinds

abbrev pub named : List ℕ → Option Keyword → TokenKind
named w None = kind.Identifier w
named w (Some k) = kind.Keyword k

-- a keyword, or else an identifier
unfoldable pub word : List ℕ → TokenKind
word w = named w (lookup keywords w)

-- the kind of a token without faults
unfoldable pub meaning : List ℕ → TokenKind
meaning w =
    if is_letter (first w) then word w
    else if begins_number w then kind.Integer (pos (value_of w)) (unwrap_or (type_of w) Int)
    else if first w == 39 then kind.Character (as_char (unwrap_or (character_value (inner w)) 0))
    else if first w == 34 then kind.Str (values_of (characters_of w))
    else kind.Punct (unwrap_or (lookup puncts w) punct.Comma)

-- ---- Faults, by their places in the spelling and their rules

-- `L`, `u`, `U` or `u8`
abbrev pub is_prefix : List ℕ → Bool
is_prefix w = ((same (76 ∷ []) w || same (117 ∷ []) w) || same (85 ∷ []) w) || same (117 ∷ 56 ∷ []) w

-- L9 for a prefix of a constant and for a digraph token, L6 and L7 for a number, L4 and L5 for a character constant, L4
-- for a string. `after` is the byte that follows.
unfoldable pub faults : List ℕ → ℕ → List (ℕ × ℕ)
faults w after =
    if is_prefix w && is_quote after then (0, 9) ∷ []
    else if begins_number w then number_faults w
    else if first w == 39 then character_faults w
    else if first w == 34 then string_faults w
    else if is_digraph w then (0, 9) ∷ []
    else []
