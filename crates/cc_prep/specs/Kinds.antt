-- Kinds of tokens.
use Rattle.std.specs.Prelude.{◌≡◌, ℕ, List, [], ◌∷◌, map}
use Rattle.cc_lex.specs.declared.token.Token.{Token}
use Rattle.cc_lex.specs.declared.token.TokenKind.{TokenKind}
use Rattle.cc_lex.specs.declared.token.TokenKind.TheVariants.{Str}

abbrev pub kinds_of : List Token → List TokenKind
kinds_of tokens = map (λ t. t.kind) tokens

-- the tokens are one string literal, which has these bytes
abbrev pub IsOneString : List Token → List ℕ → Type 0
IsOneString tokens bytes = kinds_of tokens ≡ Str bytes ∷ []
