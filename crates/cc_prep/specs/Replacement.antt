-- Lists in the place of macros' names (C17 6.10.3, for macros without parameters).
use Rattle.std.specs.Prelude.{◌≡◌, ◌+◌, ℕ, if◌then◌else◌, List, [], ◌∷◌, ◌++◌, Option, None, Some}
use Rattle.std.specs.List.{list_any}
use Rattle.std.specs.Str.{bytes_eq}
use Rattle.cc_lex.specs.declared.token.TokenKind.{TokenKind}
use Rattle.cc_lex.specs.declared.token.TokenKind.TheVariants.{Identifier}

-- the names that lines gave a list or took it from, the last line first
abbrev pub Macros : Type 0
Macros = List (List ℕ × Option (List TokenKind))

-- the list of the macro of this name
abbrev pub list_of : Macros → List ℕ → Option (List TokenKind)
list_of [] name = None
list_of (m ∷ ms) name = if bytes_eq name m.0 then m.1 else list_of ms name

-- the list that stands for a name, if it isn't hidden
abbrev pub list_for : Macros → (hidden : List (List ℕ)) → TokenKind → Option (List TokenKind)
list_for macros hidden (Identifier name) = if list_any (bytes_eq name) hidden then None else list_of macros name
list_for macros hidden _ = None

-- the name of an identifier is hidden too
abbrev pub hiding : TokenKind → List (List ℕ) → List (List ℕ)
hiding (Identifier name) hidden = name ∷ hidden
hiding _ hidden = hidden

-- What kinds of tokens stand for, and how many replacements that takes: an identifier that is a macro's name, and isn't
-- hidden, stands for what its list stands for with the name hidden too; each other token for itself.
pub data Gives (macros : Macros) : (hidden : List (List ℕ)) (kinds given : List TokenKind) (replacements : ℕ) → Type 0 where
  Nothing : {hidden : List (List ℕ)} → Gives macros hidden [] [] 0
  Itself : {hidden : List (List ℕ)} {kind : TokenKind} {kinds given : List TokenKind} {n : ℕ} → list_for macros hidden kind ≡ None → Gives macros hidden kinds given n → Gives macros hidden (kind ∷ kinds) (kind ∷ given) n
  Replaced : {hidden : List (List ℕ)} {kind : TokenKind} {list inner kinds given : List TokenKind} {m n : ℕ} → list_for macros hidden kind ≡ Some list → Gives macros (hiding kind hidden) list inner m → Gives macros hidden kinds given n
      → Gives macros hidden (kind ∷ kinds) (inner ++ given) (1 + m + n)
