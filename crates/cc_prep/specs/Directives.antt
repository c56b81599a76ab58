-- What a directive line does, by its word and the tokens of its rest (C17 6.10), or which of M1 to M6 it breaks.
use Rattle.std.specs.Prelude.{◌≡◌, ◌≢◌, ◌+◌, ◌⊎◌, ℕ, true, false, not, List, [], ◌∷◌, ◌++◌, length, is_some, Option, None, Some}
use Rattle.cc_base.specs.declared.place.Spot.{Spot}
use Rattle.cc_lex.specs.declared.token.Token.{Token}
use Rattle.cc_lex.specs.declared.token.TokenKind.{TokenKind}
use Rattle.cc_lex.specs.declared.token.TokenKind.TheVariants.{Identifier, Str, Punct}
use Rattle.cc_lex.specs.declared.punct.Punct.TheVariants.{LeftParen}
use Rattle.cc_prep.specs.FileNames.{is_file_name}
use Rattle.cc_prep.specs.Groups.{innermost, opened, turned_in, may_turn, own_elif}
use Rattle.cc_prep.specs.Kinds.{kinds_of, IsOneString}
use Rattle.cc_prep.specs.Replacement.{Macros, list_of}
use Rattle.cc_prep.specs.declared.group.Group.{Group}
use Rattle.cc_prep.specs.declared.line.Word.{Word}
use Rattle.cc_prep.specs.declared.line.Word.TheVariants.{Define, Undef, Include, Ifdef, Ifndef, If, Elif, Else, Endif}

pub data Effect : Type 0 where
  -- these are the macros then, and the open groups
  goes_on : Macros → List Group → Effect
  -- a file of this name stands in the line's place
  includes : List ℕ → Effect
  -- this rule is broken
  breaks : ℕ → Effect

-- the rest is one identifier
abbrev pub IsOneName : List Token → List ℕ → Type 0
IsOneName tokens name = kinds_of tokens ≡ Identifier name ∷ []

-- a `(` stands directly behind the name
abbrev pub IsParameterList : (name : List ℕ) → Spot → List Token → Type 0
IsParameterList name at [] = ⊥
IsParameterList name at (t ∷ list) = (t.kind ≡ Punct LeftParen) × (t.spot.column ≡ at.column + length name)

-- the name has no list, or this one
abbrev pub MayHave : Macros → List ℕ → List TokenKind → Type 0
MayHave macros name list = (list_of macros name ≡ None) ⊎ (list_of macros name ≡ Some list)

-- Where text is read. `hash` is the number of bytes before the line's `#`.
pub data Does (macros : Macros) (groups : List Group) (hash : ℕ) : Word → List Token → Effect → Type 0 where
  -- 6.10.3: an identifier and any tokens
  defines : (name : List ℕ) (at : Spot) (list : List Token) → ¬ IsParameterList name at list → MayHave macros name (kinds_of list)
      → Does macros groups hash Define (record { kind = Identifier name; spot = at } ∷ list) (goes_on ((name, Some (kinds_of list)) ∷ macros) groups)
  defines_no_name : (tokens : List Token) → ((name : List ℕ) (at : Spot) (list : List Token) → tokens ≢ record { kind = Identifier name; spot = at } ∷ list) → Does macros groups hash Define tokens (breaks 1)
  defines_parameters : (name : List ℕ) (at : Spot) (list : List Token) → IsParameterList name at list → Does macros groups hash Define (record { kind = Identifier name; spot = at } ∷ list) (breaks 2)
  defines_again : (name : List ℕ) (at : Spot) (list : List Token) → ¬ IsParameterList name at list → ¬ MayHave macros name (kinds_of list)
      → Does macros groups hash Define (record { kind = Identifier name; spot = at } ∷ list) (breaks 6)
  -- 6.10.3.5
  undefines : (name : List ℕ) (tokens : List Token) → IsOneName tokens name → Does macros groups hash Undef tokens (goes_on ((name, None) ∷ macros) groups)
  -- 6.10.1
  opens_if : (name : List ℕ) (tokens : List Token) → IsOneName tokens name → Does macros groups hash Ifdef tokens (goes_on macros (opened groups hash (is_some (list_of macros name))))
  opens_if_not : (name : List ℕ) (tokens : List Token) → IsOneName tokens name → Does macros groups hash Ifndef tokens (goes_on macros (opened groups hash (not (is_some (list_of macros name)))))
  asks_no_name : (word : Word) (tokens : List Token) → (word ≡ Undef) ⊎ (word ≡ Ifdef) ⊎ (word ≡ Ifndef) → ((name : List ℕ) → ¬ IsOneName tokens name) → Does macros groups hash word tokens (breaks 1)
  turns : may_turn (innermost groups) ≡ true → Does macros groups hash Else [] (goes_on macros (turned_in groups (innermost groups)))
  turns_none : may_turn (innermost groups) ≡ false → Does macros groups hash Else [] (breaks 3)
  closes : (outer : List Group) (group : Group) → groups ≡ outer ++ group ∷ [] → Does macros groups hash Endif [] (goes_on macros outer)
  closes_none : groups ≡ [] → Does macros groups hash Endif [] (breaks 3)
  has_rest : (word : Word) (tokens : List Token) → (word ≡ Else) ⊎ (word ≡ Endif) → tokens ≢ [] → Does macros groups hash word tokens (breaks 1)
  else_if : (tokens : List Token) → Does macros groups hash Elif tokens (breaks 1)
  -- 6.10.2
  includes_file : (name : List ℕ) (tokens : List Token) → IsOneString tokens name → is_file_name name ≡ true → Does macros groups hash Include tokens (includes name)
  includes_none : (tokens : List Token) → ((name : List ℕ) → IsOneString tokens name → is_file_name name ≡ false) → Does macros groups hash Include tokens (breaks 4)

-- Where text is not read, only the word counts.
pub data Passes (groups : List Group) (hash : ℕ) : Word → Effect → Type 0 where
  nests : (macros : Macros) (word : Word) → (word ≡ If) ⊎ (word ≡ Ifdef) ⊎ (word ≡ Ifndef) → Passes groups hash word (goes_on macros (opened groups hash false))
  turns_here : (macros : Macros) → may_turn (innermost groups) ≡ true → Passes groups hash Else (goes_on macros (turned_in groups (innermost groups)))
  turns_again : may_turn (innermost groups) ≡ false → Passes groups hash Else (breaks 3)
  closes_here : (macros : Macros) (outer : List Group) (group : Group) → groups ≡ outer ++ group ∷ [] → Passes groups hash Endif (goes_on macros outer)
  own_else_if : own_elif (innermost groups) ≡ true → Passes groups hash Elif (breaks 1)
  nested_else_if : (macros : Macros) → own_elif (innermost groups) ≡ false → Passes groups hash Elif (goes_on macros groups)
