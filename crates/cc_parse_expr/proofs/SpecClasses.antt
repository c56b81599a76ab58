-- A specifier by the class of its first token.
use Rattle.std.proofs.Common.{◌≡◌, ℕ, Bool, true, false, List, [], ◌∷◌, Option, Some, None, refl, if◌then◌else◌}
use Rattle.cc_base.specs.declared.place.Spot.{Spot}
use Rattle.cc_lex.specs.declared.token.Token.{Token}
use Rattle.cc_lex.specs.declared.token.TokenKind.{TokenKind}
use Rattle.cc_lex.specs.declared.token.TokenKind.TheVariants as kind
use Rattle.cc_lex.specs.declared.keyword.Keyword.{Keyword}
use Rattle.cc_lex.specs.declared.keyword.Keyword.TheVariants as the_keyword
use Rattle.cc_tree.specs.Trees.{Name}
use Rattle.cc_grammar.specs.Names.{Names, is_type}
use Rattle.cc_grammar.specs.Classes.{ident, next_ident, SpecStart, spec_word, spec_struct, spec_enum, spec_named, no_spec, spec_keyword, spec_kind, spec_start}
use Rattle.cc_grammar.specs.Reading.{Inner, spec_by}
use Rattle.cc_parse_tokens.specs.Classes.{class_of_spec}
use Rattle.cc_parse_expr.specs.Parts.{spec_of_class}

-- what a typedef name would be read from is an identifier
abbrev IsIdent : SpecStart → Option Name → Type 0
IsIdent (spec_named x) y = y ≡ Some x
IsIdent (spec_word w) y = Unit {0}
IsIdent spec_struct y = Unit {0}
IsIdent spec_enum y = Unit {0}
IsIdent no_spec y = Unit {0}

key_is : (w : Keyword) → IsIdent (spec_keyword w) None
key_is the_keyword.Typedef = tt
key_is the_keyword.Extern = tt
key_is the_keyword.Static = tt
key_is the_keyword.Inline = tt
key_is the_keyword.Const = tt
key_is the_keyword.Void = tt
key_is the_keyword.Char = tt
key_is the_keyword.Short = tt
key_is the_keyword.Int = tt
key_is the_keyword.Long = tt
key_is the_keyword.Signed = tt
key_is the_keyword.Unsigned = tt
key_is the_keyword.Bool = tt
key_is the_keyword.Struct = tt
key_is the_keyword.Enum = tt
key_is _ = tt

ident_is : (x : Name) (b : Bool) → IsIdent (if b then spec_named x else no_spec) (Some x)
ident_is x true = refl
ident_is x false = tt

kind_is : (names : Names) (t : TokenKind) → IsIdent (spec_kind names t) (ident t)
kind_is names (kind.Keyword w) = key_is w
kind_is names (kind.Identifier x) = ident_is x (is_type names x)
kind_is names (kind.Punct t) = tt
kind_is names (kind.Integer v c) = tt
kind_is names (kind.Character v) = tt
kind_is names (kind.Str bytes) = tt

start_is : (names : Names) (ts : List Token) → IsIdent (spec_start names ts) (next_ident ts)
start_is names [] = tt
start_is names (t ∷ ts) = kind_is names t.kind

module _ (names : Names) (inner : Inner) (d : ℕ) (n : Spot) (ts : List Token) where
  by_start : (s : SpecStart) → IsIdent s (next_ident ts) → spec_by names inner d s n ts ≡ spec_of_class names inner d (class_of_spec s) n ts
  by_start (spec_word w) e = refl
  by_start spec_struct e = refl
  by_start spec_enum e = refl
  by_start (spec_named x) e = rw e refl
  by_start no_spec e = refl

  pub spec_by_class : spec_by names inner d (spec_start names ts) n ts ≡ spec_of_class names inner d (class_of_spec (spec_start names ts)) n ts
  spec_by_class = by_start (spec_start names ts) (start_is names ts)
