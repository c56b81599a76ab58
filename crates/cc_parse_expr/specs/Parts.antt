-- Parts of the rules, which the code has as methods of their own.
use Rattle.std.specs.Prelude.{ℕ, ◌||◌, false, List, length, Bool, Option, Some, None}
use Rattle.cc_base.specs.declared.place.Spot.{Spot}
use Rattle.cc_lex.specs.declared.punct.Punct.TheVariants as the_punct
use Rattle.cc_tree.specs.Trees.{Name, DeclTree, array, function, pointer, SpecTree, named, struct, enum, no_members, no_constants, MemberTree, ConstantTree}
use Rattle.cc_tree.specs.Views.{gathered_constants, gathered_members, gathered_types}
use Rattle.cc_grammar.specs.Classes.{next_ident, next_is, spot, spec_word, spec_struct, spec_enum, spec_start}
use Rattle.cc_grammar.specs.Names.{Names}
use Rattle.cc_grammar.specs.Outcomes.{Parser, ◌>>=◌, ◌>>◌, ◌<$>◌, pure, refuse, take}
use Rattle.cc_grammar.specs.Reading as grammar
use Rattle.cc_grammar.specs.Reading.{Inner, Mode, where_next, placed, skipping, enclosed, enclosed_by, repeated, opening, array_length, parameters, written_only, consts, direct, suffixes, goes_on_members, member_line, member_list, one_constant, constant_list, untagged}
use Rattle.cc_parse_tokens.specs.declared.class.SpecStart.{SpecStart}
use Rattle.cc_parse_tokens.specs.declared.class.SpecStart.TheVariants as the_spec_start

-- a typedef name
abbrev pub named_by : Option Name → Spot → Parser (SpecTree Spot)
named_by None n = refuse
named_by (Some x) n = skipping (pure (named n x))

module _ (names : Names) (inner : Inner) (d : ℕ) where
  -- ---- Declarators

  -- an array's brackets and parameters, behind a declarator
  abbrev pub array_of : DeclTree Spot → Spot → Parser (DeclTree Spot)
  array_of left n = skipping (array n left <$> array_length names inner d)

  abbrev pub function_of : DeclTree Spot → Spot → Parser (DeclTree Spot)
  function_of left n = skipping ((λ ps. function n left (gathered_types ps)) <$> parameters names inner d)

  -- what is written inside of parentheses
  abbrev pub written : Mode → Parser (DeclTree Spot)
  written mode = inner.declarator mode >>= written_only names inner d

  -- `*` and what stands behind it
  abbrev pub pointed : Mode → Parser (DeclTree Spot)
  pointed mode = placed (λ n. skipping (consts names inner d >>= (λ c. (λ e. pointer (opening e n) c e) <$> inner.declarator mode)))

  -- a declarator where there is room for one
  abbrev pub some_declarator : Mode → Parser (DeclTree Spot)
  some_declarator mode = where_next (next_is the_punct.Star) (pointed mode) (direct names inner d mode >>= suffixes names inner d d)

  -- ---- Specifiers

  -- lists of members and of constants where there is room for them
  abbrev pub member_lines : Parser (List (MemberTree Spot))
  member_lines = repeated (goes_on_members names inner d) (member_line names inner d)

  abbrev pub member_braces : Parser (List (MemberTree Spot))
  member_braces = take the_punct.LeftBrace >> member_lines >>= (λ ms. take the_punct.RightBrace >> pure ms)

  abbrev pub constants : Parser (List (ConstantTree Spot) × Bool)
  constants = λ ts. enclosed_by (one_constant names inner d) (length ts) ts

  abbrev pub constant_braces : Parser (List (ConstantTree Spot) × Bool)
  constant_braces = enclosed (one_constant names inner d)

  -- a struct and an enumeration behind their tags
  abbrev pub struct_of : Spot → Option Name → Parser (SpecTree Spot)
  struct_of n tag = where_next (λ ts. next_is the_punct.LeftBrace ts || untagged names inner d tag) ((λ ms. struct n tag (gathered_members ms)) <$> member_list names inner d) (pure (struct n tag no_members))

  abbrev pub enum_of : Spot → Option Name → Parser (SpecTree Spot)
  enum_of n tag = where_next (λ ts. next_is the_punct.LeftBrace ts || untagged names inner d tag) ((λ cs. enum n tag (gathered_constants cs.0) cs.1) <$> constant_list names inner d) (pure (enum n tag no_constants false))

  -- a specifier, by how it begins
  abbrev pub spec_of_class : SpecStart → Spot → Parser (SpecTree Spot)
  spec_of_class (the_spec_start.Word w) n = grammar.spec_by names inner d (spec_word w) n
  spec_of_class the_spec_start.Named n = λ ts. named_by (next_ident ts) n ts
  spec_of_class the_spec_start.Struct n = grammar.spec_by names inner d spec_struct n
  spec_of_class the_spec_start.Enum n = grammar.spec_by names inner d spec_enum n
  spec_of_class the_spec_start.Nothing n = refuse

  abbrev pub spec : Parser (SpecTree Spot)
  spec = λ ts. grammar.spec_by names inner d (spec_start names ts) (spot ts) ts
