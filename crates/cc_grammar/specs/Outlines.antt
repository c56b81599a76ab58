-- The grammar (C17 6.5, 6.7, 6.8, 6.9, as far as the profile has it): the outline of each tree, production by production.
use Rattle.std.specs.Prelude.{◌≡◌, ℕ, zero, suc, ◌+◌, ◌≤◌, Bool, true, false, List, [], ◌∷◌, Option, Some, None, if◌then◌else◌}
use Rattle.cc_base.specs.declared.place.Spot.{Spot}
use Rattle.cc_lex.specs.declared.token.TokenKind.TheVariants as kind
use Rattle.cc_lex.specs.declared.keyword.Keyword.{Keyword}
use Rattle.cc_lex.specs.declared.keyword.Keyword.TheVariants as the_keyword
use Rattle.cc_lex.specs.declared.punct.Punct.{Punct}
use Rattle.cc_lex.specs.declared.punct.Punct.TheVariants as the_punct
use Rattle.cc_tree.specs.declared.operator.Side.TheVariants as side
use Rattle.cc_tree.specs.Trees.{Name, ExprTree, name, integer, character, string, paren, unary, binary, assign, step, choice, comma, call, member, arrow, index, cast, size_expr, size_type, ExprTrees, no_exprs, more_exprs, ExprOption, no_expr, an_expr, TypeTree, type_name, TypeTrees, no_types, more_types, SpecTree, word, named, struct, enum, SpecTrees, no_specs, more_specs, MemberTree, members, MemberTrees, no_members, more_members, ConstantTree, constant, ConstantTrees, no_constants, more_constants, DeclTree, declared, nameless, pointer, array, function, grouped, DeclTrees, no_declarators, more_declarators}
use Rattle.cc_tree.specs.Trees.{ValueTree, single, braces, ValueTrees, no_values, more_values, InitTree, init, DeclarationTree, declaration, StartTree, start_declaration, start_expr, no_start, StmtTree, compound, plain, empty, if_then, if_else, switch, while_loop, do_loop, for_loop, break, continue, return, BlockTree, block, ItemTree, declares, case_label, default_label, does, ItemTrees, no_items, more_items, ExternalTree, outer_declaration, definition}
use Rattle.cc_grammar.specs.Outline.{Outline, end, token, part, ◌▸◌}
use Rattle.cc_grammar.specs.Levels.{level, binary_level, unary_punct, step_punct, binary_punct, assign_punct, word_keyword}
use Rattle.cc_grammar.specs.Names.{Names, is_type, has_typedef, after_declarator, after_inits, after_start, after_stmt, after_item, after_external}

-- ---- Tokens and parts

-- a punctuator or keyword, which gives its spot to a node or to none
abbrev pub punct : Punct → Outline → Outline
punct s = token (Unit {0}) (kind.Punct s) None

abbrev pub punct_of : Spot → Punct → Outline → Outline
punct_of n s = token (Unit {0}) (kind.Punct s) (Some n)

abbrev pub keyword : Keyword → Outline → Outline
keyword w = token (Unit {0}) (kind.Keyword w) None

abbrev pub keyword_of : Spot → Keyword → Outline → Outline
keyword_of n w = token (Unit {0}) (kind.Keyword w) (Some n)

-- an identifier that is no typedef name
abbrev pub identifier : Names → Option Spot → Name → Outline → Outline
identifier names n x = token (is_type names x ≡ false) (kind.Identifier x) n

-- what is there without being a node
abbrev pub within : Outline → Outline → Outline
within = part false (Unit {0})

-- an expression of this level at least
abbrev pub operand : ℕ → ExprTree Spot → Outline → Outline → Outline
operand least e = part true (least ≤ level e)

-- ---- Spots

-- where the first token of an expression stands
abbrev pub begins : ExprTree Spot → Spot
begins (name n x) = n
begins (integer n v c) = n
begins (character n v) = n
begins (string n ss) = n
begins (paren n e) = n
begins (unary n op e) = n
begins (binary n op a b) = begins a
begins (assign n op a b) = begins a
begins (step n op side.Before e) = n
begins (step n op side.After e) = begins e
begins (choice n c a b) = begins c
begins (comma n a b) = begins a
begins (call n f es) = n
begins (member n e x) = begins e
begins (arrow n e x) = begins e
begins (index n a i) = begins a
begins (cast n t e) = n
begins (size_expr n e) = n
begins (size_type n t) = n

abbrev pub spec_spot : SpecTree Spot → Spot
spec_spot (word n w) = n
spec_spot (named n x) = n
spec_spot (struct n tag ms) = n
spec_spot (enum n tag cs trailing) = n

-- there are specifiers, and the first stands here
abbrev pub BeginAt : SpecTrees Spot → Spot → Type 0
BeginAt no_specs n = ⊥
BeginAt (more_specs s ss) n = n ≡ spec_spot s

abbrev pub is_named : {N : Type 0} → DeclTree N → Bool
is_named (declared n x) = true
is_named nameless = false
is_named (pointer n c d) = is_named d
is_named (array n d length) = is_named d
is_named (function n d ps) = is_named d
is_named (grouped n d) = is_named d

-- the declarator has this spot, if it has one
abbrev pub HasSpot : DeclTree Spot → Spot → Type 0
HasSpot (declared m x) n = n ≡ m
HasSpot nameless n = Unit {0}
HasSpot (pointer m c d) n = n ≡ m
HasSpot (array m d length) n = n ≡ m
HasSpot (function m d ps) n = n ≡ m
HasSpot (grouped m d) n = n ≡ m

-- A form around a named declarator has the spot of the name. `*` and `(` before one without a name give it theirs,
abbrev pub opening_spot : DeclTree Spot → Spot → Option Spot
opening_spot d n = if is_named d then None else Some n

abbrev pub ClosesOver : DeclTree Spot → Spot → Type 0
ClosesOver d n = is_named d ≡ true → HasSpot d n

-- and so do `[` and `(` behind nothing. Behind a declarator the form has the spot of that one.
abbrev pub suffix_spot : DeclTree Spot → Spot → Option Spot
suffix_spot nameless n = Some n
suffix_spot (declared m x) n = None
suffix_spot (pointer m c d) n = None
suffix_spot (array m d length) n = None
suffix_spot (function m d ps) n = None
suffix_spot (grouped m d) n = None

-- ---- Declarators

-- a name, parentheses or suffixes, or nothing
abbrev pub is_direct : {N : Type 0} → DeclTree N → Bool
is_direct (pointer n c d) = false
is_direct (declared n x) = true
is_direct nameless = true
is_direct (array n d length) = true
is_direct (function n d ps) = true
is_direct (grouped n d) = true

-- something is written; such a form counts
abbrev pub is_written : {N : Type 0} → DeclTree N → Bool
is_written nameless = false
is_written (declared n x) = true
is_written (pointer n c d) = true
is_written (array n d length) = true
is_written (function n d ps) = true
is_written (grouped n d) = true

-- a declarator with a name, one without, and either
abbrev pub named_one : DeclTree Spot → Outline → Outline → Outline
named_one d = part (is_written d) (is_named d ≡ true)

abbrev pub abstract_one : DeclTree Spot → Outline → Outline → Outline
abstract_one d = part (is_written d) (is_named d ≡ false)

abbrev pub any_one : DeclTree Spot → Outline → Outline → Outline
any_one d = part (is_written d) (Unit {0})

abbrev pub consts : ℕ → Outline
consts zero = end
consts (suc n) = keyword the_keyword.Const ▸ consts n

-- ---- Specifiers

abbrev pub tag_of : Option Name → Outline
tag_of None = end
tag_of (Some x) = token (Unit {0}) (kind.Identifier x) None ▸ end

abbrev pub trailing_comma : Bool → Outline
trailing_comma true = punct the_punct.Comma ▸ end
trailing_comma false = end

-- a struct or enum has a tag or a list, and a last comma stands behind something
abbrev pub IsShaped : SpecTree Spot → Type 0
IsShaped (struct n None no_members) = ⊥
IsShaped (enum n None no_constants trailing) = ⊥
IsShaped (enum n (Some x) no_constants true) = ⊥
IsShaped _ = Unit {0}

abbrev pub HasDeclarators : DeclTrees Spot → Type 0
HasDeclarators no_declarators = ⊥
HasDeclarators (more_declarators d ds) = Unit {0}

abbrev pub HasSpecs : SpecTrees Spot → Type 0
HasSpecs no_specs = ⊥
HasSpecs (more_specs s ss) = Unit {0}

-- ---- Expressions, type names, specifiers and declarators

abbrev pub strings : List (List ℕ) → Outline
strings [] = end
strings (s ∷ ss) = token (Unit {0}) (kind.Str s) None ▸ strings ss

-- the first string literal gives its spot; there is one
abbrev pub string_tokens : Spot → List (List ℕ) → Outline
string_tokens n [] = part false ⊥ end end
string_tokens n (s ∷ ss) = token (Unit {0}) (kind.Str s) (Some n) ▸ strings ss

abbrev mutual
  pub expr : Names → ExprTree Spot → Outline
  expr names (name n x) = identifier names (Some n) x ▸ end
  expr names (integer n v c) = token (Unit {0}) (kind.Integer v c) (Some n) ▸ end
  expr names (character n v) = token (Unit {0}) (kind.Character v) (Some n) ▸ end
  expr names (string n ss) = string_tokens n ss
  expr names (paren n e) = punct_of n the_punct.LeftParen ▸ operand 1 e (expr names e) ▸ punct the_punct.RightParen ▸ end
  expr names (unary n op e) = punct_of n (unary_punct op) ▸ operand 14 e (expr names e) ▸ end
  expr names (binary n op a b) = operand (binary_level op) a (expr names a) ▸ punct_of n (binary_punct op) ▸ operand (binary_level op + 1) b (expr names b) ▸ end
  expr names (assign n op a b) = operand 15 a (expr names a) ▸ punct_of n (assign_punct op) ▸ operand 2 b (expr names b) ▸ end
  expr names (step n op side.Before e) = punct_of n (step_punct op) ▸ operand 15 e (expr names e) ▸ end
  expr names (step n op side.After e) = operand 16 e (expr names e) ▸ punct_of n (step_punct op) ▸ end
  expr names (choice n c a b) = operand 4 c (expr names c) ▸ punct_of n the_punct.Question ▸ operand 1 a (expr names a) ▸ punct the_punct.Colon ▸ operand 3 b (expr names b) ▸ end
  expr names (comma n a b) = operand 1 a (expr names a) ▸ punct_of n the_punct.Comma ▸ operand 2 b (expr names b) ▸ end
  expr names (call n f es) = part false (n ≡ begins f) (operand 16 f (expr names f) ▸ punct the_punct.LeftParen ▸ within (arguments names es) ▸ punct the_punct.RightParen ▸ end) ▸ end
  expr names (member n e x) = operand 16 e (expr names e) ▸ punct_of n the_punct.Dot ▸ identifier names None x ▸ end
  expr names (arrow n e x) = operand 16 e (expr names e) ▸ punct_of n the_punct.Arrow ▸ identifier names None x ▸ end
  expr names (index n a i) = operand 16 a (expr names a) ▸ punct_of n the_punct.LeftBracket ▸ operand 1 i (expr names i) ▸ punct the_punct.RightBracket ▸ end
  expr names (cast n t e) = punct_of n the_punct.LeftParen ▸ within (type_of names t) ▸ punct the_punct.RightParen ▸ operand 14 e (expr names e) ▸ end
  expr names (size_expr n e) = keyword_of n the_keyword.Sizeof ▸ operand 15 e (expr names e) ▸ end
  expr names (size_type n t) = keyword_of n the_keyword.Sizeof ▸ punct the_punct.LeftParen ▸ within (type_of names t) ▸ punct the_punct.RightParen ▸ end

  pub arguments : Names → ExprTrees Spot → Outline
  arguments names no_exprs = end
  arguments names (more_exprs e es) = operand 2 e (expr names e) ▸ within (more_arguments names es) ▸ end

  pub more_arguments : Names → ExprTrees Spot → Outline
  more_arguments names no_exprs = end
  more_arguments names (more_exprs e es) = punct the_punct.Comma ▸ operand 2 e (expr names e) ▸ within (more_arguments names es) ▸ end

  -- a constant expression in brackets, or none
  pub length_of : Names → ExprOption Spot → Outline
  length_of names no_expr = end
  length_of names (an_expr e) = operand 3 e (expr names e) ▸ end

  -- the value of an enumeration constant, or none
  pub constant_value : Names → ExprOption Spot → Outline
  constant_value names no_expr = end
  constant_value names (an_expr e) = punct the_punct.Equal ▸ operand 3 e (expr names e) ▸ end

  -- a type name, and a parameter
  pub type_of : Names → TypeTree Spot → Outline
  type_of names (type_name n ss d) = part false (BeginAt ss n) (within (specs names ss) ▸ abstract_one d (declarator names d) ▸ end) ▸ end

  pub parameter : Names → TypeTree Spot → Outline
  parameter names (type_name n ss d) = part false (BeginAt ss n) (within (specs names ss) ▸ any_one d (declarator names d) ▸ end) ▸ end

  pub parameters : Names → TypeTrees Spot → Outline
  parameters names no_types = end
  parameters names (more_types t ts) = within (parameter names t) ▸ within (more_parameters names ts) ▸ end

  pub more_parameters : Names → TypeTrees Spot → Outline
  more_parameters names no_types = end
  more_parameters names (more_types t ts) = punct the_punct.Comma ▸ within (parameter names t) ▸ within (more_parameters names ts) ▸ end

  pub spec : Names → SpecTree Spot → Outline
  spec names (word n w) = keyword_of n (word_keyword w) ▸ end
  spec names (named n x) = token (is_type names x ≡ true) (kind.Identifier x) (Some n) ▸ end
  spec names (struct n tag ms) = part false (IsShaped (struct n tag ms)) (keyword_of n the_keyword.Struct ▸ within (tag_of tag) ▸ within (member_list names ms) ▸ end) ▸ end
  spec names (enum n tag cs trailing) = part false (IsShaped (enum n tag cs trailing)) (keyword_of n the_keyword.Enum ▸ within (tag_of tag) ▸ within (constant_list names cs trailing) ▸ end) ▸ end

  pub specs : Names → SpecTrees Spot → Outline
  specs names no_specs = end
  specs names (more_specs s ss) = within (spec names s) ▸ within (specs names ss) ▸ end

  -- a list in braces, which counts, or none
  pub member_list : Names → MemberTrees Spot → Outline
  member_list names no_members = end
  member_list names (more_members m ms) = part true (Unit {0}) (punct the_punct.LeftBrace ▸ within (member_line names m) ▸ within (member_lines names ms) ▸ punct the_punct.RightBrace ▸ end) ▸ end

  pub member_lines : Names → MemberTrees Spot → Outline
  member_lines names no_members = end
  member_lines names (more_members m ms) = within (member_line names m) ▸ within (member_lines names ms) ▸ end

  pub member_line : Names → MemberTree Spot → Outline
  member_line names (members n ss ds) = part false (BeginAt ss n) (within (specs names ss) ▸ part false (HasDeclarators ds) (declarators names ds) ▸ punct the_punct.Semicolon ▸ end) ▸ end

  pub declarators : Names → DeclTrees Spot → Outline
  declarators names no_declarators = end
  declarators names (more_declarators d ds) = named_one d (declarator names d) ▸ within (more_of_them names ds) ▸ end

  pub more_of_them : Names → DeclTrees Spot → Outline
  more_of_them names no_declarators = end
  more_of_them names (more_declarators d ds) = punct the_punct.Comma ▸ named_one d (declarator names d) ▸ within (more_of_them names ds) ▸ end

  -- a list in braces, which counts, or none
  pub constant_list : Names → ConstantTrees Spot → Bool → Outline
  constant_list names no_constants trailing = end
  constant_list names (more_constants c cs) trailing = part true (Unit {0}) (punct the_punct.LeftBrace ▸ within (constant_of names c) ▸ within (more_constants_of names cs) ▸ within (trailing_comma trailing) ▸ punct the_punct.RightBrace ▸ end) ▸ end

  pub more_constants_of : Names → ConstantTrees Spot → Outline
  more_constants_of names no_constants = end
  more_constants_of names (more_constants c cs) = punct the_punct.Comma ▸ within (constant_of names c) ▸ within (more_constants_of names cs) ▸ end

  pub constant_of : Names → ConstantTree Spot → Outline
  constant_of names (constant n x e) = identifier names (Some n) x ▸ within (constant_value names e) ▸ end

  pub declarator : Names → DeclTree Spot → Outline
  declarator names (declared n x) = identifier names (Some n) x ▸ end
  declarator names nameless = end
  declarator names (pointer n c d) = part false (ClosesOver d n) (token (Unit {0}) (kind.Punct the_punct.Star) (opening_spot d n) ▸ within (consts c) ▸ any_one d (declarator names d) ▸ end) ▸ end
  declarator names (array n d length) = part false (HasSpot d n) (part (is_written d) (is_direct d ≡ true) (declarator names d) ▸ token (Unit {0}) (kind.Punct the_punct.LeftBracket) (suffix_spot d n) ▸ within (length_of names length) ▸ punct the_punct.RightBracket ▸ end) ▸ end
  declarator names (function n d ps) = part false (HasSpot d n) (part (is_written d) (is_direct d ≡ true) (declarator names d) ▸ token (Unit {0}) (kind.Punct the_punct.LeftParen) (suffix_spot d n) ▸ within (parameters names ps) ▸ punct the_punct.RightParen ▸ end) ▸ end
  declarator names (grouped n d) = part false (ClosesOver d n) (token (Unit {0}) (kind.Punct the_punct.LeftParen) (opening_spot d n) ▸ part (is_written d) (is_written d ≡ true) (declarator names d) ▸ punct the_punct.RightParen ▸ end) ▸ end

-- ---- Initialisers and declarations

abbrev pub HasValues : ValueTrees Spot → Type 0
HasValues no_values = ⊥
HasValues (more_values v vs) = Unit {0}

abbrev mutual
  pub value : Names → ValueTree Spot → Outline
  value names (single e) = operand 2 e (expr names e) ▸ end
  value names (braces n vs trailing) = part true (HasValues vs) (punct_of n the_punct.LeftBrace ▸ within (values names vs) ▸ within (trailing_comma trailing) ▸ punct the_punct.RightBrace ▸ end) ▸ end

  pub values : Names → ValueTrees Spot → Outline
  values names no_values = end
  values names (more_values v vs) = within (value names v) ▸ within (further_values names vs) ▸ end

  pub further_values : Names → ValueTrees Spot → Outline
  further_values names no_values = end
  further_values names (more_values v vs) = punct the_punct.Comma ▸ within (value names v) ▸ within (further_values names vs) ▸ end

abbrev pub given : Names → Option (ValueTree Spot) → Outline
given names None = end
given names (Some v) = punct the_punct.Equal ▸ within (value names v) ▸ end

abbrev pub init_of : Names → Bool → InitTree Spot → Outline
init_of names typedef (init d v) = named_one d (declarator names d) ▸ within (given (after_declarator typedef d names) v) ▸ end

-- with the names before the list
abbrev pub more_inits : Names → Bool → List (InitTree Spot) → Outline
more_inits names typedef [] = end
more_inits names typedef (i ∷ is) = punct the_punct.Comma ▸ within (init_of names typedef i) ▸ within (more_inits (after_inits typedef (i ∷ []) names) typedef is) ▸ end

abbrev pub inits : Names → Bool → List (InitTree Spot) → Outline
inits names typedef [] = end
inits names typedef (i ∷ is) = within (init_of names typedef i) ▸ within (more_inits (after_inits typedef (i ∷ []) names) typedef is) ▸ end

abbrev pub declaration_spot : DeclarationTree Spot → Type 0
declaration_spot (declaration n ss is) = BeginAt ss n

abbrev pub declaration_of : Names → DeclarationTree Spot → Outline
declaration_of names (declaration n ss is) = within (specs names ss) ▸ within (inits names (has_typedef ss) is) ▸ punct the_punct.Semicolon ▸ end

-- a declaration, which counts in a block
abbrev pub declares_here : Bool → DeclarationTree Spot → Outline → Outline → Outline
declares_here counts d = part counts (declaration_spot d)

-- ---- Statements

-- an `else` behind it would belong to it
abbrev pub is_open : {N : Type 0} → StmtTree N → Bool
is_open (compound b) = false
is_open (plain n e) = false
is_open (empty n) = false
is_open (if_then n c s) = true
is_open (if_else n c s o) = is_open o
is_open (switch n e b) = false
is_open (while_loop n c s) = is_open s
is_open (do_loop n s c) = false
is_open (for_loop n start test each s) = is_open s
is_open (break n) = false
is_open (continue n) = false
is_open (return n e) = false

abbrev pub clause : Names → Option (ExprTree Spot) → Outline
clause names None = end
clause names (Some e) = operand 1 e (expr names e) ▸ end

-- with its semicolon
abbrev pub start_of : Names → StartTree Spot → Outline
start_of names (start_declaration d) = declares_here true d (declaration_of names d) ▸ end
start_of names (start_expr e) = operand 1 e (expr names e) ▸ punct the_punct.Semicolon ▸ end
start_of names no_start = punct the_punct.Semicolon ▸ end

abbrev mutual
  pub stmt : Names → StmtTree Spot → Outline
  stmt names (compound b) = block_of names b
  stmt names (plain n e) = part true (n ≡ begins e) (operand 1 e (expr names e) ▸ punct the_punct.Semicolon ▸ end) ▸ end
  stmt names (empty n) = part true (Unit {0}) (punct_of n the_punct.Semicolon ▸ end) ▸ end
  stmt names (if_then n c s) = part true (Unit {0}) (keyword_of n the_keyword.If ▸ punct the_punct.LeftParen ▸ operand 1 c (expr names c) ▸ punct the_punct.RightParen ▸ within (stmt names s) ▸ end) ▸ end
  stmt names (if_else n c s o) = part true (Unit {0}) (keyword_of n the_keyword.If ▸ punct the_punct.LeftParen ▸ operand 1 c (expr names c) ▸ punct the_punct.RightParen ▸ within (stmt names s) ▸ token (is_open s ≡ false) (kind.Keyword the_keyword.Else) None ▸ within (stmt (after_stmt s names) o) ▸ end) ▸ end
  stmt names (switch n e b) = part true (Unit {0}) (keyword_of n the_keyword.Switch ▸ punct the_punct.LeftParen ▸ operand 1 e (expr names e) ▸ punct the_punct.RightParen ▸ within (block_of names b) ▸ end) ▸ end
  stmt names (while_loop n c s) = part true (Unit {0}) (keyword_of n the_keyword.While ▸ punct the_punct.LeftParen ▸ operand 1 c (expr names c) ▸ punct the_punct.RightParen ▸ within (stmt names s) ▸ end) ▸ end
  stmt names (do_loop n s c) = part true (Unit {0}) (keyword_of n the_keyword.Do ▸ within (stmt names s) ▸ keyword the_keyword.While ▸ punct the_punct.LeftParen ▸ operand 1 c (expr (after_stmt s names) c) ▸ punct the_punct.RightParen ▸ punct the_punct.Semicolon ▸ end) ▸ end
  stmt names (for_loop n start test each s) = part true (Unit {0}) (keyword_of n the_keyword.For ▸ punct the_punct.LeftParen ▸ within (start_of names start) ▸ within (clause (after_start start names) test) ▸ punct the_punct.Semicolon ▸ within (clause (after_start start names) each) ▸ punct the_punct.RightParen ▸ within (stmt (after_start start names) s) ▸ end) ▸ end
  stmt names (break n) = part true (Unit {0}) (keyword_of n the_keyword.Break ▸ punct the_punct.Semicolon ▸ end) ▸ end
  stmt names (continue n) = part true (Unit {0}) (keyword_of n the_keyword.Continue ▸ punct the_punct.Semicolon ▸ end) ▸ end
  stmt names (return n e) = part true (Unit {0}) (keyword_of n the_keyword.Return ▸ within (clause names e) ▸ punct the_punct.Semicolon ▸ end) ▸ end

  pub block_of : Names → BlockTree Spot → Outline
  block_of names (block n is) = part true (Unit {0}) (punct_of n the_punct.LeftBrace ▸ within (items names is) ▸ punct the_punct.RightBrace ▸ end) ▸ end

  pub item : Names → ItemTree Spot → Outline
  item names (declares d) = declares_here true d (declaration_of names d) ▸ end
  item names (case_label n e) = part true (Unit {0}) (keyword_of n the_keyword.Case ▸ operand 3 e (expr names e) ▸ punct the_punct.Colon ▸ end) ▸ end
  item names (default_label n) = part true (Unit {0}) (keyword_of n the_keyword.Default ▸ punct the_punct.Colon ▸ end) ▸ end
  item names (does s) = stmt names s

  pub items : Names → ItemTrees Spot → Outline
  items names no_items = end
  items names (more_items i is) = within (item names i) ▸ within (items (after_item i names) is) ▸ end

-- ---- Files

abbrev pub external : Names → ExternalTree Spot → Outline
external names (outer_declaration d) = declares_here false d (declaration_of names d) ▸ end
external names (definition n ss d b) = part false (HasSpecs ss × HasSpot d n) (within (specs names ss) ▸ named_one d (declarator names d) ▸ within (block_of names b) ▸ end) ▸ end

abbrev pub externals : Names → List (ExternalTree Spot) → Outline
externals names [] = end
externals names (x ∷ xs) = within (external names x) ▸ within (externals (after_external x names) xs) ▸ end

abbrev pub file : List (ExternalTree Spot) → Outline
file = externals []
