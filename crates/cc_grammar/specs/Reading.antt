-- The whole grammar as a reader from left to right, on lists. It reads the tree that the tokens spell, or tells from where on
-- they spell none. A number `d` says how deep what is read may be.
use Rattle.std.specs.Prelude.{ℕ, zero, suc, ◌+◌, Bool, true, false, ◌&&◌, ◌||◌, ◌==◌, List, [], ◌∷◌, length, Option, Some, None, nat_lt, nat_le, if◌then◌else◌}
use Rattle.cc_base.specs.declared.place.Spot.{Spot}
use Rattle.cc_lex.specs.declared.token.Token.{Token}
use Rattle.cc_lex.specs.declared.keyword.Keyword.TheVariants as the_keyword
use Rattle.cc_lex.specs.declared.punct.Punct.TheVariants as the_punct
use Rattle.cc_tree.specs.declared.operator.Side.TheVariants as side
use Rattle.cc_tree.specs.Trees.{Name, ExprTree, name, integer, character, string, paren, unary, binary, assign, step, choice, comma, call, member, arrow, index, cast, size_expr, size_type, ExprOption, no_expr, an_expr, TypeTree, type_name, SpecTree, word, named, struct, enum, SpecTrees, MemberTree, members, no_members, ConstantTree, constant, no_constants, DeclTree, declared, nameless, pointer, array, function, grouped}
use Rattle.cc_tree.specs.Trees.{ValueTree, single, braces, InitTree, init, DeclarationTree, declaration, StartTree, start_declaration, start_expr, no_start, StmtTree, compound, plain, empty, if_then, if_else, switch, while_loop, do_loop, for_loop, break, continue, return, BlockTree, block, ItemTree, declares, case_label, default_label, does, ExternalTree, outer_declaration, definition}
use Rattle.cc_tree.specs.Views.{gathered, gathered_types, gathered_specs, gathered_members, gathered_constants, gathered_declarators, gathered_values, gathered_items}
use Rattle.cc_tree.specs.Depth.{expr_depth, declarator_depth}
use Rattle.cc_grammar.specs.Levels.{level, binary_level}
use Rattle.cc_grammar.specs.Names.{Names, is_type, has_typedef, after_declarator, after_start, after_stmt, after_item, after_external}
use Rattle.cc_grammar.specs.Outlines.{begins, is_named, is_written}
use Rattle.cc_grammar.specs.Classes.{next_is, next_is_keyword, skip, spot, next_literal, next_ident, Start, begins_name, begins_integer, begins_character, begins_string, begins_paren, begins_unary, begins_step, begins_sizeof, begins_nothing, start, Tail, goes_binary, goes_assign, goes_question, goes_comma, goes_call, goes_index, goes_dot, goes_arrow, goes_step, ends_here, tail, binds, left_level, SpecStart, spec_word, spec_struct, spec_enum, spec_named, no_spec, spec_start, starts_spec, StmtStart, begins_block, begins_empty, begins_if, begins_switch, begins_while, begins_do, begins_for, begins_break, begins_continue, begins_return, begins_case, begins_default, begins_other, stmt_start}
use Rattle.cc_grammar.specs.Outcomes.{Parser, and_then, ◌>>=◌, ◌>>◌, pure, ◌<$>◌, refuse, take, take_keyword}

-- ---- Choices and lists

abbrev pub branch : {A : Type 0} → Bool → Parser A → Parser A → Parser A
branch true p q = p
branch false p q = q

abbrev pub opposite : Bool → Bool
opposite true = false
opposite false = true

-- what comes next decides
abbrev pub where_next : {A : Type 0} → (List Token → Bool) → Parser A → Parser A → Parser A
where_next test p q = λ ts. branch (test ts) p q ts

-- with the place of the next token
abbrev pub placed : {A : Type 0} → (Spot → Parser A) → Parser A
placed p = λ ts. p (spot ts) ts

abbrev pub skipping : {A : Type 0} → Parser A → Parser A
skipping p = λ ts. p (skip ts)

-- One or more, with commas between them. The number bounds the turns: each takes a token.
abbrev pub separated_by : {A : Type 0} → Parser A → ℕ → Parser (List A)
separated_by one zero = refuse
separated_by one (suc turns) = one >>= (λ x. where_next (next_is the_punct.Comma) (skipping ((λ xs. x ∷ xs) <$> separated_by one turns)) (pure (x ∷ [])))

abbrev pub separated : {A : Type 0} → Parser A → Parser (List A)
separated one = λ ts. separated_by one (length ts) ts

-- one or more up to a brace, and whether a comma stands before it
abbrev pub enclosed_by : {A : Type 0} → Parser A → ℕ → Parser (List A × Bool)
enclosed_by one zero = refuse
enclosed_by one (suc turns) = one >>= (λ x. where_next (next_is the_punct.Comma)
    (skipping (where_next (next_is the_punct.RightBrace) (skipping (pure (x ∷ [], true))) ((λ xs. (x ∷ xs.0, xs.1)) <$> enclosed_by one turns)))
    (take the_punct.RightBrace >> pure (x ∷ [], false)))

abbrev pub enclosed : {A : Type 0} → Parser A → Parser (List A × Bool)
enclosed one = take the_punct.LeftBrace >> (λ ts. enclosed_by one (length ts) ts)

-- one or more, as long as what comes next begins another
abbrev pub repeated_by : {A : Type 0} → (List Token → Bool) → Parser A → ℕ → Parser (List A)
repeated_by more one zero = refuse
repeated_by more one (suc turns) = one >>= (λ x. where_next more ((λ xs. x ∷ xs) <$> repeated_by more one turns) (pure (x ∷ [])))

abbrev pub repeated : {A : Type 0} → (List Token → Bool) → Parser A → Parser (List A)
repeated more one = λ ts. repeated_by more one (length ts) ts

-- an identifier that is no typedef name
abbrev pub id_by : Names → Option Name → Parser Name
id_by names None = refuse
id_by names (Some x) = branch (is_type names x) refuse (skipping (pure x))

abbrev pub id : Names → Parser Name
id names = λ ts. id_by names (next_ident ts) ts

-- ---- Expressions, specifiers and declarators

-- a declarator with a name, one without, or either
pub data Mode : Type 0 where
  with_name : Mode
  without_name : Mode
  with_or_without : Mode

abbrev pub wants_name : Mode → Bool
wants_name with_name = true
wants_name without_name = false
wants_name with_or_without = false

abbrev pub takes_name : Mode → Bool
takes_name with_name = true
takes_name without_name = false
takes_name with_or_without = true

-- the readers of what stands in a counted node
pub record Inner : Type 0 where
  pub expr : ℕ → Parser (ExprTree Spot)
  pub specs : Parser (SpecTrees Spot)
  pub declarator : Mode → Parser (DeclTree Spot)

abbrev pub no_inner : Inner
no_inner = record { expr = λ least. refuse; specs = refuse; declarator = λ mode. refuse }

-- the spot of a declarator, or another for one that isn't written
abbrev pub spot_or : DeclTree Spot → Spot → Spot
spot_or (declared m x) n = m
spot_or nameless n = n
spot_or (pointer m c d) n = m
spot_or (array m d size) n = m
spot_or (function m d ps) n = m
spot_or (grouped m d) n = m

-- the spot of a form whose first token stands at the other
abbrev pub opening : DeclTree Spot → Spot → Spot
opening d n = if is_named d then spot_or d n else n

module _ (names : Names) (inner : Inner) (d : ℕ) where
  -- type names and parameters
  abbrev pub typed : Mode → Parser (TypeTree Spot)
  typed mode = placed (λ n. inner.specs >>= (λ ss. type_name n ss <$> inner.declarator mode))

  abbrev pub parameters : Parser (List (TypeTree Spot))
  parameters = where_next (next_is the_punct.RightParen) (skipping (pure [])) (separated (typed with_or_without) >>= (λ ts. take the_punct.RightParen >> pure ts))

  -- ---- Expressions

  abbrev pub arguments : Parser (List (ExprTree Spot))
  arguments = where_next (next_is the_punct.RightParen) (skipping (pure [])) (separated (inner.expr 2) >>= (λ es. take the_punct.RightParen >> pure es))

  -- what goes on behind an expression, after its token
  abbrev pub go_on : ExprTree Spot → Tail → Spot → Parser (ExprTree Spot)
  go_on left (goes_binary op) n = binary n op left <$> inner.expr (binary_level op + 1)
  go_on left (goes_assign op) n = assign n op left <$> inner.expr 2
  go_on left goes_question n = inner.expr 1 >>= (λ a. take the_punct.Colon >> (choice n left a <$> inner.expr 3))
  go_on left goes_comma n = comma n left <$> inner.expr 2
  go_on left goes_call n = (λ es. call (begins left) left (gathered es)) <$> arguments
  go_on left goes_index n = inner.expr 1 >>= (λ i. take the_punct.RightBracket >> pure (index n left i))
  go_on left goes_dot n = member n left <$> id names
  go_on left goes_arrow n = arrow n left <$> id names
  go_on left (goes_step op) n = pure (step n op side.After left)
  go_on left ends_here n = refuse

  -- A left operand sinks by one where its operator comes.
  abbrev pub goes_on : ℕ → ExprTree Spot → Tail → Bool
  goes_on least left t = nat_le least (binds t) && (nat_le (left_level t) (level left) && nat_lt (expr_depth left) d)

  abbrev pub climb : ℕ → ℕ → ExprTree Spot → Parser (ExprTree Spot)
  climb least zero left = pure left
  climb least (suc turns) left = where_next (λ ts. goes_on least left (tail ts)) (λ ts. and_then (go_on left (tail ts) (spot ts) (skip ts)) (climb least turns)) (pure left)

  abbrev pub literal_by : Option (List ℕ) → Parser (List ℕ)
  literal_by None = refuse
  literal_by (Some bytes) = skipping (pure bytes)

  abbrev pub is_literal : Option (List ℕ) → Bool
  is_literal None = false
  is_literal (Some bytes) = true

  abbrev pub literals : Parser (List (List ℕ))
  literals = repeated (λ ts. is_literal (next_literal ts)) (λ ts. literal_by (next_literal ts) ts)

  -- In parentheses, a specifier begins a type name.
  abbrev pub behind_paren : ℕ → Spot → Parser (ExprTree Spot)
  behind_paren least n = where_next (λ ts. starts_spec names ts && nat_le least 14)
      (typed without_name >>= (λ t. take the_punct.RightParen >> (cast n t <$> inner.expr 14)))
      (inner.expr 1 >>= (λ e. take the_punct.RightParen >> pure (paren n e)))

  -- Where an operand would be too deep, a parenthesis may still begin a type.
  abbrev pub behind_sizeof : Spot → Parser (ExprTree Spot)
  behind_sizeof n = where_next (λ ts. next_is the_punct.LeftParen ts && starts_spec names (skip ts))
      (skipping (typed without_name >>= (λ t. take the_punct.RightParen >> pure (size_type n t))))
      (where_next (λ ts. next_is the_punct.LeftParen ts && (d == 1)) (skipping refuse) (size_expr n <$> inner.expr 15))

  abbrev pub prefix : ℕ → Start → Spot → Parser (ExprTree Spot)
  prefix least (begins_name x) n = name n <$> id names
  prefix least (begins_integer v c) n = skipping (pure (integer n v c))
  prefix least (begins_character v) n = skipping (pure (character n v))
  prefix least (begins_string bytes) n = string n <$> literals
  prefix least begins_paren n = skipping (behind_paren least n)
  prefix least (begins_unary op) n = skipping (unary n op <$> inner.expr 14)
  prefix least (begins_step op) n = skipping (step n op side.Before <$> inner.expr 15)
  prefix least begins_sizeof n = skipping (behind_sizeof n)
  prefix least begins_nothing n = refuse

  -- an expression of this level at least
  abbrev pub expression : ℕ → Parser (ExprTree Spot)
  expression least = branch (d == 0) refuse (λ ts. and_then (prefix least (start ts) (spot ts) ts) (climb least d))

  -- ---- Declarators

  abbrev pub array_length : Parser (ExprOption Spot)
  array_length = where_next (next_is the_punct.RightBracket) (skipping (pure no_expr)) (inner.expr 3 >>= (λ e. take the_punct.RightBracket >> pure (an_expr e)))

  abbrev pub suffix_comes : List Token → Bool
  suffix_comes ts = next_is the_punct.LeftBracket ts || next_is the_punct.LeftParen ts

  abbrev pub suffix : DeclTree Spot → Parser (DeclTree Spot)
  suffix left = placed (λ n. where_next (next_is the_punct.LeftBracket)
      (skipping (array (spot_or left n) left <$> array_length))
      (skipping ((λ ps. function (spot_or left n) left (gathered_types ps)) <$> parameters)))

  abbrev pub suffixes : ℕ → DeclTree Spot → Parser (DeclTree Spot)
  suffixes zero left = pure left
  suffixes (suc turns) left = where_next (λ ts. suffix_comes ts && nat_lt (declarator_depth left) d) (suffix left >>= suffixes turns) (pure left)

  abbrev pub written_only : DeclTree Spot → Parser (DeclTree Spot)
  written_only e = branch (is_written e) (pure e) refuse

  abbrev pub group : Mode → Parser (DeclTree Spot)
  group mode = placed (λ n. skipping (inner.declarator mode >>= written_only >>= (λ e. take the_punct.RightParen >> pure (grouped (opening e n) e))))

  -- a parenthesis that begins parameters, where there may be no name
  abbrev pub begins_parameters : Mode → List Token → Bool
  begins_parameters with_name ts = false
  begins_parameters without_name ts = next_is the_punct.RightParen (skip ts) || starts_spec names (skip ts)
  begins_parameters with_or_without ts = next_is the_punct.RightParen (skip ts) || starts_spec names (skip ts)

  abbrev pub nothing : Mode → Parser (DeclTree Spot)
  nothing mode = branch (wants_name mode) refuse (pure nameless)

  abbrev pub is_id : Option Name → Bool
  is_id None = false
  is_id (Some x) = opposite (is_type names x)

  abbrev pub direct : Mode → Parser (DeclTree Spot)
  direct mode = where_next (λ ts. takes_name mode && is_id (next_ident ts))
      (placed (λ n. declared n <$> id names))
      (where_next (λ ts. next_is the_punct.LeftParen ts && opposite (begins_parameters mode ts)) (group mode) (nothing mode))

  abbrev pub consts_by : ℕ → Parser ℕ
  consts_by zero = pure 0
  consts_by (suc turns) = where_next (next_is_keyword the_keyword.Const) (skipping ((λ c. c + 1) <$> consts_by turns)) (pure 0)

  abbrev pub consts : Parser ℕ
  consts = λ ts. consts_by (length ts) ts

  abbrev pub declarator : Mode → Parser (DeclTree Spot)
  declarator mode = branch (d == 0) (nothing mode) (where_next (next_is the_punct.Star)
      (placed (λ n. skipping (consts >>= (λ c. (λ e. pointer (opening e n) c e) <$> inner.declarator mode))))
      (direct mode >>= suffixes d))

  -- ---- Specifiers

  abbrev pub tag_by : Option Name → Parser (Option Name)
  tag_by None = pure None
  tag_by (Some x) = skipping (pure (Some x))

  abbrev pub tag : Parser (Option Name)
  tag = λ ts. tag_by (next_ident ts) ts

  abbrev pub member_line : Parser (MemberTree Spot)
  member_line = placed (λ n. inner.specs >>= (λ ss. separated (inner.declarator with_name) >>= (λ ds. take the_punct.Semicolon >> pure (members n ss (gathered_declarators ds)))))

  abbrev pub goes_on_members : List Token → Bool
  goes_on_members ts = opposite (next_is the_punct.RightBrace ts)

  -- a list counts
  abbrev pub member_list : Parser (List (MemberTree Spot))
  member_list = branch (d == 0) refuse (take the_punct.LeftBrace >> repeated goes_on_members member_line >>= (λ ms. take the_punct.RightBrace >> pure ms))

  abbrev pub constant_value : Parser (ExprOption Spot)
  constant_value = where_next (next_is the_punct.Equal) (skipping (an_expr <$> inner.expr 3)) (pure no_expr)

  abbrev pub one_constant : Parser (ConstantTree Spot)
  one_constant = placed (λ n. id names >>= (λ x. constant n x <$> constant_value))

  abbrev pub constant_list : Parser (List (ConstantTree Spot) × Bool)
  constant_list = branch (d == 0) refuse (enclosed one_constant)

  abbrev pub untagged : Option Name → Bool
  untagged None = true
  untagged (Some x) = false

  abbrev pub spec_by : SpecStart → Spot → Parser (SpecTree Spot)
  spec_by (spec_word w) n = skipping (pure (word n w))
  spec_by (spec_named x) n = skipping (pure (named n x))
  spec_by spec_struct n = skipping (tag >>= (λ t. where_next (λ ts. next_is the_punct.LeftBrace ts || untagged t) ((λ ms. struct n t (gathered_members ms)) <$> member_list) (pure (struct n t no_members))))
  spec_by spec_enum n = skipping (tag >>= (λ t. where_next (λ ts. next_is the_punct.LeftBrace ts || untagged t) ((λ cs. enum n t (gathered_constants cs.0) cs.1) <$> constant_list) (pure (enum n t no_constants false))))
  spec_by no_spec n = refuse

  abbrev pub specs : Parser (SpecTrees Spot)
  specs = gathered_specs <$> repeated (starts_spec names) (λ ts. spec_by (spec_start names ts) (spot ts) ts)

  abbrev pub opened : Inner
  opened = record { expr = expression; specs = specs; declarator = declarator }

-- the readers of what is no deeper than the number
abbrev pub readers : Names → ℕ → Inner
readers names zero = opened names no_inner 0
readers names (suc d) = opened names (readers names d) (suc d)

-- ---- Initialisers and declarations

abbrev pub value : Names → ℕ → Parser (ValueTree Spot)
value names zero = refuse
value names (suc d) = where_next (next_is the_punct.LeftBrace)
    (placed (λ n. (λ vs. braces n (gathered_values vs.0) vs.1) <$> enclosed (value names d)))
    (single <$> (readers names (suc d)).expr 2)

abbrev pub given : Names → ℕ → Parser (Option (ValueTree Spot))
given names d = where_next (next_is the_punct.Equal) (skipping (Some <$> value names d)) (pure None)

-- behind a declarator: its initialiser, then the others with theirs
abbrev pub inits_behind : ℕ → Bool → ℕ → Names → DeclTree Spot → Parser (List (InitTree Spot))
inits_behind d typedef zero names e = refuse
inits_behind d typedef (suc turns) names e = given (after_declarator typedef e names) d >>= (λ v. where_next (next_is the_punct.Comma)
    (skipping ((readers (after_declarator typedef e names) d).declarator with_name >>= (λ f. (λ is. init e v ∷ is) <$> inits_behind d typedef turns (after_declarator typedef e names) f)))
    (pure (init e v ∷ [])))

abbrev pub inits : ℕ → Bool → Names → DeclTree Spot → Parser (List (InitTree Spot))
inits d typedef names e = λ ts. inits_behind d typedef (suc (length ts)) names e ts

-- with its semicolon
abbrev pub declaration_at : ℕ → Names → Parser (DeclarationTree Spot)
declaration_at d names = placed (λ n. (readers names d).specs >>= (λ ss. where_next (next_is the_punct.Semicolon)
    (skipping (pure (declaration n ss [])))
    ((readers names d).declarator with_name >>= inits d (has_typedef ss) names >>= (λ is. take the_punct.Semicolon >> pure (declaration n ss is)))))

-- ---- Statements

abbrev pub only_block : StmtTree Spot → Parser (BlockTree Spot)
only_block (compound b) = pure b
only_block _ = refuse

abbrev pub counted_by : {A : Type 0} → ℕ → (ℕ → Parser A) → Parser A
counted_by zero one = refuse
counted_by (suc e) one = one e

-- Statements inside are no deeper than `d`.
module _ (inner : Names → Parser (StmtTree Spot)) (d : ℕ) where
  abbrev pub body : Names → Parser (BlockTree Spot)
  body names = where_next (next_is the_punct.LeftBrace) (inner names >>= only_block) refuse

  -- a declaration or label counts, and so what is inside is one less deep
  abbrev pub counted : {A : Type 0} → (ℕ → Parser A) → Parser A
  counted one = counted_by d one

  abbrev pub label_by : StmtStart → Names → Spot → Parser (ItemTree Spot)
  label_by begins_case names n = counted (λ e. skipping ((readers names e).expr 3 >>= (λ x. take the_punct.Colon >> pure (case_label n x))))
  label_by begins_default names n = counted (λ e. skipping (take the_punct.Colon >> pure (default_label n)))
  label_by _ names n = does <$> inner names

  abbrev pub item : Names → Parser (ItemTree Spot)
  item names = where_next (starts_spec names) (counted (λ e. declares <$> declaration_at e names)) (λ ts. label_by (stmt_start ts) names (spot ts) ts)

  -- up to the brace that closes the block
  abbrev pub items_by : ℕ → Names → Parser (List (ItemTree Spot))
  items_by zero names = refuse
  items_by (suc turns) names = where_next (next_is the_punct.RightBrace) (skipping (pure [])) (item names >>= (λ i. (λ is. i ∷ is) <$> items_by turns (after_item i names)))

  abbrev pub items : Names → Parser (List (ItemTree Spot))
  items names = λ ts. items_by (suc (length ts)) names ts

  abbrev pub condition : Names → Parser (ExprTree Spot)
  condition names = take the_punct.LeftParen >> (readers names d).expr 1 >>= (λ c. take the_punct.RightParen >> pure c)

  abbrev pub else_behind : Names → Spot → ExprTree Spot → StmtTree Spot → Parser (StmtTree Spot)
  else_behind names n c s = where_next (next_is_keyword the_keyword.Else) (skipping (if_else n c s <$> inner (after_stmt s names))) (pure (if_then n c s))

  abbrev pub clause_until : Names → (List Token → Bool) → Parser (Option (ExprTree Spot))
  clause_until names ends = where_next ends (pure None) (Some <$> (readers names d).expr 1)

  abbrev pub start_expr_behind : Names → Parser (StartTree Spot)
  start_expr_behind names = where_next (next_is the_punct.Semicolon) (skipping (pure no_start)) ((readers names d).expr 1 >>= (λ e. take the_punct.Semicolon >> pure (start_expr e)))

  abbrev pub start_clause : Names → Parser (StartTree Spot)
  start_clause names = where_next (starts_spec names) (counted (λ e. start_declaration <$> declaration_at e names)) (start_expr_behind names)

  abbrev pub for_behind : Names → Spot → StartTree Spot → Parser (StmtTree Spot)
  for_behind names n start = clause_until (after_start start names) (next_is the_punct.Semicolon) >>= (λ test. take the_punct.Semicolon
      >> clause_until (after_start start names) (next_is the_punct.RightParen) >>= (λ each. take the_punct.RightParen
      >> (for_loop n start test each <$> inner (after_start start names))))

  -- after the first token, but for an expression
  abbrev pub stmt_by : StmtStart → Names → Spot → Parser (StmtTree Spot)
  stmt_by begins_block names n = skipping ((λ is. compound (block n (gathered_items is))) <$> items names)
  stmt_by begins_empty names n = skipping (pure (empty n))
  stmt_by begins_if names n = skipping (condition names >>= (λ c. inner names >>= else_behind names n c))
  stmt_by begins_switch names n = skipping (condition names >>= (λ e. switch n e <$> body names))
  stmt_by begins_while names n = skipping (condition names >>= (λ c. while_loop n c <$> inner names))
  stmt_by begins_do names n = skipping (inner names >>= (λ s. take_keyword the_keyword.While >> condition (after_stmt s names) >>= (λ c. take the_punct.Semicolon >> pure (do_loop n s c))))
  stmt_by begins_for names n = skipping (take the_punct.LeftParen >> start_clause names >>= for_behind names n)
  stmt_by begins_break names n = skipping (take the_punct.Semicolon >> pure (break n))
  stmt_by begins_continue names n = skipping (take the_punct.Semicolon >> pure (continue n))
  stmt_by begins_return names n = skipping (clause_until names (next_is the_punct.Semicolon) >>= (λ e. take the_punct.Semicolon >> pure (return n e)))
  stmt_by begins_case names n = refuse
  stmt_by begins_default names n = refuse
  stmt_by begins_other names n = (readers names d).expr 1 >>= (λ e. take the_punct.Semicolon >> pure (plain n e))

-- a statement no deeper than the number
abbrev pub stmt : ℕ → Names → Parser (StmtTree Spot)
stmt zero names = refuse
stmt (suc d) names = λ ts. stmt_by (stmt d) d (stmt_start ts) names (spot ts) ts

-- ---- Files

abbrev pub external_behind : ℕ → Names → Spot → SpecTrees Spot → DeclTree Spot → Parser (ExternalTree Spot)
external_behind d names n ss e = where_next (next_is the_punct.LeftBrace)
    (definition (spot_or e n) ss e <$> body (stmt d) d names)
    (inits d (has_typedef ss) names e >>= (λ is. take the_punct.Semicolon >> pure (outer_declaration (declaration n ss is))))

abbrev pub external : ℕ → Names → Parser (ExternalTree Spot)
external d names = placed (λ n. (readers names d).specs >>= (λ ss. where_next (next_is the_punct.Semicolon)
    (skipping (pure (outer_declaration (declaration n ss []))))
    ((readers names d).declarator with_name >>= external_behind d names n ss)))

abbrev pub ended : List Token → Bool
ended [] = true
ended (t ∷ ts) = false

abbrev pub externals_by : ℕ → ℕ → Names → Parser (List (ExternalTree Spot))
externals_by d zero names = refuse
externals_by d (suc turns) names = where_next ended (pure []) (external d names >>= (λ x. (λ xs. x ∷ xs) <$> externals_by d turns (after_external x names)))

-- the file that the tokens are, no deeper than the number
unfoldable pub reading : ℕ → Parser (List (ExternalTree Spot))
reading d = λ ts. externals_by d (suc (length ts)) [] ts
