-- How deep a tree is: the greatest number of counted nodes on a way down, the last included. Expressions, statements, labels,
-- declarations in a block, braces of initialisers, declarators with each of their forms, and lists of members or constants
-- count; specifiers, type names and parameters by themselves don't.
use Rattle.std.specs.Prelude.{ℕ, ◌+◌, max, List, [], ◌∷◌, Option, Some, None}
use Rattle.cc_tree.specs.Trees.{ExprTree, name, integer, character, string, paren, unary, binary, assign, step, choice, comma, call, member, arrow, index, cast, size_expr, size_type, ExprTrees, no_exprs, more_exprs, ExprOption, no_expr, an_expr, TypeTree, type_name, TypeTrees, no_types, more_types, SpecTree, word, named, struct, enum, SpecTrees, no_specs, more_specs, MemberTree, members, MemberTrees, no_members, more_members, ConstantTree, constant, ConstantTrees, no_constants, more_constants, DeclTree, declared, nameless, pointer, array, function, grouped, DeclTrees, no_declarators, more_declarators}
use Rattle.cc_tree.specs.Trees.{ValueTree, single, braces, ValueTrees, no_values, more_values, InitTree, init, DeclarationTree, declaration, StartTree, start_declaration, start_expr, no_start, StmtTree, compound, plain, empty, if_then, if_else, switch, while_loop, do_loop, for_loop, break, continue, return, BlockTree, block, ItemTree, declares, case_label, default_label, does, ItemTrees, no_items, more_items, ExternalTree, outer_declaration, definition}

abbrev mutual
  pub expr_depth : {N : Type 0} → ExprTree N → ℕ
  expr_depth (name n x) = 1
  expr_depth (integer n v k) = 1
  expr_depth (character n v) = 1
  expr_depth (string n ss) = 1
  expr_depth (paren n e) = expr_depth e + 1
  expr_depth (unary n op e) = expr_depth e + 1
  expr_depth (binary n op a b) = max (expr_depth a) (expr_depth b) + 1
  expr_depth (assign n op a b) = max (expr_depth a) (expr_depth b) + 1
  expr_depth (step n op side e) = expr_depth e + 1
  expr_depth (choice n c a b) = max (expr_depth c) (max (expr_depth a) (expr_depth b)) + 1
  expr_depth (comma n a b) = max (expr_depth a) (expr_depth b) + 1
  expr_depth (call n f es) = max (expr_depth f) (exprs_depth es) + 1
  expr_depth (member n e x) = expr_depth e + 1
  expr_depth (arrow n e x) = expr_depth e + 1
  expr_depth (index n a i) = max (expr_depth a) (expr_depth i) + 1
  expr_depth (cast n t e) = max (type_depth t) (expr_depth e) + 1
  expr_depth (size_expr n e) = expr_depth e + 1
  expr_depth (size_type n t) = type_depth t + 1

  pub exprs_depth : {N : Type 0} → ExprTrees N → ℕ
  exprs_depth no_exprs = 0
  exprs_depth (more_exprs e es) = max (expr_depth e) (exprs_depth es)

  pub option_depth : {N : Type 0} → ExprOption N → ℕ
  option_depth no_expr = 0
  option_depth (an_expr e) = expr_depth e

  pub type_depth : {N : Type 0} → TypeTree N → ℕ
  type_depth (type_name n ss d) = max (specs_depth ss) (declarator_depth d)

  pub types_depth : {N : Type 0} → TypeTrees N → ℕ
  types_depth no_types = 0
  types_depth (more_types t ts) = max (type_depth t) (types_depth ts)

  pub spec_depth : {N : Type 0} → SpecTree N → ℕ
  spec_depth (word n w) = 0
  spec_depth (named n x) = 0
  spec_depth (struct n tag ms) = members_depth ms
  spec_depth (enum n tag cs trailing) = constants_depth cs

  pub specs_depth : {N : Type 0} → SpecTrees N → ℕ
  specs_depth no_specs = 0
  specs_depth (more_specs s ss) = max (spec_depth s) (specs_depth ss)

  -- a list of members counts where there is one
  pub members_depth : {N : Type 0} → MemberTrees N → ℕ
  members_depth no_members = 0
  members_depth (more_members m ms) = max (member_depth m + 1) (members_depth ms)

  pub member_depth : {N : Type 0} → MemberTree N → ℕ
  member_depth (members n ss ds) = max (specs_depth ss) (declarators_depth ds)

  -- and so does a list of constants
  pub constants_depth : {N : Type 0} → ConstantTrees N → ℕ
  constants_depth no_constants = 0
  constants_depth (more_constants c cs) = max (constant_depth c + 1) (constants_depth cs)

  pub constant_depth : {N : Type 0} → ConstantTree N → ℕ
  constant_depth (constant n x e) = option_depth e

  pub declarator_depth : {N : Type 0} → DeclTree N → ℕ
  declarator_depth (declared n x) = 1
  declarator_depth nameless = 0
  declarator_depth (pointer n k d) = declarator_depth d + 1
  declarator_depth (array n d length) = max (declarator_depth d) (option_depth length) + 1
  declarator_depth (function n d ps) = max (declarator_depth d) (types_depth ps) + 1
  declarator_depth (grouped n d) = declarator_depth d + 1

  pub declarators_depth : {N : Type 0} → DeclTrees N → ℕ
  declarators_depth no_declarators = 0
  declarators_depth (more_declarators d ds) = max (declarator_depth d) (declarators_depth ds)

abbrev mutual
  pub value_depth : {N : Type 0} → ValueTree N → ℕ
  value_depth (single e) = expr_depth e
  value_depth (braces n vs trailing) = values_depth vs + 1

  pub values_depth : {N : Type 0} → ValueTrees N → ℕ
  values_depth no_values = 0
  values_depth (more_values v vs) = max (value_depth v) (values_depth vs)

abbrev pub given_depth : {N : Type 0} → Option (ValueTree N) → ℕ
given_depth None = 0
given_depth (Some v) = value_depth v

-- an initialiser stands beside its declarator
abbrev pub init_depth : {N : Type 0} → InitTree N → ℕ
init_depth (init d v) = max (declarator_depth d) (given_depth v)

abbrev pub inits_depth : {N : Type 0} → List (InitTree N) → ℕ
inits_depth [] = 0
inits_depth (i ∷ is) = max (init_depth i) (inits_depth is)

-- without the declaration itself, which counts in a block alone
abbrev pub declaration_depth : {N : Type 0} → DeclarationTree N → ℕ
declaration_depth (declaration n ss is) = max (specs_depth ss) (inits_depth is)

abbrev pub start_depth : {N : Type 0} → StartTree N → ℕ
start_depth (start_declaration d) = declaration_depth d + 1
start_depth (start_expr e) = expr_depth e
start_depth no_start = 0

abbrev pub clause_depth : {N : Type 0} → Option (ExprTree N) → ℕ
clause_depth None = 0
clause_depth (Some e) = expr_depth e

abbrev mutual
  pub stmt_depth : {N : Type 0} → StmtTree N → ℕ
  stmt_depth (compound b) = block_depth b
  stmt_depth (plain n e) = expr_depth e + 1
  stmt_depth (empty n) = 1
  stmt_depth (if_then n c s) = max (expr_depth c) (stmt_depth s) + 1
  stmt_depth (if_else n c s o) = max (expr_depth c) (max (stmt_depth s) (stmt_depth o)) + 1
  stmt_depth (switch n e b) = max (expr_depth e) (block_depth b) + 1
  stmt_depth (while_loop n c s) = max (expr_depth c) (stmt_depth s) + 1
  stmt_depth (do_loop n s c) = max (stmt_depth s) (expr_depth c) + 1
  stmt_depth (for_loop n start test each s) = max (start_depth start) (max (clause_depth test) (max (clause_depth each) (stmt_depth s))) + 1
  stmt_depth (break n) = 1
  stmt_depth (continue n) = 1
  stmt_depth (return n e) = clause_depth e + 1

  pub block_depth : {N : Type 0} → BlockTree N → ℕ
  block_depth (block n is) = items_depth is + 1

  pub item_depth : {N : Type 0} → ItemTree N → ℕ
  item_depth (declares d) = declaration_depth d + 1
  item_depth (case_label n e) = expr_depth e + 1
  item_depth (default_label n) = 1
  item_depth (does s) = stmt_depth s

  pub items_depth : {N : Type 0} → ItemTrees N → ℕ
  items_depth no_items = 0
  items_depth (more_items i is) = max (item_depth i) (items_depth is)

abbrev pub external_depth : {N : Type 0} → ExternalTree N → ℕ
external_depth (outer_declaration d) = declaration_depth d
external_depth (definition n ss d b) = max (specs_depth ss) (max (declarator_depth d) (block_depth b))

-- the greatest depth in a file
abbrev pub file_depth : {N : Type 0} → List (ExternalTree N) → ℕ
file_depth [] = 0
file_depth (x ∷ xs) = max (external_depth x) (file_depth xs)
