-- How many nodes a tree has. A node is a place with a note of its own: each expression, type name or parameter, specifier, line of
-- members, constant, form of a declarator with its name, pair of braces of an initialiser, declaration, statement, block, label
-- and function with a body is one. The place of a missing name is none, nor are lists, what may be missing, an initialiser without
-- braces, a statement that is a block and a file: they have the nodes that are in them.
use Rattle.std.specs.Prelude.{ℕ, ◌+◌, List, [], ◌∷◌, Option, Some, None}
use Rattle.cc_tree.specs.Trees.{ExprTree, name, integer, character, string, paren, unary, binary, assign, step, choice, comma, call, member, arrow, index, cast, size_expr, size_type, ExprTrees, no_exprs, more_exprs, ExprOption, no_expr, an_expr, TypeTree, type_name, TypeTrees, no_types, more_types, SpecTree, word, named, struct, enum, SpecTrees, no_specs, more_specs, MemberTree, members, MemberTrees, no_members, more_members, ConstantTree, constant, ConstantTrees, no_constants, more_constants, DeclTree, declared, nameless, pointer, array, function, grouped, DeclTrees, no_declarators, more_declarators}
use Rattle.cc_tree.specs.Trees.{ValueTree, single, braces, ValueTrees, no_values, more_values, InitTree, init, DeclarationTree, declaration, StartTree, start_declaration, start_expr, no_start, StmtTree, compound, plain, empty, if_then, if_else, switch, while_loop, do_loop, for_loop, break, continue, return, BlockTree, block, ItemTree, declares, case_label, default_label, does, ItemTrees, no_items, more_items, ExternalTree, outer_declaration, definition}

abbrev mutual
  pub expr_nodes : {N : Type 0} → ExprTree N → ℕ
  expr_nodes (name n x) = 1
  expr_nodes (integer n v k) = 1
  expr_nodes (character n v) = 1
  expr_nodes (string n ss) = 1
  expr_nodes (paren n e) = expr_nodes e + 1
  expr_nodes (unary n op e) = expr_nodes e + 1
  expr_nodes (binary n op a b) = expr_nodes a + expr_nodes b + 1
  expr_nodes (assign n op a b) = expr_nodes a + expr_nodes b + 1
  expr_nodes (step n op side e) = expr_nodes e + 1
  expr_nodes (choice n c a b) = expr_nodes c + expr_nodes a + expr_nodes b + 1
  expr_nodes (comma n a b) = expr_nodes a + expr_nodes b + 1
  expr_nodes (call n f es) = expr_nodes f + exprs_nodes es + 1
  expr_nodes (member n e x) = expr_nodes e + 1
  expr_nodes (arrow n e x) = expr_nodes e + 1
  expr_nodes (index n a i) = expr_nodes a + expr_nodes i + 1
  expr_nodes (cast n t e) = type_nodes t + expr_nodes e + 1
  expr_nodes (size_expr n e) = expr_nodes e + 1
  expr_nodes (size_type n t) = type_nodes t + 1

  pub exprs_nodes : {N : Type 0} → ExprTrees N → ℕ
  exprs_nodes no_exprs = 0
  exprs_nodes (more_exprs e es) = expr_nodes e + exprs_nodes es

  pub option_nodes : {N : Type 0} → ExprOption N → ℕ
  option_nodes no_expr = 0
  option_nodes (an_expr e) = expr_nodes e

  pub type_nodes : {N : Type 0} → TypeTree N → ℕ
  type_nodes (type_name n ss d) = specs_nodes ss + declarator_nodes d + 1

  pub types_nodes : {N : Type 0} → TypeTrees N → ℕ
  types_nodes no_types = 0
  types_nodes (more_types t ts) = type_nodes t + types_nodes ts

  pub spec_nodes : {N : Type 0} → SpecTree N → ℕ
  spec_nodes (word n w) = 1
  spec_nodes (named n x) = 1
  spec_nodes (struct n tag ms) = members_nodes ms + 1
  spec_nodes (enum n tag cs trailing) = constants_nodes cs + 1

  pub specs_nodes : {N : Type 0} → SpecTrees N → ℕ
  specs_nodes no_specs = 0
  specs_nodes (more_specs s ss) = spec_nodes s + specs_nodes ss

  pub member_nodes : {N : Type 0} → MemberTree N → ℕ
  member_nodes (members n ss ds) = specs_nodes ss + declarators_nodes ds + 1

  pub members_nodes : {N : Type 0} → MemberTrees N → ℕ
  members_nodes no_members = 0
  members_nodes (more_members m ms) = member_nodes m + members_nodes ms

  pub constant_nodes : {N : Type 0} → ConstantTree N → ℕ
  constant_nodes (constant n x e) = option_nodes e + 1

  pub constants_nodes : {N : Type 0} → ConstantTrees N → ℕ
  constants_nodes no_constants = 0
  constants_nodes (more_constants c cs) = constant_nodes c + constants_nodes cs

  pub declarator_nodes : {N : Type 0} → DeclTree N → ℕ
  declarator_nodes (declared n x) = 1
  declarator_nodes nameless = 0
  declarator_nodes (pointer n k d) = declarator_nodes d + 1
  declarator_nodes (array n d length) = declarator_nodes d + option_nodes length + 1
  declarator_nodes (function n d ps) = declarator_nodes d + types_nodes ps + 1
  declarator_nodes (grouped n d) = declarator_nodes d + 1

  pub declarators_nodes : {N : Type 0} → DeclTrees N → ℕ
  declarators_nodes no_declarators = 0
  declarators_nodes (more_declarators d ds) = declarator_nodes d + declarators_nodes ds

abbrev mutual
  pub value_nodes : {N : Type 0} → ValueTree N → ℕ
  value_nodes (single e) = expr_nodes e
  value_nodes (braces n vs trailing) = values_nodes vs + 1

  pub values_nodes : {N : Type 0} → ValueTrees N → ℕ
  values_nodes no_values = 0
  values_nodes (more_values v vs) = value_nodes v + values_nodes vs

abbrev pub given_nodes : {N : Type 0} → Option (ValueTree N) → ℕ
given_nodes None = 0
given_nodes (Some v) = value_nodes v

abbrev pub init_nodes : {N : Type 0} → InitTree N → ℕ
init_nodes (init d v) = declarator_nodes d + given_nodes v

abbrev pub inits_nodes : {N : Type 0} → List (InitTree N) → ℕ
inits_nodes [] = 0
inits_nodes (i ∷ is) = init_nodes i + inits_nodes is

abbrev pub declaration_nodes : {N : Type 0} → DeclarationTree N → ℕ
declaration_nodes (declaration n ss is) = specs_nodes ss + inits_nodes is + 1

abbrev pub start_nodes : {N : Type 0} → StartTree N → ℕ
start_nodes (start_declaration d) = declaration_nodes d
start_nodes (start_expr e) = expr_nodes e
start_nodes no_start = 0

abbrev pub clause_nodes : {N : Type 0} → Option (ExprTree N) → ℕ
clause_nodes None = 0
clause_nodes (Some e) = expr_nodes e

abbrev mutual
  pub stmt_nodes : {N : Type 0} → StmtTree N → ℕ
  stmt_nodes (compound b) = block_nodes b
  stmt_nodes (plain n e) = expr_nodes e + 1
  stmt_nodes (empty n) = 1
  stmt_nodes (if_then n c s) = expr_nodes c + stmt_nodes s + 1
  stmt_nodes (if_else n c s o) = expr_nodes c + stmt_nodes s + stmt_nodes o + 1
  stmt_nodes (switch n e b) = expr_nodes e + block_nodes b + 1
  stmt_nodes (while_loop n c s) = expr_nodes c + stmt_nodes s + 1
  stmt_nodes (do_loop n s c) = stmt_nodes s + expr_nodes c + 1
  stmt_nodes (for_loop n start test each s) = start_nodes start + clause_nodes test + clause_nodes each + stmt_nodes s + 1
  stmt_nodes (break n) = 1
  stmt_nodes (continue n) = 1
  stmt_nodes (return n e) = clause_nodes e + 1

  pub block_nodes : {N : Type 0} → BlockTree N → ℕ
  block_nodes (block n is) = items_nodes is + 1

  pub item_nodes : {N : Type 0} → ItemTree N → ℕ
  item_nodes (declares d) = declaration_nodes d
  item_nodes (case_label n e) = expr_nodes e + 1
  item_nodes (default_label n) = 1
  item_nodes (does s) = stmt_nodes s

  pub items_nodes : {N : Type 0} → ItemTrees N → ℕ
  items_nodes no_items = 0
  items_nodes (more_items i is) = item_nodes i + items_nodes is

abbrev pub external_nodes : {N : Type 0} → ExternalTree N → ℕ
external_nodes (outer_declaration d) = declaration_nodes d
external_nodes (definition n ss d b) = specs_nodes ss + declarator_nodes d + block_nodes b + 1

abbrev pub file_nodes : {N : Type 0} → List (ExternalTree N) → ℕ
file_nodes [] = 0
file_nodes (x ∷ xs) = external_nodes x + file_nodes xs
