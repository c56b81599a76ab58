-- A tree of the same shape with another note in each node: what a function gives for the note that stands there.
use Rattle.std.specs.Prelude.{List, [], ◌∷◌, Option, Some, None}
use Rattle.cc_tree.specs.Trees.{ExprTree, name, integer, character, string, paren, unary, binary, assign, step, choice, comma, call, member, arrow, index, cast, size_expr, size_type, ExprTrees, no_exprs, more_exprs, ExprOption, no_expr, an_expr, TypeTree, type_name, TypeTrees, no_types, more_types, SpecTree, word, named, struct, enum, SpecTrees, no_specs, more_specs, MemberTree, members, MemberTrees, no_members, more_members, ConstantTree, constant, ConstantTrees, no_constants, more_constants, DeclTree, declared, nameless, pointer, array, function, grouped, DeclTrees, no_declarators, more_declarators}
use Rattle.cc_tree.specs.Trees.{ValueTree, single, braces, ValueTrees, no_values, more_values, InitTree, init, DeclarationTree, declaration, StartTree, start_declaration, start_expr, no_start, StmtTree, compound, plain, empty, if_then, if_else, switch, while_loop, do_loop, for_loop, break, continue, return, BlockTree, block, ItemTree, declares, case_label, default_label, does, ItemTrees, no_items, more_items, ExternalTree, outer_declaration, definition}
use Rattle.cc_tree.specs.Views.{gathered, gathered_types, gathered_specs, gathered_members, gathered_constants, gathered_declarators, gathered_values, gathered_items}

module _ {N M : Type 0} (f : N → M) where
  abbrev mutual
    pub renoted_expr : ExprTree N → ExprTree M
    renoted_expr (name n x) = name (f n) x
    renoted_expr (integer n v k) = integer (f n) v k
    renoted_expr (character n v) = character (f n) v
    renoted_expr (string n ss) = string (f n) ss
    renoted_expr (paren n e) = paren (f n) (renoted_expr e)
    renoted_expr (unary n op e) = unary (f n) op (renoted_expr e)
    renoted_expr (binary n op a b) = binary (f n) op (renoted_expr a) (renoted_expr b)
    renoted_expr (assign n op a b) = assign (f n) op (renoted_expr a) (renoted_expr b)
    renoted_expr (step n op side e) = step (f n) op side (renoted_expr e)
    renoted_expr (choice n c a b) = choice (f n) (renoted_expr c) (renoted_expr a) (renoted_expr b)
    renoted_expr (comma n a b) = comma (f n) (renoted_expr a) (renoted_expr b)
    renoted_expr (call n g es) = call (f n) (renoted_expr g) (gathered (renoted_exprs es))
    renoted_expr (member n e x) = member (f n) (renoted_expr e) x
    renoted_expr (arrow n e x) = arrow (f n) (renoted_expr e) x
    renoted_expr (index n a i) = index (f n) (renoted_expr a) (renoted_expr i)
    renoted_expr (cast n t e) = cast (f n) (renoted_type t) (renoted_expr e)
    renoted_expr (size_expr n e) = size_expr (f n) (renoted_expr e)
    renoted_expr (size_type n t) = size_type (f n) (renoted_type t)

    pub renoted_exprs : ExprTrees N → List (ExprTree M)
    renoted_exprs no_exprs = []
    renoted_exprs (more_exprs e es) = renoted_expr e ∷ renoted_exprs es

    pub renoted_option : ExprOption N → ExprOption M
    renoted_option no_expr = no_expr
    renoted_option (an_expr e) = an_expr (renoted_expr e)

    pub renoted_type : TypeTree N → TypeTree M
    renoted_type (type_name n ss d) = type_name (f n) (gathered_specs (renoted_specs ss)) (renoted_declarator d)

    pub renoted_types : TypeTrees N → List (TypeTree M)
    renoted_types no_types = []
    renoted_types (more_types t ts) = renoted_type t ∷ renoted_types ts

    pub renoted_spec : SpecTree N → SpecTree M
    renoted_spec (word n w) = word (f n) w
    renoted_spec (named n x) = named (f n) x
    renoted_spec (struct n tag ms) = struct (f n) tag (gathered_members (renoted_members ms))
    renoted_spec (enum n tag cs trailing) = enum (f n) tag (gathered_constants (renoted_constants cs)) trailing

    pub renoted_specs : SpecTrees N → List (SpecTree M)
    renoted_specs no_specs = []
    renoted_specs (more_specs s ss) = renoted_spec s ∷ renoted_specs ss

    pub renoted_member : MemberTree N → MemberTree M
    renoted_member (members n ss ds) = members (f n) (gathered_specs (renoted_specs ss)) (gathered_declarators (renoted_declarators ds))

    pub renoted_members : MemberTrees N → List (MemberTree M)
    renoted_members no_members = []
    renoted_members (more_members m ms) = renoted_member m ∷ renoted_members ms

    pub renoted_constant : ConstantTree N → ConstantTree M
    renoted_constant (constant n x e) = constant (f n) x (renoted_option e)

    pub renoted_constants : ConstantTrees N → List (ConstantTree M)
    renoted_constants no_constants = []
    renoted_constants (more_constants c cs) = renoted_constant c ∷ renoted_constants cs

    pub renoted_declarator : DeclTree N → DeclTree M
    renoted_declarator (declared n x) = declared (f n) x
    renoted_declarator nameless = nameless
    renoted_declarator (pointer n k d) = pointer (f n) k (renoted_declarator d)
    renoted_declarator (array n d length) = array (f n) (renoted_declarator d) (renoted_option length)
    renoted_declarator (function n d ps) = function (f n) (renoted_declarator d) (gathered_types (renoted_types ps))
    renoted_declarator (grouped n d) = grouped (f n) (renoted_declarator d)

    pub renoted_declarators : DeclTrees N → List (DeclTree M)
    renoted_declarators no_declarators = []
    renoted_declarators (more_declarators d ds) = renoted_declarator d ∷ renoted_declarators ds

  abbrev mutual
    pub renoted_value : ValueTree N → ValueTree M
    renoted_value (single e) = single (renoted_expr e)
    renoted_value (braces n vs trailing) = braces (f n) (gathered_values (renoted_values vs)) trailing

    pub renoted_values : ValueTrees N → List (ValueTree M)
    renoted_values no_values = []
    renoted_values (more_values v vs) = renoted_value v ∷ renoted_values vs

  abbrev pub renoted_given : Option (ValueTree N) → Option (ValueTree M)
  renoted_given None = None
  renoted_given (Some v) = Some (renoted_value v)

  abbrev pub renoted_init : InitTree N → InitTree M
  renoted_init (init d v) = init (renoted_declarator d) (renoted_given v)

  abbrev pub renoted_inits : List (InitTree N) → List (InitTree M)
  renoted_inits [] = []
  renoted_inits (i ∷ is) = renoted_init i ∷ renoted_inits is

  abbrev pub renoted_declaration : DeclarationTree N → DeclarationTree M
  renoted_declaration (declaration n ss is) = declaration (f n) (gathered_specs (renoted_specs ss)) (renoted_inits is)

  abbrev pub renoted_start : StartTree N → StartTree M
  renoted_start (start_declaration d) = start_declaration (renoted_declaration d)
  renoted_start (start_expr e) = start_expr (renoted_expr e)
  renoted_start no_start = no_start

  abbrev pub renoted_clause : Option (ExprTree N) → Option (ExprTree M)
  renoted_clause None = None
  renoted_clause (Some e) = Some (renoted_expr e)

  abbrev mutual
    pub renoted_stmt : StmtTree N → StmtTree M
    renoted_stmt (compound b) = compound (renoted_block b)
    renoted_stmt (plain n e) = plain (f n) (renoted_expr e)
    renoted_stmt (empty n) = empty (f n)
    renoted_stmt (if_then n c s) = if_then (f n) (renoted_expr c) (renoted_stmt s)
    renoted_stmt (if_else n c s o) = if_else (f n) (renoted_expr c) (renoted_stmt s) (renoted_stmt o)
    renoted_stmt (switch n e b) = switch (f n) (renoted_expr e) (renoted_block b)
    renoted_stmt (while_loop n c s) = while_loop (f n) (renoted_expr c) (renoted_stmt s)
    renoted_stmt (do_loop n s c) = do_loop (f n) (renoted_stmt s) (renoted_expr c)
    renoted_stmt (for_loop n start test each s) = for_loop (f n) (renoted_start start) (renoted_clause test) (renoted_clause each) (renoted_stmt s)
    renoted_stmt (break n) = break (f n)
    renoted_stmt (continue n) = continue (f n)
    renoted_stmt (return n e) = return (f n) (renoted_clause e)

    pub renoted_block : BlockTree N → BlockTree M
    renoted_block (block n is) = block (f n) (gathered_items (renoted_items is))

    pub renoted_item : ItemTree N → ItemTree M
    renoted_item (declares d) = declares (renoted_declaration d)
    renoted_item (case_label n e) = case_label (f n) (renoted_expr e)
    renoted_item (default_label n) = default_label (f n)
    renoted_item (does s) = does (renoted_stmt s)

    pub renoted_items : ItemTrees N → List (ItemTree M)
    renoted_items no_items = []
    renoted_items (more_items i is) = renoted_item i ∷ renoted_items is

  abbrev pub renoted_external : ExternalTree N → ExternalTree M
  renoted_external (outer_declaration d) = outer_declaration (renoted_declaration d)
  renoted_external (definition n ss d b) = definition (f n) (gathered_specs (renoted_specs ss)) (renoted_declarator d) (renoted_block b)

  abbrev pub renoted_file : List (ExternalTree N) → List (ExternalTree M)
  renoted_file [] = []
  renoted_file (x ∷ xs) = renoted_external x ∷ renoted_file xs
