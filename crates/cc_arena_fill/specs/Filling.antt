-- The arena with the nodes of a tree at its end: a node before its parts, its parts from left to right. Each clause says what
-- node a kind of tree is. `up` is the number of the node that the tree is a part of.
use Rattle.std.specs.Prelude.{ℕ, List, [], ◌∷◌, Option, Some, None}
use Rattle.cc_tree.specs.Trees.{ExprTree, name, integer, character, string, paren, unary, binary, assign, step, choice, comma, call, member, arrow, index, cast, size_expr, size_type, ExprTrees, no_exprs, more_exprs, ExprOption, no_expr, an_expr, TypeTree, type_name, TypeTrees, no_types, more_types, SpecTree, word, named, struct, enum, SpecTrees, no_specs, more_specs, MemberTree, members, MemberTrees, no_members, more_members, ConstantTree, constant, ConstantTrees, no_constants, more_constants, DeclTree, declared, nameless, pointer, array, function, grouped, DeclTrees, no_declarators, more_declarators}
use Rattle.cc_tree.specs.Trees.{ValueTree, single, braces, ValueTrees, no_values, more_values, InitTree, init, DeclarationTree, declaration, StartTree, start_declaration, start_expr, no_start, StmtTree, compound, plain, empty, if_then, if_else, switch, while_loop, do_loop, for_loop, break, continue, return, BlockTree, block, ItemTree, declares, case_label, default_label, does, ItemTrees, no_items, more_items, ExternalTree, outer_declaration, definition}
use Rattle.cc_tree_notes.specs.declared.note.Counted.{Counted}
use Rattle.cc_arena.specs.Arenas.{pushed, with_list, with_bytes, span_after}
use Rattle.cc_arena.specs.declared.arena.Arena.{Arena}
use Rattle.cc_arena.specs.declared.node.Node.{Node}
use Rattle.cc_arena.specs.declared.node.Node.TheVariants as node
use Rattle.cc_arena.specs.declared.node.Span.{Span}
use Rattle.cc_arena_fill.specs.Numbers.{joined, number_of, numbers_of, option_number, clause_number, type_number, type_numbers, member_numbers, constant_numbers, declarator_number, declarator_numbers, name_number, value_numbers, given_number, init_numbers, declaration_number, start_number, block_number, stmt_number, item_numbers}

-- with this node at the end
abbrev pub put_node : ℕ → Counted → Node → Arena → Arena
put_node up n what A = pushed up n.spot what A

-- with this list, and then the node that has it
abbrev pub put_listing : ℕ → Counted → (Span → Node) → List ℕ → Arena → Arena
put_listing up n what xs A = put_node up n (what (span_after A.lists xs)) (with_list xs A)

abbrev mutual
  pub put_expr : ExprTree Counted → ℕ → Arena → Arena
  put_expr (name n x) up A = put_node up n node.Name A
  put_expr (integer n v k) up A = put_node up n (node.Int v k) A
  put_expr (character n v) up A = put_node up n (node.Char v) A
  put_expr (string n ss) up A = put_node up n (node.Str (span_after A.bytes (joined ss))) (with_bytes (joined ss) A)
  put_expr (paren n e) up A = put_expr e n.number (put_node up n (node.Paren (number_of e)) A)
  put_expr (unary n op e) up A = put_expr e n.number (put_node up n (node.Unary op (number_of e)) A)
  put_expr (binary n op a b) up A = put_expr b n.number (put_expr a n.number (put_node up n (node.Binary op (number_of a) (number_of b)) A))
  put_expr (assign n op a b) up A = put_expr b n.number (put_expr a n.number (put_node up n (node.Assign op (number_of a) (number_of b)) A))
  put_expr (step n op side e) up A = put_expr e n.number (put_node up n (node.Step op side (number_of e)) A)
  put_expr (choice n c a b) up A = put_expr b n.number (put_expr a n.number (put_expr c n.number (put_node up n (node.Cond (number_of c) (number_of a) (number_of b)) A)))
  put_expr (comma n a b) up A = put_expr b n.number (put_expr a n.number (put_node up n (node.Comma (number_of a) (number_of b)) A))
  put_expr (call n f es) up A = put_exprs es n.number (put_expr f n.number (put_listing up n (node.Call (number_of f)) (numbers_of es) A))
  put_expr (member n e x) up A = put_expr e n.number (put_node up n (node.Member (number_of e)) A)
  put_expr (arrow n e x) up A = put_expr e n.number (put_node up n (node.Arrow (number_of e)) A)
  put_expr (index n a i) up A = put_expr i n.number (put_expr a n.number (put_node up n (node.Index (number_of a) (number_of i)) A))
  put_expr (cast n t e) up A = put_expr e n.number (put_type t n.number (put_node up n (node.Cast (type_number t) (number_of e)) A))
  put_expr (size_expr n e) up A = put_expr e n.number (put_node up n (node.SizeExpr (number_of e)) A)
  put_expr (size_type n t) up A = put_type t n.number (put_node up n (node.SizeType (type_number t)) A)

  pub put_exprs : ExprTrees Counted → ℕ → Arena → Arena
  put_exprs no_exprs up A = A
  put_exprs (more_exprs e es) up A = put_exprs es up (put_expr e up A)

  pub put_option : ExprOption Counted → ℕ → Arena → Arena
  put_option no_expr up A = A
  put_option (an_expr e) up A = put_expr e up A

  pub put_type : TypeTree Counted → ℕ → Arena → Arena
  put_type (type_name n ss d) up A = put_declarator d None n.number (put_specs ss n.number (put_node up n (node.TypeName (declarator_number d)) A))

  pub put_types : TypeTrees Counted → ℕ → Arena → Arena
  put_types no_types up A = A
  put_types (more_types t ts) up A = put_types ts up (put_type t up A)

  pub put_spec : SpecTree Counted → ℕ → Arena → Arena
  put_spec (word n w) up A = put_node up n (node.Word w) A
  put_spec (named n x) up A = put_node up n node.Named A
  put_spec (struct n tag ms) up A = put_members ms n.number (put_listing up n node.Struct (member_numbers ms) A)
  put_spec (enum n tag cs trailing) up A = put_constants cs n.number (put_listing up n node.Enum (constant_numbers cs) A)

  pub put_specs : SpecTrees Counted → ℕ → Arena → Arena
  put_specs no_specs up A = A
  put_specs (more_specs s ss) up A = put_specs ss up (put_spec s up A)

  pub put_member : MemberTree Counted → ℕ → Arena → Arena
  put_member (members n ss ds) up A = put_declarators ds n.number (put_specs ss n.number (put_listing up n node.Members (declarator_numbers ds) A))

  pub put_members : MemberTrees Counted → ℕ → Arena → Arena
  put_members no_members up A = A
  put_members (more_members m ms) up A = put_members ms up (put_member m up A)

  pub put_constant : ConstantTree Counted → ℕ → Arena → Arena
  put_constant (constant n x e) up A = put_option e n.number (put_node up n (node.Constant (option_number e)) A)

  pub put_constants : ConstantTrees Counted → ℕ → Arena → Arena
  put_constants no_constants up A = A
  put_constants (more_constants c cs) up A = put_constants cs up (put_constant c up A)

  -- the number before `up` is that of the declarator's initialiser, which its name's node says
  pub put_declarator : DeclTree Counted → Option ℕ → ℕ → Arena → Arena
  put_declarator (declared n x) given up A = put_node up n (node.Declared given) A
  put_declarator nameless given up A = A
  put_declarator (pointer n k d) given up A = put_declarator d given n.number (put_node up n (node.Pointer (declarator_number d)) A)
  put_declarator (array n d length) given up A = put_option length n.number (put_declarator d given n.number (put_node up n (node.Array (declarator_number d) (option_number length)) A))
  put_declarator (function n d ps) given up A = put_types ps n.number (put_declarator d given n.number (put_listing up n (node.Function (declarator_number d)) (type_numbers ps) A))
  put_declarator (grouped n d) given up A = put_declarator d given n.number (put_node up n (node.Group (declarator_number d)) A)

  pub put_declarators : DeclTrees Counted → ℕ → Arena → Arena
  put_declarators no_declarators up A = A
  put_declarators (more_declarators d ds) up A = put_declarators ds up (put_declarator d None up A)

abbrev mutual
  pub put_value : ValueTree Counted → ℕ → Arena → Arena
  put_value (single e) up A = put_expr e up A
  put_value (braces n vs trailing) up A = put_values vs n.number (put_listing up n node.Braces (value_numbers vs) A)

  pub put_values : ValueTrees Counted → ℕ → Arena → Arena
  put_values no_values up A = A
  put_values (more_values v vs) up A = put_values vs up (put_value v up A)

abbrev pub put_given : Option (ValueTree Counted) → ℕ → Arena → Arena
put_given None up A = A
put_given (Some v) up A = put_value v up A

-- an initialiser is a part of the name of its declarator
abbrev pub put_init : InitTree Counted → ℕ → Arena → Arena
put_init (init d v) up A = put_given v (name_number d up) (put_declarator d (given_number v) up A)

abbrev pub put_inits : List (InitTree Counted) → ℕ → Arena → Arena
put_inits [] up A = A
put_inits (i ∷ is) up A = put_inits is up (put_init i up A)

abbrev pub put_declaration : DeclarationTree Counted → ℕ → Arena → Arena
put_declaration (declaration n ss is) up A = put_inits is n.number (put_specs ss n.number (put_listing up n node.Declaration (init_numbers is) A))

abbrev pub put_start : StartTree Counted → ℕ → Arena → Arena
put_start (start_declaration d) up A = put_declaration d up A
put_start (start_expr e) up A = put_expr e up A
put_start no_start up A = A

abbrev pub put_clause : Option (ExprTree Counted) → ℕ → Arena → Arena
put_clause None up A = A
put_clause (Some e) up A = put_expr e up A

abbrev mutual
  pub put_stmt : StmtTree Counted → ℕ → Arena → Arena
  put_stmt (compound b) up A = put_block b up A
  put_stmt (plain n e) up A = put_expr e n.number (put_node up n (node.Plain (number_of e)) A)
  put_stmt (empty n) up A = put_node up n node.Empty A
  put_stmt (if_then n c s) up A = put_stmt s n.number (put_expr c n.number (put_node up n (node.If (number_of c) (stmt_number s)) A))
  put_stmt (if_else n c s o) up A = put_stmt o n.number (put_stmt s n.number (put_expr c n.number (put_node up n (node.IfElse (number_of c) (stmt_number s) (stmt_number o)) A)))
  put_stmt (switch n e b) up A = put_block b n.number (put_expr e n.number (put_node up n (node.Switch (number_of e) (block_number b)) A))
  put_stmt (while_loop n c s) up A = put_stmt s n.number (put_expr c n.number (put_node up n (node.While (number_of c) (stmt_number s)) A))
  put_stmt (do_loop n s c) up A = put_expr c n.number (put_stmt s n.number (put_node up n (node.Do (stmt_number s) (number_of c)) A))
  put_stmt (for_loop n start test each s) up A = put_stmt s n.number (put_clause each n.number (put_clause test n.number (put_start start n.number (put_node up n (node.For (start_number start) (clause_number test) (clause_number each) (stmt_number s)) A))))
  put_stmt (break n) up A = put_node up n node.Break A
  put_stmt (continue n) up A = put_node up n node.Continue A
  put_stmt (return n e) up A = put_clause e n.number (put_node up n (node.Return (clause_number e)) A)

  pub put_block : BlockTree Counted → ℕ → Arena → Arena
  put_block (block n is) up A = put_items is n.number (put_listing up n node.Block (item_numbers is) A)

  pub put_item : ItemTree Counted → ℕ → Arena → Arena
  put_item (declares d) up A = put_declaration d up A
  put_item (case_label n e) up A = put_expr e n.number (put_node up n (node.Case (number_of e)) A)
  put_item (default_label n) up A = put_node up n node.Default A
  put_item (does s) up A = put_stmt s up A

  pub put_items : ItemTrees Counted → ℕ → Arena → Arena
  put_items no_items up A = A
  put_items (more_items i is) up A = put_items is up (put_item i up A)

-- an external is a part of no node, and has its own number in that place
abbrev pub put_external : ExternalTree Counted → Arena → Arena
put_external (outer_declaration d) A = put_declaration d (declaration_number d) A
put_external (definition n ss d b) A = put_block b n.number (put_declarator d None n.number (put_specs ss n.number (put_node n.number n (node.Definition (declarator_number d) (block_number b)) A)))

abbrev pub put_file : List (ExternalTree Counted) → Arena → Arena
put_file [] A = A
put_file (x ∷ xs) A = put_file xs (put_external x A)
