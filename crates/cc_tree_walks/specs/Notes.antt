-- The note of each node. In the tree of a file as it is written, this is the node's spot.
use Rattle.std.specs.Prelude.{Option, Some, None}
use Rattle.cc_tree.specs.Trees.{ExprTree, name, integer, character, string, paren, unary, binary, assign, step, choice, comma, call, member, arrow, index, cast, size_expr, size_type, TypeTree, type_name, SpecTree, word, named, struct, enum, MemberTree, members, ConstantTree, constant, DeclTree, declared, nameless, pointer, array, function, grouped}
use Rattle.cc_tree.specs.Trees.{ValueTree, single, braces, DeclarationTree, declaration, StmtTree, compound, plain, empty, if_then, if_else, switch, while_loop, do_loop, for_loop, break, continue, return, BlockTree, block, ItemTree, declares, case_label, default_label, does, ExternalTree, outer_declaration, definition}

abbrev pub expr_note : {N : Type 0} → ExprTree N → N
expr_note (name n x) = n
expr_note (integer n v k) = n
expr_note (character n v) = n
expr_note (string n ss) = n
expr_note (paren n e) = n
expr_note (unary n op e) = n
expr_note (binary n op a b) = n
expr_note (assign n op a b) = n
expr_note (step n op side e) = n
expr_note (choice n c a b) = n
expr_note (comma n a b) = n
expr_note (call n f es) = n
expr_note (member n e x) = n
expr_note (arrow n e x) = n
expr_note (index n a i) = n
expr_note (cast n t e) = n
expr_note (size_expr n e) = n
expr_note (size_type n t) = n

abbrev pub type_note : {N : Type 0} → TypeTree N → N
type_note (type_name n ss d) = n

abbrev pub spec_note : {N : Type 0} → SpecTree N → N
spec_note (word n w) = n
spec_note (named n x) = n
spec_note (struct n tag ms) = n
spec_note (enum n tag cs trailing) = n

abbrev pub member_note : {N : Type 0} → MemberTree N → N
member_note (members n ss ds) = n

abbrev pub constant_note : {N : Type 0} → ConstantTree N → N
constant_note (constant n x e) = n

-- where nothing stands in the place of the name, there is no node
abbrev pub declarator_note : {N : Type 0} → DeclTree N → Option N
declarator_note (declared n x) = Some n
declarator_note nameless = None
declarator_note (pointer n k d) = Some n
declarator_note (array n d length) = Some n
declarator_note (function n d ps) = Some n
declarator_note (grouped n d) = Some n

-- an initialiser without braces is its expression
abbrev pub value_note : {N : Type 0} → ValueTree N → N
value_note (single e) = expr_note e
value_note (braces n vs trailing) = n

abbrev pub declaration_note : {N : Type 0} → DeclarationTree N → N
declaration_note (declaration n ss is) = n

abbrev pub block_note : {N : Type 0} → BlockTree N → N
block_note (block n is) = n

-- a compound statement is its block
abbrev pub stmt_note : {N : Type 0} → StmtTree N → N
stmt_note (compound b) = block_note b
stmt_note (plain n e) = n
stmt_note (empty n) = n
stmt_note (if_then n c s) = n
stmt_note (if_else n c s o) = n
stmt_note (switch n e b) = n
stmt_note (while_loop n c s) = n
stmt_note (do_loop n s c) = n
stmt_note (for_loop n start test each s) = n
stmt_note (break n) = n
stmt_note (continue n) = n
stmt_note (return n e) = n

-- an item is its declaration, its statement or a label
abbrev pub item_note : {N : Type 0} → ItemTree N → N
item_note (declares d) = declaration_note d
item_note (case_label n e) = n
item_note (default_label n) = n
item_note (does s) = stmt_note s

abbrev pub external_note : {N : Type 0} → ExternalTree N → N
external_note (outer_declaration d) = declaration_note d
external_note (definition n ss d b) = n
