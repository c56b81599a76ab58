-- The plain tree of each tree.
use Rattle.std.specs.Prelude.{List, [], ◌∷◌, map, Option, Some, None, option_map}
use Rattle.cc_tree.specs.Trees.{ExprTree, name, integer, character, string, paren, unary, binary, assign, step, choice, comma, call, member, arrow, index, cast, size_expr, size_type, ExprTrees, no_exprs, more_exprs, ExprOption, no_expr, an_expr, TypeTree, type_name, TypeTrees, no_types, more_types, SpecTree, word, named, struct, enum, SpecTrees, no_specs, more_specs, MemberTree, members, MemberTrees, no_members, more_members, ConstantTree, constant, ConstantTrees, no_constants, more_constants, DeclTree, declared, nameless, pointer, array, function, grouped, DeclTrees, no_declarators, more_declarators}
use Rattle.cc_tree.specs.Trees.{ValueTree, single, braces, ValueTrees, no_values, more_values, InitTree, init, DeclarationTree, declaration, StartTree, start_declaration, start_expr, no_start, StmtTree, compound, plain, empty, if_then, if_else, switch, while_loop, do_loop, for_loop, break, continue, return, BlockTree, block, ItemTree, declares, case_label, default_label, does, ItemTrees, no_items, more_items, ExternalTree, outer_declaration, definition}
use Rattle.cc_tree.specs.declared.expr.Constant.{Constant, Constant-F, fold-Constant}
use Rattle.cc_tree.specs.declared.expr.Declarator.{Declarator, Declarator-F, fold-Declarator}
use Rattle.cc_tree.specs.declared.expr.Expr.{Expr, Expr-F, fold-Expr}
use Rattle.cc_tree.specs.declared.expr.Member.{Member, Member-F, fold-Member}
use Rattle.cc_tree.specs.declared.expr.Spec.{Spec, Spec-F, fold-Spec}
use Rattle.cc_tree.specs.declared.expr.TypeName.{TypeName, TypeName-F, fold-TypeName}
use Rattle.cc_tree.specs.declared.declaration.Value.{Value, Value-F, fold-Value}
use Rattle.cc_tree.specs.declared.declaration.Init.{Init}
use Rattle.cc_tree.specs.declared.declaration.Declaration.{Declaration}
use Rattle.cc_tree.specs.declared.stmt.ForStart.{ForStart}
use Rattle.cc_tree.specs.declared.stmt.ForStart.TheVariants as first
use Rattle.cc_tree.specs.declared.stmt.Block.{Block, Block-F, fold-Block}
use Rattle.cc_tree.specs.declared.stmt.Item.{Item, Item-F, fold-Item}
use Rattle.cc_tree.specs.declared.stmt.Stmt.{Stmt, Stmt-F, fold-Stmt}
use Rattle.cc_tree.specs.declared.stmt.External.{External}
use Rattle.cc_tree.specs.declared.stmt.External.TheVariants as outer
use Rattle.cc_tree.specs.declared.stmt.FileTree.{FileTree}

module _ {N : Type 0} where
  -- lists as the lists inside a tree
  abbrev pub gathered : List (ExprTree N) → ExprTrees N
  gathered [] = no_exprs
  gathered (e ∷ es) = more_exprs e (gathered es)

  abbrev pub gathered_types : List (TypeTree N) → TypeTrees N
  gathered_types [] = no_types
  gathered_types (t ∷ ts) = more_types t (gathered_types ts)

  abbrev pub gathered_specs : List (SpecTree N) → SpecTrees N
  gathered_specs [] = no_specs
  gathered_specs (s ∷ ss) = more_specs s (gathered_specs ss)

  abbrev pub gathered_members : List (MemberTree N) → MemberTrees N
  gathered_members [] = no_members
  gathered_members (m ∷ ms) = more_members m (gathered_members ms)

  abbrev pub gathered_constants : List (ConstantTree N) → ConstantTrees N
  gathered_constants [] = no_constants
  gathered_constants (c ∷ cs) = more_constants c (gathered_constants cs)

  abbrev pub gathered_declarators : List (DeclTree N) → DeclTrees N
  gathered_declarators [] = no_declarators
  gathered_declarators (d ∷ ds) = more_declarators d (gathered_declarators ds)

  abbrev pub gathered_values : List (ValueTree N) → ValueTrees N
  gathered_values [] = no_values
  gathered_values (v ∷ vs) = more_values v (gathered_values vs)

  abbrev pub gathered_items : List (ItemTree N) → ItemTrees N
  gathered_items [] = no_items
  gathered_items (i ∷ is) = more_items i (gathered_items is)

  abbrev pub option_at : Option (ExprTree N) → ExprOption N
  option_at None = no_expr
  option_at (Some e) = an_expr e

  -- one level, with all inside already seen as plain trees
  abbrev pub constant_step : Constant-F N (DeclTree N) (ExprTree N) (SpecTree N) (ConstantTree N) (MemberTree N) (TypeTree N) → ConstantTree N
  constant_step c = constant c.note c.name (option_at c.value)

  abbrev pub declarator_step : Declarator-F N (DeclTree N) (ExprTree N) (SpecTree N) (ConstantTree N) (MemberTree N) (TypeTree N) → DeclTree N
  declarator_step (Declarator-F.Declarator::Name n x) = declared n x
  declarator_step Declarator-F.Nameless = nameless
  declarator_step (Declarator-F.Pointer n k d) = pointer n k d
  declarator_step (Declarator-F.Array n d length) = array n d (option_at length)
  declarator_step (Declarator-F.Func n d ps) = function n d (gathered_types ps)
  declarator_step (Declarator-F.Declarator::Paren n d) = grouped n d

  abbrev pub expr_step : Expr-F N (DeclTree N) (ExprTree N) (SpecTree N) (ConstantTree N) (MemberTree N) (TypeTree N) → ExprTree N
  expr_step (Expr-F.Expr::Name n x) = name n x
  expr_step (Expr-F.Int n v k) = integer n v k
  expr_step (Expr-F.Char n v) = character n v
  expr_step (Expr-F.Str n ss) = string n ss
  expr_step (Expr-F.Expr::Paren n e) = paren n e
  expr_step (Expr-F.Unary n op e) = unary n op e
  expr_step (Expr-F.Binary n op a b) = binary n op a b
  expr_step (Expr-F.Assign n op a b) = assign n op a b
  expr_step (Expr-F.Step n op side e) = step n op side e
  expr_step (Expr-F.Cond n c a b) = choice n c a b
  expr_step (Expr-F.Comma n a b) = comma n a b
  expr_step (Expr-F.Call n f args) = call n f (gathered args)
  expr_step (Expr-F.Member n e x) = member n e x
  expr_step (Expr-F.Arrow n e x) = arrow n e x
  expr_step (Expr-F.Index n a i) = index n a i
  expr_step (Expr-F.Cast n t e) = cast n t e
  expr_step (Expr-F.SizeExpr n e) = size_expr n e
  expr_step (Expr-F.SizeType n t) = size_type n t

  abbrev pub member_step : Member-F N (DeclTree N) (ExprTree N) (SpecTree N) (ConstantTree N) (MemberTree N) (TypeTree N) → MemberTree N
  member_step m = members m.note (gathered_specs m.specs) (gathered_declarators m.declarators)

  abbrev pub spec_step : Spec-F N (DeclTree N) (ExprTree N) (SpecTree N) (ConstantTree N) (MemberTree N) (TypeTree N) → SpecTree N
  spec_step (Spec-F.Word n w) = word n w
  spec_step (Spec-F.Named n x) = named n x
  spec_step (Spec-F.Struct n tag ms) = struct n tag (gathered_members ms)
  spec_step (Spec-F.Enum n tag cs trailing) = enum n tag (gathered_constants cs) trailing

  abbrev pub type_step : TypeName-F N (DeclTree N) (ExprTree N) (SpecTree N) (ConstantTree N) (MemberTree N) (TypeTree N) → TypeTree N
  type_step t = type_name t.note (gathered_specs t.specs) t.declarator

  abbrev pub view : Expr N → ExprTree N
  view = fold-Expr N (DeclTree N) (ExprTree N) (SpecTree N) (ConstantTree N) (MemberTree N) (TypeTree N) declarator_step expr_step spec_step constant_step member_step type_step

  abbrev pub view_type : TypeName N → TypeTree N
  view_type = fold-TypeName N (DeclTree N) (ExprTree N) (SpecTree N) (ConstantTree N) (MemberTree N) (TypeTree N) declarator_step expr_step spec_step constant_step member_step type_step

  abbrev pub view_spec : Spec N → SpecTree N
  view_spec = fold-Spec N (DeclTree N) (ExprTree N) (SpecTree N) (ConstantTree N) (MemberTree N) (TypeTree N) declarator_step expr_step spec_step constant_step member_step type_step

  abbrev pub view_member : Member N → MemberTree N
  view_member = fold-Member N (DeclTree N) (ExprTree N) (SpecTree N) (ConstantTree N) (MemberTree N) (TypeTree N) declarator_step expr_step spec_step constant_step member_step type_step

  abbrev pub view_constant : Constant N → ConstantTree N
  view_constant = fold-Constant N (DeclTree N) (ExprTree N) (SpecTree N) (ConstantTree N) (MemberTree N) (TypeTree N) declarator_step expr_step spec_step constant_step member_step type_step

  abbrev pub view_declarator : Declarator N → DeclTree N
  view_declarator = fold-Declarator N (DeclTree N) (ExprTree N) (SpecTree N) (ConstantTree N) (MemberTree N) (TypeTree N) declarator_step expr_step spec_step constant_step member_step type_step

  -- lists and what may be missing
  abbrev pub exprs_of : List (Expr N) → ExprTrees N
  exprs_of es = gathered (map view es)

  abbrev pub types_of : List (TypeName N) → TypeTrees N
  types_of ts = gathered_types (map view_type ts)

  abbrev pub specs_of : List (Spec N) → SpecTrees N
  specs_of ss = gathered_specs (map view_spec ss)

  abbrev pub members_of : List (Member N) → MemberTrees N
  members_of ms = gathered_members (map view_member ms)

  abbrev pub constants_of : List (Constant N) → ConstantTrees N
  constants_of cs = gathered_constants (map view_constant cs)

  abbrev pub declarators_of : List (Declarator N) → DeclTrees N
  declarators_of ds = gathered_declarators (map view_declarator ds)

  abbrev pub option_of : Option (Expr N) → ExprOption N
  option_of e = option_at (option_map view e)

  -- initialisers and declarations
  abbrev pub value_step : Value-F N (ValueTree N) → ValueTree N
  value_step (Value-F.Expr e) = single (view e)
  value_step (Value-F.List n vs trailing) = braces n (gathered_values vs) trailing

  abbrev pub view_value : Value N → ValueTree N
  view_value = fold-Value N (ValueTree N) value_step

  abbrev pub values_of : List (Value N) → ValueTrees N
  values_of vs = gathered_values (map view_value vs)

  abbrev pub view_init : Init N → InitTree N
  view_init i = init (view_declarator i.declarator) (option_map view_value i.value)

  abbrev pub view_declaration : Declaration N → DeclarationTree N
  view_declaration d = declaration d.note (specs_of d.specs) (map view_init d.inits)

  -- statements
  abbrev pub view_start : ForStart N → StartTree N
  view_start (first.Decl d) = start_declaration (view_declaration d)
  view_start (first.Expr e) = start_expr (view e)
  view_start first.Empty = no_start

  abbrev pub block_step : Block-F N (ItemTree N) (StmtTree N) (BlockTree N) → BlockTree N
  block_step b = block b.note (gathered_items b.items)

  abbrev pub item_step : Item-F N (ItemTree N) (StmtTree N) (BlockTree N) → ItemTree N
  item_step (Item-F.Decl d) = declares (view_declaration d)
  item_step (Item-F.Case n e) = case_label n (view e)
  item_step (Item-F.Default n) = default_label n
  item_step (Item-F.Stmt s) = does s

  abbrev pub stmt_step : Stmt-F N (ItemTree N) (StmtTree N) (BlockTree N) → StmtTree N
  stmt_step (Stmt-F.Block b) = compound b
  stmt_step (Stmt-F.Plain n e) = plain n (view e)
  stmt_step (Stmt-F.Empty n) = empty n
  stmt_step (Stmt-F.If n c s) = if_then n (view c) s
  stmt_step (Stmt-F.IfElse n c s o) = if_else n (view c) s o
  stmt_step (Stmt-F.Switch n e b) = switch n (view e) b
  stmt_step (Stmt-F.While n c s) = while_loop n (view c) s
  stmt_step (Stmt-F.Do n s c) = do_loop n s (view c)
  stmt_step (Stmt-F.For n start test each s) = for_loop n (view_start start) (option_map view test) (option_map view each) s
  stmt_step (Stmt-F.Break n) = break n
  stmt_step (Stmt-F.Continue n) = continue n
  stmt_step (Stmt-F.Return n e) = return n (option_map view e)

  abbrev pub view_stmt : Stmt N → StmtTree N
  view_stmt = fold-Stmt N (ItemTree N) (StmtTree N) (BlockTree N) item_step stmt_step block_step

  abbrev pub view_block : Block N → BlockTree N
  view_block = fold-Block N (ItemTree N) (StmtTree N) (BlockTree N) item_step stmt_step block_step

  abbrev pub view_item : Item N → ItemTree N
  view_item = fold-Item N (ItemTree N) (StmtTree N) (BlockTree N) item_step stmt_step block_step

  abbrev pub items_of : List (Item N) → ItemTrees N
  items_of is = gathered_items (map view_item is)

  -- files
  abbrev pub view_external : External N → ExternalTree N
  view_external (outer.Declaration d) = outer_declaration (view_declaration d)
  view_external (outer.Function f) = definition f.note (specs_of f.specs) (view_declarator f.declarator) (view_block f.body)

  abbrev pub view_file : FileTree N → List (ExternalTree N)
  view_file f = map view_external f.externals
