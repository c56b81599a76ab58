-- What it is that an arena holds a tree: each node stands at its number with its parent and its place, and with its list where
-- its parts are one. A clause for each kind.
use Rattle.std.specs.Prelude.{ℕ, ◌≤◌, ◌≡◌, List, [], ◌∷◌, Option, Some, None, length, slice_get, slice_range}
use Rattle.cc_base.specs.declared.place.Spot.{Spot}
use Rattle.cc_tree.specs.Trees.{ExprTree, name, integer, character, string, paren, unary, binary, assign, step, choice, comma, call, member, arrow, index, cast, size_expr, size_type, ExprTrees, no_exprs, more_exprs, ExprOption, no_expr, an_expr, TypeTree, type_name, TypeTrees, no_types, more_types, SpecTree, word, named, struct, enum, SpecTrees, no_specs, more_specs, MemberTree, members, MemberTrees, no_members, more_members, ConstantTree, constant, ConstantTrees, no_constants, more_constants, DeclTree, declared, nameless, pointer, array, function, grouped, DeclTrees, no_declarators, more_declarators}
use Rattle.cc_tree.specs.Trees.{ValueTree, single, braces, ValueTrees, no_values, more_values, InitTree, init, DeclarationTree, declaration, StartTree, start_declaration, start_expr, no_start, StmtTree, compound, plain, empty, if_then, if_else, switch, while_loop, do_loop, for_loop, break, continue, return, BlockTree, block, ItemTree, declares, case_label, default_label, does, ItemTrees, no_items, more_items, ExternalTree, outer_declaration, definition}
use Rattle.cc_tree_notes.specs.Numbering.{numbered_file}
use Rattle.cc_tree_notes.specs.declared.note.Counted.{Counted}
use Rattle.cc_arena.specs.declared.arena.Arena.{Arena}
use Rattle.cc_arena.specs.declared.arena.Placed.{Placed}
use Rattle.cc_arena.specs.declared.node.Node.{Node}
use Rattle.cc_arena.specs.declared.node.Node.TheVariants as node
use Rattle.cc_arena.specs.declared.node.Span.{Span}
use Rattle.cc_arena_fill.specs.Numbers.{joined, number_of, numbers_of, option_number, clause_number, type_number, type_numbers, member_numbers, constant_numbers, declarator_number, declarator_numbers, name_number, value_numbers, given_number, init_numbers, declaration_number, start_number, block_number, stmt_number, item_numbers}

-- at the note's number stands this node, at the note's place, a part of the one at `up`
pub record Stands (A : Arena) (up : ℕ) (n : Counted) (what : Node) : Type 0 where
  pub at : slice_get A.nodes n.number ≡ Some (record { node = what; parent = up; spot = n.spot })

-- in this stretch of the list stands this
pub record HasStretch (all : List ℕ) (s : Span) (xs : List ℕ) : Type 0 where
  pub ordered : s.start ≤ s.end
  pub within : s.end ≤ length all
  pub is : slice_range all s.start s.end ≡ xs

-- so does a node whose parts are a list
pub record StandsWithList (A : Arena) (up : ℕ) (n : Counted) (what : Span → Node) (xs : List ℕ) : Type 0 where
  pub span : Span
  pub stands : Stands A up n (what span)
  pub list : HasStretch A.lists span xs

-- and one that has bytes
pub record StandsWithBytes (A : Arena) (up : ℕ) (n : Counted) (what : Span → Node) (xs : List ℕ) : Type 0 where
  pub span : Span
  pub stands : Stands A up n (what span)
  pub bytes : HasStretch A.bytes span xs

abbrev mutual
  pub Holds : Arena → ℕ → ExprTree Counted → Type 0
  Holds A up (name n x) = Stands A up n node.Name
  Holds A up (integer n v k) = Stands A up n (node.Int v k)
  Holds A up (character n v) = Stands A up n (node.Char v)
  Holds A up (string n ss) = StandsWithBytes A up n node.Str (joined ss)
  Holds A up (paren n e) = Stands A up n (node.Paren (number_of e)) × Holds A n.number e
  Holds A up (unary n op e) = Stands A up n (node.Unary op (number_of e)) × Holds A n.number e
  Holds A up (binary n op a b) = Stands A up n (node.Binary op (number_of a) (number_of b)) × (Holds A n.number a × Holds A n.number b)
  Holds A up (assign n op a b) = Stands A up n (node.Assign op (number_of a) (number_of b)) × (Holds A n.number a × Holds A n.number b)
  Holds A up (step n op side e) = Stands A up n (node.Step op side (number_of e)) × Holds A n.number e
  Holds A up (choice n c a b) = Stands A up n (node.Cond (number_of c) (number_of a) (number_of b)) × (Holds A n.number c × (Holds A n.number a × Holds A n.number b))
  Holds A up (comma n a b) = Stands A up n (node.Comma (number_of a) (number_of b)) × (Holds A n.number a × Holds A n.number b)
  Holds A up (call n f es) = StandsWithList A up n (node.Call (number_of f)) (numbers_of es) × (Holds A n.number f × HoldsExprs A n.number es)
  Holds A up (member n e x) = Stands A up n (node.Member (number_of e)) × Holds A n.number e
  Holds A up (arrow n e x) = Stands A up n (node.Arrow (number_of e)) × Holds A n.number e
  Holds A up (index n a i) = Stands A up n (node.Index (number_of a) (number_of i)) × (Holds A n.number a × Holds A n.number i)
  Holds A up (cast n t e) = Stands A up n (node.Cast (type_number t) (number_of e)) × (HoldsType A n.number t × Holds A n.number e)
  Holds A up (size_expr n e) = Stands A up n (node.SizeExpr (number_of e)) × Holds A n.number e
  Holds A up (size_type n t) = Stands A up n (node.SizeType (type_number t)) × HoldsType A n.number t

  pub HoldsExprs : Arena → ℕ → ExprTrees Counted → Type 0
  HoldsExprs A up no_exprs = Unit {0}
  HoldsExprs A up (more_exprs e es) = Holds A up e × HoldsExprs A up es

  pub HoldsOption : Arena → ℕ → ExprOption Counted → Type 0
  HoldsOption A up no_expr = Unit {0}
  HoldsOption A up (an_expr e) = Holds A up e

  pub HoldsType : Arena → ℕ → TypeTree Counted → Type 0
  HoldsType A up (type_name n ss d) = Stands A up n (node.TypeName (declarator_number d)) × (HoldsSpecs A n.number ss × HoldsDeclarator A None n.number d)

  pub HoldsTypes : Arena → ℕ → TypeTrees Counted → Type 0
  HoldsTypes A up no_types = Unit {0}
  HoldsTypes A up (more_types t ts) = HoldsType A up t × HoldsTypes A up ts

  pub HoldsSpec : Arena → ℕ → SpecTree Counted → Type 0
  HoldsSpec A up (word n w) = Stands A up n (node.Word w)
  HoldsSpec A up (named n x) = Stands A up n node.Named
  HoldsSpec A up (struct n tag ms) = StandsWithList A up n node.Struct (member_numbers ms) × HoldsMembers A n.number ms
  HoldsSpec A up (enum n tag cs trailing) = StandsWithList A up n node.Enum (constant_numbers cs) × HoldsConstants A n.number cs

  pub HoldsSpecs : Arena → ℕ → SpecTrees Counted → Type 0
  HoldsSpecs A up no_specs = Unit {0}
  HoldsSpecs A up (more_specs s ss) = HoldsSpec A up s × HoldsSpecs A up ss

  pub HoldsMember : Arena → ℕ → MemberTree Counted → Type 0
  HoldsMember A up (members n ss ds) = StandsWithList A up n node.Members (declarator_numbers ds) × (HoldsSpecs A n.number ss × HoldsDeclarators A n.number ds)

  pub HoldsMembers : Arena → ℕ → MemberTrees Counted → Type 0
  HoldsMembers A up no_members = Unit {0}
  HoldsMembers A up (more_members m ms) = HoldsMember A up m × HoldsMembers A up ms

  pub HoldsConstant : Arena → ℕ → ConstantTree Counted → Type 0
  HoldsConstant A up (constant n x e) = Stands A up n (node.Constant (option_number e)) × HoldsOption A n.number e

  pub HoldsConstants : Arena → ℕ → ConstantTrees Counted → Type 0
  HoldsConstants A up no_constants = Unit {0}
  HoldsConstants A up (more_constants c cs) = HoldsConstant A up c × HoldsConstants A up cs

  -- the number before `up` is that of the declarator's initialiser, which its name's node says
  pub HoldsDeclarator : Arena → Option ℕ → ℕ → DeclTree Counted → Type 0
  HoldsDeclarator A given up (declared n x) = Stands A up n (node.Declared given)
  HoldsDeclarator A given up nameless = Unit {0}
  HoldsDeclarator A given up (pointer n k d) = Stands A up n (node.Pointer (declarator_number d)) × HoldsDeclarator A given n.number d
  HoldsDeclarator A given up (array n d length) = Stands A up n (node.Array (declarator_number d) (option_number length)) × (HoldsDeclarator A given n.number d × HoldsOption A n.number length)
  HoldsDeclarator A given up (function n d ps) = StandsWithList A up n (node.Function (declarator_number d)) (type_numbers ps) × (HoldsDeclarator A given n.number d × HoldsTypes A n.number ps)
  HoldsDeclarator A given up (grouped n d) = Stands A up n (node.Group (declarator_number d)) × HoldsDeclarator A given n.number d

  pub HoldsDeclarators : Arena → ℕ → DeclTrees Counted → Type 0
  HoldsDeclarators A up no_declarators = Unit {0}
  HoldsDeclarators A up (more_declarators d ds) = HoldsDeclarator A None up d × HoldsDeclarators A up ds

abbrev mutual
  pub HoldsValue : Arena → ℕ → ValueTree Counted → Type 0
  HoldsValue A up (single e) = Holds A up e
  HoldsValue A up (braces n vs trailing) = StandsWithList A up n node.Braces (value_numbers vs) × HoldsValues A n.number vs

  pub HoldsValues : Arena → ℕ → ValueTrees Counted → Type 0
  HoldsValues A up no_values = Unit {0}
  HoldsValues A up (more_values v vs) = HoldsValue A up v × HoldsValues A up vs

abbrev pub HoldsGiven : Arena → ℕ → Option (ValueTree Counted) → Type 0
HoldsGiven A up None = Unit {0}
HoldsGiven A up (Some v) = HoldsValue A up v

-- an initialiser is a part of the name of its declarator
abbrev pub HoldsInit : Arena → ℕ → InitTree Counted → Type 0
HoldsInit A up (init d v) = HoldsDeclarator A (given_number v) up d × HoldsGiven A (name_number d up) v

abbrev pub HoldsInits : Arena → ℕ → List (InitTree Counted) → Type 0
HoldsInits A up [] = Unit {0}
HoldsInits A up (i ∷ is) = HoldsInit A up i × HoldsInits A up is

abbrev pub HoldsDeclaration : Arena → ℕ → DeclarationTree Counted → Type 0
HoldsDeclaration A up (declaration n ss is) = StandsWithList A up n node.Declaration (init_numbers is) × (HoldsSpecs A n.number ss × HoldsInits A n.number is)

abbrev pub HoldsStart : Arena → ℕ → StartTree Counted → Type 0
HoldsStart A up (start_declaration d) = HoldsDeclaration A up d
HoldsStart A up (start_expr e) = Holds A up e
HoldsStart A up no_start = Unit {0}

abbrev pub HoldsClause : Arena → ℕ → Option (ExprTree Counted) → Type 0
HoldsClause A up None = Unit {0}
HoldsClause A up (Some e) = Holds A up e

abbrev mutual
  pub HoldsStmt : Arena → ℕ → StmtTree Counted → Type 0
  HoldsStmt A up (compound b) = HoldsBlock A up b
  HoldsStmt A up (plain n e) = Stands A up n (node.Plain (number_of e)) × Holds A n.number e
  HoldsStmt A up (empty n) = Stands A up n node.Empty
  HoldsStmt A up (if_then n c s) = Stands A up n (node.If (number_of c) (stmt_number s)) × (Holds A n.number c × HoldsStmt A n.number s)
  HoldsStmt A up (if_else n c s o) = Stands A up n (node.IfElse (number_of c) (stmt_number s) (stmt_number o)) × (Holds A n.number c × (HoldsStmt A n.number s × HoldsStmt A n.number o))
  HoldsStmt A up (switch n e b) = Stands A up n (node.Switch (number_of e) (block_number b)) × (Holds A n.number e × HoldsBlock A n.number b)
  HoldsStmt A up (while_loop n c s) = Stands A up n (node.While (number_of c) (stmt_number s)) × (Holds A n.number c × HoldsStmt A n.number s)
  HoldsStmt A up (do_loop n s c) = Stands A up n (node.Do (stmt_number s) (number_of c)) × (HoldsStmt A n.number s × Holds A n.number c)
  HoldsStmt A up (for_loop n start test each s) =
      Stands A up n (node.For (start_number start) (clause_number test) (clause_number each) (stmt_number s))
      × (HoldsStart A n.number start × (HoldsClause A n.number test × (HoldsClause A n.number each × HoldsStmt A n.number s)))
  HoldsStmt A up (break n) = Stands A up n node.Break
  HoldsStmt A up (continue n) = Stands A up n node.Continue
  HoldsStmt A up (return n e) = Stands A up n (node.Return (clause_number e)) × HoldsClause A n.number e

  pub HoldsBlock : Arena → ℕ → BlockTree Counted → Type 0
  HoldsBlock A up (block n is) = StandsWithList A up n node.Block (item_numbers is) × HoldsItems A n.number is

  pub HoldsItem : Arena → ℕ → ItemTree Counted → Type 0
  HoldsItem A up (declares d) = HoldsDeclaration A up d
  HoldsItem A up (case_label n e) = Stands A up n (node.Case (number_of e)) × Holds A n.number e
  HoldsItem A up (default_label n) = Stands A up n node.Default
  HoldsItem A up (does s) = HoldsStmt A up s

  pub HoldsItems : Arena → ℕ → ItemTrees Counted → Type 0
  HoldsItems A up no_items = Unit {0}
  HoldsItems A up (more_items i is) = HoldsItem A up i × HoldsItems A up is

abbrev pub HoldsExternal : Arena → ExternalTree Counted → Type 0
HoldsExternal A (outer_declaration d) = HoldsDeclaration A (declaration_number d) d
HoldsExternal A (definition n ss d b) = Stands A n.number n (node.Definition (declarator_number d) (block_number b)) × (HoldsSpecs A n.number ss × (HoldsDeclarator A None n.number d × HoldsBlock A n.number b))

abbrev pub HoldsFile : Arena → List (ExternalTree Counted) → Type 0
HoldsFile A [] = Unit {0}
HoldsFile A (x ∷ xs) = HoldsExternal A x × HoldsFile A xs

-- what stands in one arena stands in the other
pub record Keeps (A B : Arena) : Type 0 where
  pub nodes : (k : ℕ) (x : Placed) → slice_get A.nodes k ≡ Some x → slice_get B.nodes k ≡ Some x
  pub lists : (s : Span) (xs : List ℕ) → HasStretch A.lists s xs → HasStretch B.lists s xs
  pub bytes : (s : Span) (xs : List ℕ) → HasStretch A.bytes s xs → HasStretch B.bytes s xs

-- the second arena holds the file and what the first had, and its nodes end before the number `next`
pub record IsHeld (A B : Arena) (file : List (ExternalTree Counted)) (next : ℕ) : Type 0 where
  pub holds : HoldsFile B file
  pub keeps : Keeps A B
  pub long : length B.nodes ≡ next

-- where the file is numbered from the first arena's count on, up to `next`, the second one holds it
abbrev pub HoldsIfNumbered : Arena → Arena → List (ExternalTree Counted) → Type 0
HoldsIfNumbered A B file = (tree : List (ExternalTree Spot)) (next : ℕ) → (file, next) ≡ numbered_file tree (length A.nodes) → IsHeld A B file next
