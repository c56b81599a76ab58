-- Statements.
use Rattle.std.specs.Prelude.{ℤ, Bool, true, false, not, is_some, List, [], ◌∷◌, ◌++◌, Option, Some, None, if◌then◌else◌}
use Rattle.cc_arith.specs.declared.kind.IntKind.{IntKind}
use Rattle.cc_tree.specs.Trees.{ExprTree, DeclarationTree, declaration, StartTree, start_declaration, start_expr, no_start, StmtTree, compound, plain, empty, if_then, if_else, switch, while_loop, do_loop, for_loop, break, continue, return, BlockTree, block, ItemTree, declares, case_label, default_label, does, ItemTrees, no_items, more_items}
use Rattle.cc_tree_notes.specs.declared.note.Counted.{Counted}
use Rattle.cc_types.specs.declared.shape.Shape.{Shape}
use Rattle.cc_types.specs.declared.shape.Shape.TheVariants as s
use Rattle.cc_types.specs.declared.shape.TypeId.{TypeId}
use Rattle.cc_types.specs.declared.expr_type.ExprType.{ExprType}
use Rattle.cc_types.specs.declared.expr_type.ExprType.TheVariants.{Plain}
use Rattle.cc_judging.specs.Asking.{promoted_in}
use Rattle.cc_declare.specs.declared.checker.Checker.{Checker}
use Rattle.cc_declare.specs.declared.enumerators.ConstantValue.{ConstantValue}
use Rattle.cc_declare.specs.declared.enumerators.ConstantValue.TheVariants.{Is}
use Rattle.cc_declare.specs.State.{entered, left, offended_if, shape_at}
use Rattle.cc_declare_cycle.specs.Declaring.{expression, constant_of}
use Rattle.cc_symbols.specs.declared.findings.Findings.{Findings}
use Rattle.cc_typing.specs.Checks.{scalar_checked, integer_checked, fit_checked}
use Rattle.cc_check.specs.declared.labels.Labels.{Labels}
use Rattle.cc_check.specs.declared.statements.CaseValue.{CaseValue}
use Rattle.cc_check.specs.declared.statements.Walk.{Walk}
use Rattle.cc_check.specs.declared.storage.Region.{Region}
use Rattle.cc_check.specs.declared.storage.Region.TheVariants.{Block, Clause}
use Rattle.cc_check.specs.Declarations.{declaration_walked}
use Rattle.cc_check.specs.Labelling.{no_labels, converted, value_added, with_values, default_added}

abbrev pub with_found : Checker → Findings → Checker
with_found c f = record c { found = f }

abbrev pub condition_judged : ExprTree Counted → Checker × Option ExprType → Checker
condition_judged e p = with_found p.0 (scalar_checked p.0.symbols e p.1 p.0.found)

-- a condition: C32
abbrev pub condition_walked : ExprTree Counted → Checker → Checker
condition_walked e c = condition_judged e (expression e c)

abbrev pub maybe_condition : Option (ExprTree Counted) → Checker → Checker
maybe_condition (Some e) c = condition_walked e c
maybe_condition None c = c

abbrev pub plain_walked : ExprTree Counted → Checker → Checker
plain_walked e c = (expression e c).0

abbrev pub maybe_plain : Option (ExprTree Counted) → Checker → Checker
maybe_plain (Some e) c = plain_walked e c
maybe_plain None c = c

abbrev pub placed : Region → DeclarationTree Counted → Checker → Checker
placed region d c = (declaration_walked region d c).0

abbrev pub note_of : DeclarationTree Counted → Counted
note_of (declaration n ss is) = n

abbrev pub misplaced_at : Counted → Checker × Bool → Checker
misplaced_at n p = offended_if p.0 p.1 n 29

-- a declaration of a switch's own block: C29
abbrev pub misplaced : DeclarationTree Counted → Checker → Checker
misplaced d c = misplaced_at (note_of d) (declaration_walked Block d c)

abbrev pub start_walked : StartTree Counted → Checker → Checker
start_walked (start_declaration d) c = placed Clause d c
start_walked (start_expr e) c = plain_walked e c
start_walked no_start c = c

abbrev pub is_void : Shape → Bool
is_void (s.Void is_const) = true
is_void a = false

-- C31 and C38 of a value that is returned where this is wanted
abbrev pub value_returned : Shape → Counted → ExprTree Counted → Option ExprType → Checker → Checker
value_returned a n e kind c =
    if is_void a then offended_if c (is_some kind) n 31
    else with_found c (fit_checked c.symbols (Some (Plain a)) e kind c.found)

abbrev pub returned_as : Option Shape → Counted → ExprTree Counted → Option ExprType → Checker → Checker
returned_as (Some a) n e kind c = value_returned a n e kind c
returned_as None n e kind c = c

abbrev pub returned_checked : Option TypeId → Counted → ExprTree Counted → Option ExprType → Checker → Checker
returned_checked r n e kind c = returned_as (shape_at c r) n e kind c

abbrev pub no_value_as : Option Shape → Counted → Checker → Checker
no_value_as (Some a) n c = offended_if c (not (is_void a)) n 31
no_value_as None n c = c

abbrev pub no_value_checked : Option TypeId → Counted → Checker → Checker
no_value_checked r n c = no_value_as (shape_at c r) n c

abbrev pub returning_as : Option TypeId → Counted → ExprTree Counted → Checker × Option ExprType → Checker
returning_as r n e p = returned_checked r n e p.1 p.0

abbrev pub returning : Option TypeId → Counted → ExprTree Counted → Checker → Checker
returning r n e c = returning_as r n e (expression e c)

abbrev pub leaving : Option TypeId → Counted → Option (ExprTree Counted) → Checker → Checker
leaving r n (Some e) c = returning r n e c
leaving r n None c = no_value_checked r n c

abbrev pub promoted : List Shape → Option ExprType → Option IntKind
promoted types (Some t) = promoted_in types t
promoted types None = None

abbrev pub asked_as : Counted → Checker × Option ExprType → Checker × Labels
asked_as n p = (with_found p.0 (integer_checked p.0.symbols n.spot p.1 p.0.found), no_labels (promoted p.0.symbols.types p.1))

-- what a switch asks, C32, and its labels, none as yet
abbrev pub asked : Counted → ExprTree Counted → Checker → Checker × Labels
asked n e c = asked_as n (expression e c)

abbrev pub Labelled : Type 0
Labelled = Walk × Labels

abbrev pub with_checker : Walk → Checker → Walk
with_checker w c = record { checker = c; cases = w.cases }

abbrev pub case_of : Counted → ℤ → CaseValue
case_of n v = record { node = n.number; value = v }

abbrev pub compared_as : Counted → ℤ → Labelled → List ℤ × Bool → Labelled
compared_as n v p q =
    (record { checker = offended_if p.0.checker (not q.1) n 30; cases = p.0.cases ++ case_of n v ∷ [] }, with_values p.1 q.0)

-- C30
abbrev pub compared : Counted → ℤ → Labelled → Labelled
compared n v p = compared_as n v p (value_added p.1.values v)

abbrev pub labelled : Counted → ConstantValue → Labelled → Labelled
labelled n (Is v) p = compared n (converted p.1 v) p
labelled n v p = p

abbrev pub case_as : Counted → Labelled → Checker × ConstantValue → Labelled
case_as n p q = labelled n q.1 (with_checker p.0 q.0, p.1)

-- a `case` of a switch's own block: C27 and C30
abbrev pub case_walked : Counted → ExprTree Counted → Labelled → Labelled
case_walked n e p = case_as n p (constant_of e p.0.checker)

abbrev pub stray_case : ExprTree Counted → Checker → Checker
stray_case e c = (constant_of e c).0

abbrev pub default_as : Counted → Walk → Labels × Bool → Labelled
default_as n w q = (with_checker w (offended_if w.checker (not q.1) n 30), q.0)

abbrev pub default_walked : Counted → Labelled → Labelled
default_walked n p = default_as n p.0 (default_added p.1)

abbrev pub on_checker : (Checker → Checker) → Walk → Walk
on_checker step w = with_checker w (step w.checker)

abbrev pub on_first : (Checker → Checker) → Labelled → Labelled
on_first step p = (on_checker step p.0, p.1)

abbrev mutual
  -- a statement of a function that gives this
  pub stmt_walked : Option TypeId → StmtTree Counted → Walk → Walk
  stmt_walked r (compound b) w = block_walked r b w
  stmt_walked r (plain n e) w = on_checker (plain_walked e) w
  stmt_walked r (empty n) w = w
  stmt_walked r (if_then n c a) w = stmt_walked r a (on_checker (condition_walked c) w)
  stmt_walked r (if_else n c a b) w = stmt_walked r b (stmt_walked r a (on_checker (condition_walked c) w))
  stmt_walked r (switch n e b) w = let p = asked n e w.checker in switch_walked r b (with_checker w p.0) p.1
  stmt_walked r (while_loop n c a) w = stmt_walked r a (on_checker (condition_walked c) w)
  stmt_walked r (do_loop n a c) w = on_checker (condition_walked c) (stmt_walked r a w)
  stmt_walked r (for_loop n start test each a) w =
      on_checker left (stmt_walked r a
      (on_checker (maybe_plain each) (on_checker (maybe_condition test) (on_checker (start_walked start) (on_checker entered w)))))
  stmt_walked r (break n) w = w
  stmt_walked r (continue n) w = w
  stmt_walked r (return n e) w = on_checker (leaving r n e) w

  pub block_walked : Option TypeId → BlockTree Counted → Walk → Walk
  block_walked r (block n is) w = on_checker left (items_walked r is (on_checker entered w))

  pub items_walked : Option TypeId → ItemTrees Counted → Walk → Walk
  items_walked r no_items w = w
  items_walked r (more_items i is) w = items_walked r is (item_walked r i w)

  pub item_walked : Option TypeId → ItemTree Counted → Walk → Walk
  item_walked r (declares d) w = on_checker (placed Block d) w
  item_walked r (case_label n e) w = on_checker (stray_case e) w
  item_walked r (default_label n) w = w
  item_walked r (does a) w = stmt_walked r a w

  -- the block of a switch that has no labels yet
  pub switch_walked : Option TypeId → BlockTree Counted → Walk → Labels → Walk
  switch_walked r (block n is) w l = on_checker left (switch_items r is (on_checker entered w, l)).0

  pub switch_items : Option TypeId → ItemTrees Counted → Labelled → Labelled
  switch_items r no_items p = p
  switch_items r (more_items i is) p = switch_items r is (switch_item r i p)

  pub switch_item : Option TypeId → ItemTree Counted → Labelled → Labelled
  switch_item r (declares d) p = on_first (misplaced d) p
  switch_item r (case_label n e) p = case_walked n e p
  switch_item r (default_label n) p = default_walked n p
  switch_item r (does a) p = (stmt_walked r a p.0, p.1)

-- the items of a block, whose beginning and end are others'
abbrev pub inside : Option TypeId → BlockTree Counted → Walk → Walk
inside r (block n is) w = items_walked r is w
