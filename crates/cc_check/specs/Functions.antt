-- Functions with bodies.
use Rattle.std.specs.Prelude.{ℕ, zero, suc, Bool, true, false, not, ◌&&◌, ◌||◌, List, Option, Some, None}
use Rattle.cc_tree.specs.Trees.{Name, SpecTrees, DeclTree, TypeTrees, BlockTree}
use Rattle.cc_tree_notes.specs.declared.note.Counted.{Counted}
use Rattle.cc_types.specs.declared.shape.Shape.{Shape}
use Rattle.cc_types.specs.declared.shape.Shape.TheVariants as s
use Rattle.cc_types.specs.declared.shape.TypeId.{TypeId}
use Rattle.cc_types.specs.Interning.{shape_of}
use Rattle.cc_symbols.specs.declared.declared.Declared.{Declared}
use Rattle.cc_symbols.specs.declared.declared.Form.{Form}
use Rattle.cc_symbols.specs.declared.unit.Role.TheVariants.{Defines}
use Rattle.cc_declare.specs.declared.checker.Checker.{Checker}
use Rattle.cc_declare.specs.declared.shaped.Formed.{Formed}
use Rattle.cc_declare.specs.declared.specifiers.Setting.TheVariants as at
use Rattle.cc_declare.specs.declared.specifiers.Specified.{Specified}
use Rattle.cc_declare.specs.Naming.{name_in, formals_in, has_unnamed}
use Rattle.cc_declare.specs.Parameters.{is_void_list, formals_declared}
use Rattle.cc_declare.specs.State.{entered, left, offended_if, shape_at}
use Rattle.cc_declare_cycle.specs.Declaring.{declarator, specifiers}
use Rattle.cc_check.specs.declared.statements.Walk.{Walk}
use Rattle.cc_check.specs.declared.storage.Region.TheVariants.{File}
use Rattle.cc_check.specs.Storing.{form, is_typedef, word_of, inline_checked, judged_declarator}
use Rattle.cc_check.specs.Outers.{outer_declared, declared_linked, outer_kept}
use Rattle.cc_check.specs.Statements.{on_checker, with_checker, inside}

abbrev pub is_short_of_names : Checker → TypeTrees Counted → Bool
is_short_of_names c ps = not (is_void_list c ps) && has_unnamed ps

abbrev pub lacks_head : Checker → Option (TypeTrees Counted) → Bool
lacks_head c (Some ps) = is_short_of_names c ps
lacks_head c None = true

abbrev pub is_no_head : Checker → DeclTree Counted → Bool
is_no_head c d = lacks_head c (formals_in d)

-- C23
abbrev pub head_checked : Counted → Specified → Formed → DeclTree Counted → Checker → Checker
head_checked n said formed d c =
    offended_if c (formed.is_judged && (is_typedef (word_of said) || is_no_head c d)) n 23

abbrev pub head_kept : Counted → Declared → Checker × ℕ → Checker
head_kept n d p = outer_kept n p.1 d Defines p.0

abbrev pub head_as : Counted → Name → Formed → Declared → Checker → Checker
head_as n x formed d c = head_kept n d (declared_linked n x formed.is_judged d c)

abbrev pub head_declared : Counted → Name → Specified → Form → Formed → Checker → Checker
head_declared n x said f formed c = head_as n x formed (outer_declared n x (word_of said) f formed.kind true c) c

abbrev pub named_declared : Option (Counted × Name) → Specified → Form → Formed → Checker → Checker
named_declared (Some x) said f formed c = head_declared x.0 x.1 said f formed c
named_declared None said f formed c = c

abbrev pub head_ruled : Counted → Specified → DeclTree Counted → Form → Formed → Checker → Checker × Option TypeId
head_ruled n said d f formed c = (
  named_declared (name_in d) said f formed
      (inline_checked n said (judged_declarator formed f true) (head_checked n said formed d c)),
  formed.kind,
)

abbrev pub head_formed : Counted → DeclTree Counted → Specified → Checker × Formed → Checker × Option TypeId
head_formed n d said p = head_ruled n said d (form File (word_of said) (shape_at p.0 p.1.kind)) p.1 p.0

abbrev pub head_said : Counted → DeclTree Counted → Checker × Specified → Checker × Option TypeId
head_said n d p = head_formed n d p.1 (declarator p.1.kind true d p.0)

-- the rules on what has a body, its declaration and its type
abbrev pub head : Counted → SpecTrees Counted → DeclTree Counted → Checker → Checker × Option TypeId
head n ss d c = head_said n d (specifiers at.File n ss c)

-- what stands behind the first parameter
abbrev pub rest_of : TypeId → Shape → TypeId
rest_of t (s.Takes p f) = f
rest_of t a = t

abbrev pub returned_step : Shape → Option TypeId → Option TypeId
returned_step (s.Takes p f) rest = rest
returned_step (s.Function t) rest = Some t
returned_step a rest = None

-- what a function gives, behind fewer than so many parameters
abbrev pub returned_in : List Shape → ℕ → TypeId → Option TypeId
returned_in types zero t = None
returned_in types (suc m) t = returned_step (shape_of types t) (returned_in types m (rest_of t (shape_of types t)))

abbrev pub returned_by_type : List Shape → TypeId → Option TypeId
returned_by_type types t = returned_in types t.0 t

abbrev pub returned_by : List Shape → Option TypeId → Option TypeId
returned_by types (Some t) = returned_by_type types t
returned_by types None = None

abbrev pub formals_in_body : Option (TypeTrees Counted) → Checker → Checker
formals_in_body (Some ps) c = formals_declared ps c
formals_in_body None c = c

abbrev pub body_walked : DeclTree Counted → BlockTree Counted → Walk → Checker × Option TypeId → Walk
body_walked d b w p =
    on_checker left (inside (returned_by p.0.symbols.types p.1) b
    (on_checker (formals_in_body (formals_in d)) (on_checker entered (with_checker w p.0))))

-- its formals and the names of the body's block are in one scope
abbrev pub function_walked : Counted → SpecTrees Counted → DeclTree Counted → BlockTree Counted → Walk → Walk
function_walked n ss d b w = body_walked d b w (head n ss d w.checker)
