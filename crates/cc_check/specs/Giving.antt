-- What initialisers give: names and types of their expressions, lengths of arrays, and what breaks a rule.
use Rattle.std.specs.Prelude.{ℕ, Bool, true, false, ◌&&◌, ◌||◌, List, Option, Some, None}
use Rattle.cc_tree.specs.Trees.{ExprOption, no_expr, an_expr, DeclTree, declared, nameless, pointer, array, function, grouped, ValueTree, single, braces, ValueTrees, no_values, more_values}
use Rattle.cc_tree_notes.specs.declared.note.Counted.{Counted}
use Rattle.cc_types.specs.declared.shape.Shape.{Shape}
use Rattle.cc_types.specs.declared.shape.Shape.TheVariants as s
use Rattle.cc_types.specs.declared.shape.TypeId.{TypeId}
use Rattle.cc_types.specs.Interning.{shape_of, interned}
use Rattle.cc_symbols.specs.declared.declared.Form.{Form}
use Rattle.cc_symbols.specs.declared.declared.Form.TheVariants.{Object, Function}
use Rattle.cc_symbols.specs.declared.declared.Life.{Life}
use Rattle.cc_symbols.specs.declared.declared.Life.TheVariants.{Static}
use Rattle.cc_declare.specs.declared.checker.Checker.{Checker}
use Rattle.cc_declare.specs.Naming.{is_nearest}
use Rattle.cc_declare.specs.State.{shape_at, with_types}
use Rattle.cc_declare_cycle.specs.Declaring.{expression}
use Rattle.cc_check_values.specs.Typed.{is_typed}
use Rattle.cc_check_values.specs.Lengths.{told_length}
use Rattle.cc_check_values.specs.Shaping.{value_checked}

-- names and types of the expressions
abbrev mutual
  pub value_walked : ValueTree Counted → Checker → Checker
  value_walked (single e) c = (expression e c).0
  value_walked (braces n vs trailing) c = values_walked vs c

  pub values_walked : ValueTrees Counted → Checker → Checker
  values_walked no_values c = c
  values_walked (more_values v vs) c = values_walked vs (value_walked v c)

abbrev pub asked_typed : ValueTree Counted → Checker → Checker × Bool
asked_typed v c = (c, is_typed c.found v)

-- and whether all have types
abbrev pub given : Option (ValueTree Counted) → Checker → Checker × Bool
given (Some v) c = asked_typed v (value_walked v c)
given None c = (c, true)

abbrev pub made : Checker → List Shape × TypeId → Checker × TypeId
made c p = (with_types c p.0, p.1)

abbrev pub shape_with_length : TypeId → ℕ → Shape → Checker → Checker × TypeId
shape_with_length kind n (s.Array k t m) c = made c (interned c.symbols.types (s.Array k t (Some n)))
shape_with_length kind n a c = (c, kind)

-- an array's type with this length
abbrev pub with_length : TypeId → ℕ → Checker → Checker × TypeId
with_length kind n c = shape_with_length kind n (shape_of c.symbols.types kind) c

abbrev pub with_told : TypeId → Option ℕ → Checker → Checker × TypeId
with_told kind (Some n) c = with_length kind n c
with_told kind None c = (c, kind)

-- the type of an object that begins with this
abbrev pub completed : TypeId → ValueTree Counted → Checker → Checker × TypeId
completed kind v c = with_told kind (told_length c.symbols (shape_of c.symbols.types kind) v) c

abbrev pub some_type : Checker × TypeId → Checker × Option TypeId
some_type p = (p.0, Some p.1)

abbrev pub completed_type : Form → Option TypeId → Option (ValueTree Counted) → Checker → Checker × Option TypeId
completed_type (Object life) (Some kind) (Some v) c = some_type (completed kind v c)
completed_type f kind v c = (c, kind)

abbrev pub life_of : Form → Option Life
life_of (Object life) = Some life
life_of Function = Some Static
life_of f = None

abbrev pub checked_by : Option Life → Option Shape → Option (ValueTree Counted) → Checker → Checker
checked_by (Some life) (Some a) (Some v) c = record c { found = value_checked c.symbols life a v c.found }
checked_by life a v c = c

-- what the initialiser breaks of something of this form and type
abbrev pub given_checked : Form → Option TypeId → Option (ValueTree Counted) → Checker → Checker
given_checked f kind v c = checked_by (life_of f) (shape_at c kind) v c

abbrev pub is_missing : ExprOption Counted → Bool
is_missing no_expr = true
is_missing (an_expr e) = false

-- the form nearest to the name is an array without a length
abbrev pub lacks_length : DeclTree Counted → Bool
lacks_length (array n d e) = is_missing e && is_nearest d || lacks_length d
lacks_length (pointer n k d) = lacks_length d
lacks_length (function n d ps) = lacks_length d
lacks_length (grouped n d) = lacks_length d
lacks_length (declared n x) = false
lacks_length nameless = false
