-- Parameters (C17 6.7.6.3).
use Rattle.std.specs.Prelude.{ℕ, Bool, true, false, ◌&&◌, Option, Some, None, List, slice_get}
use Rattle.cc_symbols.specs.declared.declared.Declared.{Declared}
use Rattle.cc_symbols.specs.declared.declared.Form.TheVariants.{Object}
use Rattle.cc_symbols.specs.declared.declared.Life.TheVariants.{Parameter}
use Rattle.cc_symbols.specs.declared.declared.Linkage.TheVariants.{Without}
use Rattle.cc_tree.specs.Trees.{TypeTree, type_name, TypeTrees, no_types, more_types}
use Rattle.cc_tree_notes.specs.declared.note.Counted.{Counted}
use Rattle.cc_types.specs.Interning as interning
use Rattle.cc_types.specs.declared.shape.TypeId.{TypeId}
use Rattle.cc_declare.specs.declared.checker.Checker.{Checker}
use Rattle.cc_declare.specs.declared.shaped.Formed.{Formed}
use Rattle.cc_declare.specs.declared.specifiers.Specified.{Specified}
use Rattle.cc_declare.specs.Declaring.{declared_once, formal_declared}
use Rattle.cc_declare.specs.Naming.{name_in, is_lone_unnamed}
use Rattle.cc_declare.specs.Objects.{object_judged, plain_specifiers}
use Rattle.cc_declare.specs.Shapes.{is_void_type}
use Rattle.cc_declare.specs.Specifying.{some_as}
use Rattle.cc_declare.specs.State.{with_kind_at}

-- the type of a parameter that is declared with this type
abbrev pub adjusted_if : Checker → Option TypeId → Checker × Option TypeId
adjusted_if s (Some t) = some_as s (interning.adjusted s.symbols.types t)
adjusted_if s None = (s, None)

abbrev pub parameter_declared : Checker → Counted → Option TypeId → Declared
parameter_declared s n t = record {
  form = Object Parameter;
  linkage = Without;
  kind = t;
  node = n.number;
  file = s.file;
  is_defined = true;
}

abbrev pub parameter_introduced : Checker → Counted → List ℕ → Formed → Checker
parameter_introduced s n x d = (declared_once s n x d.is_judged (parameter_declared s n d.kind)).0

-- a parameter with a name
abbrev pub parameter_named : Option (Counted × List ℕ) → Formed → Checker → Checker
parameter_named (Some x) d s = parameter_introduced (object_judged s x.0 d true) x.0 x.1 d
parameter_named None d s = s

abbrev pub parameter_as : Option (Counted × List ℕ) → Counted → Bool → Checker × Option TypeId → Checker × Option TypeId
parameter_as x n is_judged p =
    (parameter_named x (record { kind = p.1; is_judged = is_judged }) (with_kind_at p.0 n.number p.1), p.1)

-- a parameter, by its specifiers and its declarator, and its type
abbrev pub parameter_made : Option (Counted × List ℕ) → Counted → Specified → Formed → Checker → Checker × Option TypeId
parameter_made x n p d s =
    parameter_as x n d.is_judged (adjusted_if (plain_specifiers s n p d.is_judged) d.kind)

abbrev pub is_void_at : Checker → Option (Option TypeId) → Bool
is_void_at s (Some t) = is_void_type s t
is_void_at s None = false

-- the parameter of this node is void
abbrev pub is_void_parameter : Checker → Counted → Bool
is_void_parameter s n = is_void_at s (slice_get s.symbols.kinds n.number)

abbrev pub is_void_first : Checker → TypeTree Counted → Bool
is_void_first s (type_name n ss d) = is_void_parameter s n

-- parameters are one void alone, without a name
abbrev pub is_void_list : Checker → TypeTrees Counted → Bool
is_void_list s (more_types t no_types) = is_lone_unnamed (more_types t no_types) && is_void_first s t
is_void_list s ts = false

abbrev pub formal_named : Checker → Option (Counted × List ℕ) → Checker
formal_named s (Some x) = formal_declared s x.0 x.1
formal_named s None = s

-- a parameter of a body
abbrev pub formal_of : Checker → TypeTree Counted → Checker
formal_of s (type_name n ss d) = formal_named s (name_in d)

abbrev pub formals_declared : TypeTrees Counted → Checker → Checker
formals_declared no_types s = s
formals_declared (more_types t ts) s = formals_declared ts (formal_of s t)
