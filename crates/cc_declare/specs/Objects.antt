-- What objects and members may be.
use Rattle.std.specs.Prelude.{Bool, not, ◌&&◌, ◌||◌, Option, Some, None, if◌then◌else◌}
use Rattle.cc_tree_notes.specs.declared.note.Counted.{Counted}
use Rattle.cc_types.specs.Interning.{shape_of}
use Rattle.cc_types.specs.declared.shape.Shape.{Shape}
use Rattle.cc_types.specs.declared.shape.TypeId.{TypeId}
use Rattle.cc_declare.specs.declared.checker.Checker.{Checker}
use Rattle.cc_declare.specs.declared.shaped.Formed.{Formed}
use Rattle.cc_declare.specs.declared.specifiers.Specified.{Specified}
use Rattle.cc_declare.specs.declared.specifiers.Storage.{Storage}
use Rattle.cc_declare.specs.Naming.{is_some}
use Rattle.cc_declare.specs.Rules as rule
use Rattle.cc_declare.specs.Shapes.{is_no_object, lacks_length, has_too_many_cells}
use Rattle.cc_declare.specs.State.{offended, offended_if}

abbrev pub shape_judged : Checker → Counted → Shape → Bool → Checker
shape_judged s n a may_lack_length =
    offended_if (offended_if s (is_no_object s a) n rule.object_type) (lacks_length a && not may_lack_length || has_too_many_cells s a) n rule.array_size

abbrev pub object_of : Checker → Counted → TypeId → Bool → Checker
object_of s n t may_lack_length = shape_judged s n (shape_of s.symbols.types t) may_lack_length

abbrev pub object_if : Checker → Counted → Option TypeId → Bool → Checker
object_if s n (Some t) may_lack_length = object_of s n t may_lack_length
object_if s n None may_lack_length = s

-- a declarator gives an object or a member this type, where it is judged
abbrev pub object_judged : Checker → Counted → Formed → Bool → Checker
object_judged s n d may_lack_length = if d.is_judged then object_if s n d.kind may_lack_length else s

-- no storage class may stand here
abbrev pub no_storage : Checker → Option Storage → Checker
no_storage s (Some x) = offended s x.note rule.storage_class
no_storage s None = s

-- no `inline` may stand in the declaration of this node, where it is judged
abbrev pub no_inline : Checker → Counted → Option Counted → Bool → Checker
no_inline s n x is_judged = offended_if s (is_judged && is_some x) n rule.inline

-- the specifiers of members or of a parameter at this node, whose declarators are judged or not
abbrev pub plain_specifiers : Checker → Counted → Specified → Bool → Checker
plain_specifiers s n p is_judged = no_inline (no_storage s p.storage) n p.inline is_judged
