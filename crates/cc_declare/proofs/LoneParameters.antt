-- Of two parameters or more none is alone.
use Rattle.std.proofs.Common.{◌≡◌, ◌≤◌, length, false, List, [], ◌∷◌, refl, arith}
use Rattle.cc_tree.specs.Views.{types_of}
use Rattle.cc_tree.specs.declared.expr.TypeName.{TypeName}
use Rattle.cc_tree_notes.specs.declared.note.Counted.{Counted}
use Rattle.cc_declare.specs.declared.checker.Checker.{Checker}
use Rattle.cc_declare.specs.Naming.{is_lone_unnamed}
use Rattle.cc_declare.specs.Parameters.{is_void_list}

pub several : (ps : List (TypeName Counted)) → 2 ≤ length ps → false ≡ is_lone_unnamed (types_of ps)
several [] h = absurd (omega arith)
several (p ∷ []) h = absurd (omega arith)
several (p ∷ q ∷ ps) h = refl

pub several_not_void : (s : Checker) (ps : List (TypeName Counted)) → 2 ≤ length ps → false ≡ is_void_list s (types_of ps)
several_not_void s [] h = absurd (omega arith)
several_not_void s (p ∷ []) h = absurd (omega arith)
several_not_void s (p ∷ q ∷ ps) h = refl
