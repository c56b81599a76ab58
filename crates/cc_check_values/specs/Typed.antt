-- Which initialisers have types.
use Rattle.std.specs.Prelude.{ℕ, Bool, true, ◌&&◌, is_some, if◌then◌else◌, List, Option, Some, None, slice_get}
use Rattle.cc_tree.specs.Trees.{ExprTree, ValueTree, single, braces, ValueTrees, no_values, more_values}
use Rattle.cc_tree_notes.specs.declared.note.Counted.{Counted}
use Rattle.cc_tree_walks.specs.Notes.{expr_note, value_note}
use Rattle.cc_types.specs.declared.expr_type.ExprType.{ExprType}
use Rattle.cc_symbols.specs.declared.findings.Findings.{Findings}
use Rattle.cc_typing.specs.LookUps.{joined}
use Rattle.cc_typing.specs.Noting.{offended}

-- the type that an expression was found to have
abbrev pub type_of : Findings → ExprTree Counted → Option ExprType
type_of f e = joined (slice_get f.types (expr_note e).number)

-- all its expressions have one
abbrev mutual
  pub is_typed : Findings → ValueTree Counted → Bool
  is_typed f (single e) = is_some (type_of f e)
  is_typed f (braces n vs trailing) = are_typed f vs

  pub are_typed : Findings → ValueTrees Counted → Bool
  are_typed f no_values = true
  are_typed f (more_values v vs) = is_typed f v && are_typed f vs

-- C25 at an initialiser whose expressions have types
abbrev pub misshapen : ValueTree Counted → Findings → Findings
misshapen v f = if is_typed f v then offended (value_note v).spot 25 f else f
