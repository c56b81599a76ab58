-- What stands in the tables, and nothing else.
use Rattle.std.specs.Prelude.{ℕ, ◌≡◌, ◌+◌, ◌<◌, ◌↔◌, Some, length, slice_get, Contains}
use Rattle.cc_graph.specs.Graphs.{entry_of, defined_by}
use Rattle.cc_graph.specs.declared.graph.Graph.{Graph}
use Rattle.cc_listed.specs.declared.calls.Formal.{Formal}
use Rattle.cc_parts.specs.declared.parts.Parts.{Parts}
use Rattle.cc_program.specs.declared.function.Function.{Function}
use Rattle.cc_program.specs.declared.program.Program.{Program}
use Rattle.cc_program.specs.declared.variable.VarId.{VarId}
use Rattle.cc_handing.specs.Owning.{functions, row_of}
use Rattle.cc_handing.specs.Reads.{slot_of}
use Rattle.cc_handing.specs.Sites.{func, formals}

-- a formal, with a slot, of a function with an entry
pub record IsFormal (p : Program) (g : Graph) (parts : Parts) (x : Formal) : Type 0 where
  pub f : ℕ
  pub function : Function
  pub k : ℕ
  pub variable : VarId
  pub there : slice_get p.functions f ≡ Some function
  pub enters : entry_of g (func f) ≡ Some x.entry
  pub formal : slice_get function.formals k ≡ Some variable
  pub has_slot : slot_of parts variable ≡ Some x.slot
  pub is_callee : x.callee ≡ function.declarator
  pub is_number : x.number ≡ k + 1

abbrev pub FormalsAre : Type 0
FormalsAre = (p : Program) (g : Graph) (parts : Parts) (x : Formal) → Contains (formals p g parts) x ↔ IsFormal p g parts x

-- a function, by its declarator c, that the node d defines
pub record IsDefinedAt (p : Program) (g : Graph) (d c : ℕ) : Type 0 where
  pub f : ℕ
  pub function : Function
  pub there : slice_get p.functions f ≡ Some function
  pub defines : defined_by (slice_get g.definitions f) ≡ Some d
  pub is_callee : c ≡ function.declarator

abbrev pub FunctionsAre : Type 0
FunctionsAre = (p : Program) (g : Graph) (d c : ℕ) → d < length p.arena.nodes → Contains (row_of (functions p g) d) c ↔ IsDefinedAt p g d c
