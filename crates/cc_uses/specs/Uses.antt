-- Who defines, writes and reads which slot at which point.
use Rattle.std.specs.Prelude.{ℕ, ◌≡◌, ◌+◌, ◌≤◌, ◌<◌, ◌⊎◌, true, List, length, Contains, Some, slice_get}
use Rattle.cc_arena.specs.declared.arena.Placed.{Placed}
use Rattle.cc_facts.specs.declared.facts.Facts.{Facts}
use Rattle.cc_facts.specs.Told.{has_part}
use Rattle.cc_graph.specs.declared.graph.Graph.{Graph}
use Rattle.cc_graph.specs.Graphs.{entry_of}
use Rattle.cc_graph.specs.Points.{IsNaming}
use Rattle.cc_listed.specs.declared.table.Access.{Access}
use Rattle.cc_parts.specs.declared.part.Part.{Part}
use Rattle.cc_parts.specs.declared.parts.Object.{Object}
use Rattle.cc_parts.specs.declared.parts.Parts.{Parts}
use Rattle.cc_parts.specs.PartTables.{is_slot, size_at}
use Rattle.cc_program.specs.declared.function.FuncId.{FuncId}
use Rattle.cc_program.specs.declared.function.Function.{Function}
use Rattle.cc_program.specs.declared.program.Program.{Program}
use Rattle.cc_program.specs.declared.variable.VarId.{VarId}
use Rattle.cc_uses.specs.declared.put.Reach.{Reach}
use Rattle.cc_uses.specs.declared.put.Reach.TheVariants.{Itself, Inner}
use Rattle.cc_uses.specs.Peeling.{peeled, inner_at}
use Rattle.cc_uses.specs.Accessing.{reach_of}
use Rattle.cc_uses.specs.Writing.{target_of, type_of, after}
use Rattle.cc_uses.specs.Reading.{is_lvalue, is_value, right_of, all_around}
use Rattle.cc_uses.specs.Giving.{start_of}

-- how many parts, from the part q on, it is about
abbrev pub size_by : Reach → List Part → ℕ → ℕ
size_by Itself parts q = 1
size_by Inner parts q = size_at parts q

-- The lvalue l may have the slot s: of scalar type, the slot is a part that it may have; of struct type, such a part is made
-- of the slot and others.
pub record MayHave (F : Facts) (r : Reach) (l s : ℕ) : Type 0 where
  pub part : ℕ
  pub may : has_part F l part ≡ true
  pub low : part ≤ s
  pub high : s < part + size_by r F.parts.parts part
  pub slot : is_slot F.parts.parts s ≡ true

-- An assignment or step that is evaluated in the body of a function writes the slot, after it, if its target may have it,
-- parentheses aside.
pub record IsWrite (p : Program) (g : Graph) (F : Facts) (a : Access) : Type 0 where
  pub node : ℕ
  pub placed : Placed
  pub at : slice_get p.arena.nodes node ≡ Some placed
  pub target : ℕ
  pub assigns : target_of placed.node ≡ Some target
  pub aside : inner_at (peeled p.arena.nodes 0) target ≡ a.occurrence
  pub point : after g node ≡ Some a.point
  pub reach : Reach
  pub typed : reach_of (type_of p a.occurrence) ≡ Some reach
  pub slot : MayHave F reach a.occurrence a.slot

-- an lvalue of scalar type that is used as a value reads the slot, after it, if it may have it
pub record ReadsValue (p : Program) (g : Graph) (F : Facts) (a : Access) : Type 0 where
  pub placed : Placed
  pub at : slice_get p.arena.nodes a.occurrence ≡ Some placed
  pub lvalue : is_lvalue placed.node ≡ true
  pub used : is_value (slice_get (all_around p) a.occurrence) ≡ true
  pub typed : reach_of (type_of p a.occurrence) ≡ Some Itself
  pub point : after g a.occurrence ≡ Some a.point
  pub slot : MayHave F Itself a.occurrence a.slot

-- so does one of struct type, where it is the right side of a plain assignment, parentheses aside
pub record ReadsStruct (p : Program) (g : Graph) (F : Facts) (a : Access) : Type 0 where
  pub node : ℕ
  pub placed : Placed
  pub at : slice_get p.arena.nodes node ≡ Some placed
  pub right : ℕ
  pub assigns : right_of placed.node ≡ Some right
  pub aside : inner_at (peeled p.arena.nodes 0) right ≡ a.occurrence
  pub inside : Placed
  pub there : slice_get p.arena.nodes a.occurrence ≡ Some inside
  pub lvalue : is_lvalue inside.node ≡ true
  pub typed : reach_of (type_of p a.occurrence) ≡ Some Inner
  pub point : after g a.occurrence ≡ Some a.point
  pub slot : MayHave F Inner a.occurrence a.slot

abbrev pub IsRead : Program → Graph → Facts → Access → Type 0
IsRead p g F a = ReadsValue p g F a ⊎ ReadsStruct p g F a

-- the slot is one of the parts of the object
abbrev pub IsIn : Parts → Object → ℕ → Type 0
IsIn parts o s = (o.first ≤ s) × (s < o.first + size_at parts.parts o.first) × (is_slot parts.parts s ≡ true)

-- the declarator or literal of an object defines its slots
pub record Begins (p : Program) (g : Graph) (parts : Parts) (a : Access) : Type 0 where
  pub number : ℕ
  pub object : Object
  pub at : slice_get parts.objects number ≡ Some object
  pub node : object.node ≡ a.occurrence
  pub point : start_of p g number object.node ≡ Some a.point
  pub slot : IsIn parts object a.slot

-- a formal of an entry is defined at the entry
pub record Enters (p : Program) (g : Graph) (parts : Parts) (a : Access) : Type 0 where
  pub f : FuncId
  pub entry : Contains p.entries f
  pub function : Function
  pub at : slice_get p.functions f.0 ≡ Some function
  pub v : VarId
  pub formal : Contains function.formals v
  pub object : Object
  pub there : slice_get parts.objects v.0 ≡ Some object
  pub node : object.node ≡ a.occurrence
  pub point : entry_of g f ≡ Some a.point
  pub slot : IsIn parts object a.slot

abbrev pub IsGiven : Program → Graph → Parts → Access → Type 0
IsGiven p g parts a = Begins p g parts a ⊎ Enters p g parts a

-- the points of these are points of the graph
abbrev pub IsInGraph : Graph → List Access → Type 0
IsInGraph g out = IsNaming g.rows g.positions → (a : Access) → Contains out a → a.point < length g.positions
