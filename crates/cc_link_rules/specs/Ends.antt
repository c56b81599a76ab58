-- The objects that a file defines, at its end, and K9.
use Rattle.std.specs.Prelude.{ℕ, Bool, true, false, not, ◌&&◌, List, [], ◌∷◌, Option, Some, None, is_some, slice_get}
use Rattle.cc_base.specs.declared.place.FileId.{FileId}
use Rattle.cc_types.specs.declared.shape.Shape.{Shape}
use Rattle.cc_types.specs.declared.shape.TypeId.{TypeId}
use Rattle.cc_types.specs.declared.structs.StructEntry.{StructEntry}
use Rattle.cc_types.specs.Interning.{shape_of}
use Rattle.cc_types.specs.Measures.{measure_of}
use Rattle.cc_types.specs.Shapes.{built, types_of}
use Rattle.cc_symbols.specs.declared.declared.Declared.{Declared}
use Rattle.cc_symbols.specs.declared.declared.Form.{Form}
use Rattle.cc_symbols.specs.declared.declared.Form.TheVariants.{Object, Function, Typedef, Constant}
use Rattle.cc_symbols.specs.declared.unit.Outer.{Outer}
use Rattle.cc_symbols.specs.declared.unit.CheckedUnit.{CheckedUnit}
use Rattle.cc_link_rules.specs.declared.fault.Fault.{Fault}
use Rattle.cc_link_rules.specs.Definitions.{Definitions, definition_here}
use Rattle.cc_link_rules.specs.External.{no_fault, first_file}
use Rattle.cc_link_rules.specs.Faults.{broken_if, noted, next_file}

abbrev pub kind_in : Option Declared → Option TypeId
kind_in (Some d) = d.kind
kind_in None = None

abbrev pub kind_of : List Declared → ℕ → Option TypeId
kind_of ds d = kind_in (slice_get ds d)

abbrev pub is_incomplete : List Shape → List StructEntry → Option TypeId → Bool
is_incomplete ss es (Some t) = not (measure_of es (built (types_of ss) (shape_of ss t))).is_complete
is_incomplete ss es None = false

abbrev pub is_object : Form → Bool
is_object (Object l) = true
is_object Function = false
is_object Typedef = false
is_object (Constant v) = false

-- an object that is defined by this declarator, and has no complete type
abbrev pub end_one : List Shape → List Declared → Definitions → List StructEntry → Outer → Option ℕ
end_one ss ds table es o =
    broken_if ((is_object o.form && is_some (definition_here table o)) && is_incomplete ss es (kind_of ds o.declaration)) 9

abbrev pub end_file : List Shape → List Declared → Definitions → FileId → List StructEntry → List Outer → Option Fault → Option Fault
end_file ss ds table f es [] least = least
end_file ss ds table f es (o ∷ os) least = end_file ss ds table f es os (noted least (end_one ss ds table es o) f o.spot)

abbrev pub end_from : List Shape → List Declared → Definitions → FileId → List CheckedUnit → Option Fault → Option Fault
end_from ss ds table f [] least = least
end_from ss ds table f (u ∷ us) least = end_from ss ds table (next_file f) us (end_file ss ds table f u.structs u.outers least)

abbrev pub end_files : List Shape → List Declared → Definitions → List CheckedUnit → Option Fault
end_files ss ds table us = end_from ss ds table first_file us no_fault
