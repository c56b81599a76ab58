-- By which declarator a file defines a name: the one with a body or an initialiser, else its first tentative definition
-- (C17 6.9.2).
use Rattle.std.specs.Prelude.{ℕ, nat_eq, List, [], ◌∷◌, Option, Some, None, slice_get, slice_set, if◌then◌else◌}
use Rattle.cc_symbols.specs.Places.{grown}
use Rattle.cc_symbols.specs.declared.unit.Outer.{Outer}
use Rattle.cc_symbols.specs.declared.unit.CheckedUnit.{CheckedUnit}
use Rattle.cc_symbols.specs.declared.unit.Role.{Role}
use Rattle.cc_symbols.specs.declared.unit.Role.TheVariants.{Declares, Tentative, Defines}

-- by declaration
abbrev pub Definitions : Type 0
Definitions = List (Option ℕ)

abbrev pub chosen_as : Role → ℕ → Option ℕ → Option ℕ
chosen_as Defines n before = Some n
chosen_as Tentative n None = Some n
chosen_as Tentative n (Some m) = Some m
chosen_as Declares n before = before

abbrev pub chosen : Option ℕ → Outer → Option ℕ
chosen before o = chosen_as o.role o.node before

abbrev pub found : Option (Option ℕ) → Option ℕ
found (Some n) = n
found None = None

abbrev pub definition_of : Definitions → ℕ → Option ℕ
definition_of ds d = found (slice_get ds d)

abbrev pub defined : Outer → Definitions → Definitions
defined o ds = slice_set ds o.declaration (chosen (definition_of ds o.declaration) o)

abbrev pub all_defined : List Outer → Definitions → Definitions
all_defined [] ds = ds
all_defined (o ∷ os) ds = all_defined os (defined o ds)

abbrev pub units_defined : List CheckedUnit → Definitions → Definitions
units_defined [] ds = ds
units_defined (u ∷ us) ds = units_defined us (all_defined u.outers ds)

abbrev pub none_defined : Option ℕ
none_defined = None

abbrev pub definitions : ℕ → List CheckedUnit → Definitions
definitions n us = units_defined us (grown [] n none_defined)

abbrev pub same_node : ℕ → Option ℕ → Option ℕ
same_node n (Some m) = if nat_eq m n then Some m else None
same_node n None = None

-- the declarator's node, where it is the defining one
abbrev pub definition_here : Definitions → Outer → Option ℕ
definition_here ds o = same_node o.node (definition_of ds o.declaration)
