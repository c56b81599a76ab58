-- What initialisers initialise (C17 6.7.9).
use Rattle.std.specs.Prelude.{ℕ, Bool, false, List, Option, Some, slice_get}
use Rattle.cc_program.specs.declared.program.Program.{Program}
use Rattle.cc_types.specs.declared.shape.TypeId.{TypeId}
use Rattle.cc_types.specs.Asked.{is_array}
use Rattle.cc_types.specs.Interning.{shape_of}

abbrev pub is_array_by : Program → Option (Option TypeId) → Bool
is_array_by p (Some (Some t)) = is_array (shape_of p.known.symbols.types t)
is_array_by p t = false

-- whether the initialiser at a node initialises an array: a string literal is no object then (p14)
abbrev pub fills_array : Program → List (Option TypeId) → ℕ → Bool
fills_array p targets n = is_array_by p (slice_get targets n)
