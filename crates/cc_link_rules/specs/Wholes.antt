-- The structs of a project: each with the members that it has in the first file in which it is complete.
use Rattle.std.specs.Prelude.{List, [], ◌∷◌}
use Rattle.cc_types.specs.declared.shape.Shape.{Shape}
use Rattle.cc_types.specs.declared.structs.StructEntry.{StructEntry}
use Rattle.cc_types.specs.Measures.{entry_of}
use Rattle.cc_types.specs.Structs.{completed, renewed}
use Rattle.cc_symbols.specs.declared.unit.Completed.{Completed}
use Rattle.cc_symbols.specs.declared.unit.CheckedUnit.{CheckedUnit}

abbrev pub completed_one : List Shape → List StructEntry → Completed → List StructEntry → List StructEntry
completed_one ss es c ws = completed ss ws [] c.id (entry_of es c.id).members

abbrev pub completed_file : List Shape → List StructEntry → List Completed → List StructEntry → List StructEntry
completed_file ss es [] ws = ws
completed_file ss es (c ∷ cs) ws = completed_file ss es cs (completed_one ss es c ws)

abbrev pub completed_files : List Shape → List CheckedUnit → List StructEntry → List StructEntry
completed_files ss [] ws = ws
completed_files ss (u ∷ us) ws = completed_files ss us (completed_file ss u.structs u.completed ws)

abbrev pub whole : List Shape → List StructEntry → List CheckedUnit → List StructEntry
whole ss es us = completed_files ss us (renewed es)
