-- How runs end, in words.
use Rattle.std.specs.Prelude.{ℕ, List, ◌++◌, Option, Some, None, codes}
use Rattle.std.specs.Fmt.{decimal}
use Rattle.cc_program.specs.declared.program.Program.{Program}
use Rattle.cc_meaning.specs.declared.end.End.{End}
use Rattle.cc_meaning.specs.declared.end.End.TheVariants.{Done, Undefined, TurnsOut, CellsOut, EnvDry}
use Rattle.cc_meaning.specs.Kinds.{number_of}
use Rattle.cc_tables.specs.Names.{place_text}

-- how a run ends; `-` where there is no run
abbrev pub end_text : Program → Option End → List ℕ
end_text p None = codes "-"
end_text p (Some Done) = codes "done"
end_text p (Some (Undefined at kind)) = codes "undefined U" ++ (decimal (number_of kind) ++ (codes " " ++ place_text p at))
end_text p (Some TurnsOut) = codes "turns"
end_text p (Some CellsOut) = codes "cells"
end_text p (Some (EnvDry at)) = codes "env " ++ place_text p at
