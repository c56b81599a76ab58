-- Rows as couplings of a program.
use Rattle.std.specs.Prelude.{ℕ, ◌≡◌, List, map, Option, Some, None}
use Rattle.cc_meaning.specs.declared.coupling.Coupling.{Coupling}
use Rattle.cc_meaning.specs.declared.coupling.Coupling.TheVariants as coupling
use Rattle.cc_program.specs.declared.function.FuncId.{FuncId}
use Rattle.cc_program.specs.declared.program.Program.{Program}
use Rattle.cc_program.specs.declared.program.Referent.{Referent}
use Rattle.cc_program.specs.declared.program.Referent.TheVariants as referent
use Rattle.cc_program.specs.Programs.{names}
use Rattle.cc_rows.specs.declared.row.Row.{Row}
use Rattle.cc_rows.specs.declared.row.Row.TheVariants as row

abbrev pub function_named : Option Referent → Option FuncId
function_named (Some (referent.Function f)) = Some f
function_named what = None

-- the function whose name in a declarator a node is
abbrev pub function_at : Program → ℕ → Option FuncId
function_at p n = function_named (names p n)

abbrev pub call : ℕ → Option FuncId → Option Coupling
call s (Some g) = Some (coupling.Call s g)
call s None = None

abbrev pub parameter : ℕ → ℕ → ℕ → Option FuncId → ℕ → Option Coupling
parameter d s k (Some g) u = Some (coupling.Parameter d s k g u)
parameter d s k None u = None

abbrev pub returned : ℕ → ℕ → Option FuncId → Option Coupling
returned d s (Some g) = Some (coupling.Return d s g)
returned d s None = None

-- the coupling that a row stands for
abbrev pub coupling_of : Program → Row → Option Coupling
coupling_of p (row.Call s g) = call s (function_at p g)
coupling_of p (row.Shared d u x) = Some (coupling.Shared d u x)
coupling_of p (row.Parameter d s k g u) = parameter d s k (function_at p g) u
coupling_of p (row.Return d s g) = returned d s (function_at p g)

-- these are the couplings that the rows stand for, in their order
abbrev pub AreCouplings : Program → List Row → List Coupling → Type 0
AreCouplings p rows couplings = map Some couplings ≡ map (coupling_of p) rows
