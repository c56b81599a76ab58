-- The functions of a program as the rules see them.
use Rattle.std.specs.Prelude.{ℕ, ◌+◌, Bool, true, false, List, [], ◌∷◌, ◌++◌, length, Option, Some, None, slice_get, slice_set}
use Rattle.cc_arena.specs.declared.node.Span.{Span}
use Rattle.cc_symbols.specs.Places.{grown}
use Rattle.cc_parts.specs.declared.parts.Object.{Object}
use Rattle.cc_parts.specs.declared.parts.Parts.{Parts}
use Rattle.cc_program.specs.declared.function.Function.{Function}
use Rattle.cc_program.specs.declared.function.FunctionKind.{FunctionKind}
use Rattle.cc_program.specs.declared.function.FunctionKind.TheVariants as kind
use Rattle.cc_program.specs.declared.variable.VarId.{VarId}
use Rattle.cc_points_base.specs.declared.view.Callee.{Callee}
use Rattle.cc_points_view.specs.declared.functions.Tables.{Tables}

abbrev pub with_body : Option ℕ → ℕ → List (Option ℕ) → List (Option ℕ)
with_body (Some n) i bodies = slice_set bodies n (Some i)
with_body None i bodies = bodies

-- with the bodies of these functions, the first of which is the i-th
abbrev pub with_bodies : List Function → ℕ → List (Option ℕ) → List (Option ℕ)
with_bodies [] i bodies = bodies
with_bodies (f ∷ fs) i bodies = with_bodies fs (i + 1) (with_body f.body i bodies)

-- for each of so many nodes the function whose body it is
abbrev pub bodies_of : List Function → ℕ → List (Option ℕ)
bodies_of fs nodes = with_bodies fs 0 (grown [] nodes None)

abbrev pub first_or_none : Option Object → ℕ
first_or_none (Some o) = o.first
first_or_none None = 4294967295

-- the whole object of a formal; 2^32 - 1, which is no part, where there is none
abbrev pub formal : Parts → VarId → ℕ
formal parts v = first_or_none (slice_get parts.objects v.0)

abbrev pub with_formals : Parts → List VarId → List ℕ → List ℕ
with_formals parts [] lists = lists
with_formals parts (v ∷ vs) lists = with_formals parts vs (lists ++ formal parts v ∷ [])

abbrev pub callee : Bool → ℕ → ℕ → Callee
callee is_defined start last = record { is_defined = is_defined; formals = record { start = start; «end» = last } }

abbrev pub with_callee : Parts → List VarId → Bool → Tables → Tables
with_callee parts vs is_defined T = record {
  lists = with_formals parts vs T.lists;
  functions = T.functions ++ callee is_defined (length T.lists) (length (with_formals parts vs T.lists)) ∷ [];
  paths = T.paths;
}

abbrev pub is_defined : FunctionKind → Bool
is_defined kind.Defined = true
is_defined kind.Environment = false

-- with these functions at the end, each with its formals
abbrev pub with_functions : Parts → List Function → Tables → Tables
with_functions parts [] T = T
with_functions parts (f ∷ fs) T = with_functions parts fs (with_callee parts f.formals (is_defined f.kind) T)
