-- The constraints, sorted for the solver.
use Rattle.std.specs.Prelude.{ℕ, List, [], ◌∷◌, ◌++◌, slice_set, slice_index_or}
use Rattle.cc_points_base.specs.declared.constraint.Constraint.{Constraint}
use Rattle.cc_points_base.specs.declared.constraint.Constraint.TheVariants.{Has, Joins, Watches}
use Rattle.cc_points_base.specs.declared.constraint.Watch.{Watch}
use Rattle.cc_solver.specs.declared.rules.Pair.{Pair}
use Rattle.cc_solver.specs.declared.rules.Edge.{Edge}

abbrev pub with_pair : Constraint → List Pair → List Pair
with_pair (Has h t) out = out ++ record { holder = h; target = t } ∷ []
with_pair _ out = out

abbrev pub givens : List Constraint → List Pair → List Pair
givens [] out = out
givens (c ∷ cs) out = givens cs (with_pair c out)

abbrev pub with_edge : Constraint → List Edge → List Edge
with_edge (Joins g h) out = out ++ record { from = g; to = h } ∷ []
with_edge _ out = out

abbrev pub all_joins : List Constraint → List Edge → List Edge
all_joins [] out = out
all_joins (c ∷ cs) out = all_joins cs (with_edge c out)

abbrev pub row_of : List (List Watch) → ℕ → List Watch
row_of table h = slice_index_or table h []

abbrev pub put : ℕ → Watch → List (List Watch) → List (List Watch)
put h w table = slice_set table h (row_of table h ++ w ∷ [])

abbrev pub with_watch : Constraint → List (List Watch) → List (List Watch)
with_watch (Watches h w) table = put h w table
with_watch _ table = table

abbrev pub tabled : List Constraint → List (List Watch) → List (List Watch)
tabled [] table = table
tabled (c ∷ cs) table = tabled cs (with_watch c table)
