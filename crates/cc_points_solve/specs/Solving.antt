-- What the solver is given.
use Rattle.std.specs.Prelude.{◌≡◌, List, [], replicate}
use Rattle.cc_points_base.specs.declared.view.View.{View}
use Rattle.cc_points_base.specs.declared.constraint.Constraint.{Constraint}
use Rattle.cc_points_base.specs.Layouts.{layout_of}
use Rattle.cc_points_base.specs.Saying.{all_asked}
use Rattle.cc_points_solve.specs.declared.solving.Problem.{Problem}
use Rattle.cc_points_solve.specs.Problems.{givens, all_joins, tabled}
use Rattle.cc_points_solve.specs.Law.{holders_of}

-- what all nodes of a program ask
abbrev pub asked_by : View → List Constraint
asked_by P = all_asked (layout_of P) P.lists P.nodes 0 0 []

-- what they ask, sorted
pub record IsProblem (P : View) (p : Problem) : Type 0 where
  pub layout : p.layout ≡ layout_of P
  pub holders : p.holders ≡ holders_of (layout_of P)
  pub given : p.given.items ≡ givens (asked_by P) []
  pub joins : p.joins.items ≡ all_joins (asked_by P) []
  pub table : p.table.items ≡ tabled (asked_by P) (replicate (holders_of (layout_of P)) [])
