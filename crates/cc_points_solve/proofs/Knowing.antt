-- That the solver knows the constraints, and nothing else.
use Rattle.std.proofs.Common.{ℕ, ◌≡◌, List, Some}
use Rattle.std.specs.Prelude.{Contains}
use Rattle.cc_points_base.specs.declared.view.View.{View}
use Rattle.cc_points_base.specs.declared.layout.Layout.{Layout}
use Rattle.cc_points_base.specs.declared.constraint.Constraint.{Constraint}
use Rattle.cc_points_base.specs.declared.constraint.Constraint.TheVariants.{Has, Joins, Watches}
use Rattle.cc_points_base.specs.declared.constraint.Watch.{Watch}
use Rattle.cc_solver.specs.declared.rules.Pair.{Pair}
use Rattle.cc_solver.specs.declared.rules.Edge.{Edge}
use Rattle.cc_points_solve.specs.Watching.{edge_of, pair_of}

pub record Knows (P : View) (L : Layout) (holders : ℕ) (C : List Constraint) (given : List Pair) (joins : List Edge) (Adds Gives : ℕ → ℕ → ℕ → ℕ → Type 0) : Type 0 where
  pub given_has : (h t : ℕ) → Contains C (Has h t) → Contains given (record { holder = h; target = t })
  pub given_only : (h t : ℕ) → Contains given (record { holder = h; target = t }) → Contains C (Has h t)
  pub joins_has : (g h : ℕ) → Contains C (Joins g h) → Contains joins (record { from = g; to = h })
  pub joins_only : (g h : ℕ) → Contains joins (record { from = g; to = h }) → Contains C (Joins g h)
  pub adds_has : (p q g h : ℕ) (w : Watch) → Contains C (Watches p w) → edge_of P L w q ≡ Some (record { from = g; to = h }) → Adds p q g h
  pub adds_only : (p q g h : ℕ) → Adds p q g h → (w : Watch) × Contains C (Watches p w) × (edge_of P L w q ≡ Some (record { from = g; to = h }))
  pub gives_has : (p q h t : ℕ) (w : Watch) → Contains C (Watches p w) → pair_of P w q ≡ Some (record { holder = h; target = t }) → Gives p q h t
  pub gives_only : (p q h t : ℕ) → Gives p q h t → (w : Watch) × Contains C (Watches p w) × (pair_of P w q ≡ Some (record { holder = h; target = t }))
