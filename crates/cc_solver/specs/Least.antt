-- The least set of pairs of a holder and a target.
use Rattle.std.specs.Prelude.{ℕ, ◌≡◌, ◌<◌, List, Contains}
use Rattle.cc_solver.specs.declared.rules.Pair.{Pair}
use Rattle.cc_solver.specs.declared.rules.Edge.{Edge}
use Rattle.cc_solver.specs.declared.state.Limits.{Limits}
use Rattle.cc_blocks.specs.declared.row.Row.{Row}
use Rattle.cc_blocks.specs.Pairs.{pair_bit, pair_count}

-- Which pairs have to be there: those that are given, what flows along the edges that are given, what flows along an
-- edge that a pair adds which has to be there, and what such a pair gives.
pub data Least (given : List Pair) (joins : List Edge) (Adds Gives : ℕ → ℕ → ℕ → ℕ → Type 0) : ℕ → ℕ → Type 0 where
  Given : {h t : ℕ} → Contains given (record { holder = h; target = t }) → Least given joins Adds Gives h t
  Flows : {g h t : ℕ} → Contains joins (record { from = g; to = h }) → Least given joins Adds Gives g t → Least given joins Adds Gives h t
  Triggers : {p q g h t : ℕ} → Least given joins Adds Gives p q → Adds p q g h → Least given joins Adds Gives g t → Least given joins Adds Gives h t
  Hands : {p q h t : ℕ} → Least given joins Adds Gives p q → Gives p q h t → Least given joins Adds Gives h t

-- some table has more pairs than may be, each of a holder that counts, and each has to be there
abbrev pub HasMore : Limits → (ℕ → ℕ → Type 0) → Type 0
HasMore limits P = (rows : List Row) × (limits.most < pair_count rows) × ((h t : ℕ) → pair_bit rows h t ≡ 1 → (h < limits.counters) × P h t)
