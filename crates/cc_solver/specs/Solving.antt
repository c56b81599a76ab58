-- What a solver keeps.
use Rattle.std.specs.Prelude.{ℕ, ◌⊎◌, ◌≡◌, ◌+◌, ◌-◌, ◌<◌, ◌≤◌, List, Contains, length, take, Option, Some, None}
use Rattle.cc_blocks.specs.declared.table.Rows.{Rows}
use Rattle.cc_blocks.specs.declared.cell.Cell.{Cell}
use Rattle.cc_blocks.specs.Cells.{row_bit}
use Rattle.cc_blocks.specs.Pairs.{pair_bit, pair_count}
use Rattle.cc_solver.specs.declared.rules.Pair.{Pair}
use Rattle.cc_solver.specs.declared.rules.Edge.{Edge}
use Rattle.cc_solver.specs.declared.state.State.{State}
use Rattle.cc_solver.specs.declared.state.Limits.{Limits}
use Rattle.cc_solver.specs.Least.{Least}

-- how many pairs the holders have that count
abbrev pub told_of : Limits → Rows → ℕ
told_of limits table = pair_count (take limits.counters table.rows.items)

abbrev pub Has : Rows → ℕ → ℕ → Type 0
Has table h t = pair_bit table.rows.items h t ≡ 1

-- the row has the target
abbrev pub In : List Cell → ℕ → Type 0
In cells t = row_bit cells t ≡ 1

-- the tables are of the same holders, and each holder that has a pair to be handled is in the work
pub record IsState (limits : Limits) (s : State) : Type 0 where
  pub fresh_length : length s.fresh.rows.items ≡ length s.pairs.rows.items
  pub edges_length : length s.edges.rows.items ≡ length s.pairs.rows.items
  pub pending : (h t : ℕ) → Has s.fresh h t → Contains s.work.items h
  pub inside : (h t : ℕ) → Has s.fresh h t → Has s.pairs h t
  pub work_within : (h : ℕ) → Contains s.work.items h → h < length s.pairs.rows.items
  pub edges_within : (g h : ℕ) → Has s.edges g h → h < length s.pairs.rows.items
  pub counted : s.count ≡ pair_count s.pairs.rows.items
  pub limited : s.count ≤ limits.room
  pub told_is : s.told ≡ told_of limits s.pairs
  pub told_limited : s.told ≤ limits.most

-- what a holder got is told where it counts
pub record Told (limits : Limits) (told told' to added : ℕ) : Type 0 where
  pub counts : to < limits.counters → told' ≡ told + added
  pub rest : limits.counters ≤ to → told' ≡ told
  pub most : told' ≤ limits.most

-- a holder may have got targets of a source
pub record Grows (s s' : State) (to : ℕ) (Source : ℕ → Type 0) : Type 0 where
  pub same_length : length s'.pairs.rows.items ≡ length s.pairs.rows.items
  pub kept : (h t : ℕ) → Has s.pairs h t → Has s'.pairs h t
  pub only : (h t : ℕ) → Has s'.pairs h t → Has s.pairs h t ⊎ ((h ≡ to) × Source t)
  pub news : (h t : ℕ) → Has s'.pairs h t → Has s.pairs h t ⊎ Has s'.fresh h t
  pub fresh_kept : (h t : ℕ) → Has s.fresh h t → Has s'.fresh h t
  pub paid : length s'.work.items + s.count ≤ length s.work.items + s'.count

-- a holder got targets of a source, which are too many
pub record Exceeds (limits : Limits) (s s' : State) (to : ℕ) (Source : ℕ → Type 0) : Type 0 where
  pub many : limits.most < told_of limits s'.pairs
  pub only : (h t : ℕ) → Has s'.pairs h t → Has s.pairs h t ⊎ ((h ≡ to) × Source t)

-- an edge is there now
pub record Links (s s' : State) (from to : ℕ) : Type 0 where
  pub grows : Grows s s' to (Has s.pairs from)
  pub edge : Has s'.edges from to
  pub edges_kept : (g h : ℕ) → Has s.edges g h → Has s'.edges g h
  pub edges_only : (g h : ℕ) → Has s'.edges g h → Has s.edges g h ⊎ ((g ≡ from) × (h ≡ to))
  pub got : Has s.edges from to ⊎ ((t : ℕ) → Has s.pairs from t → Has s'.pairs to t)

-- an edge that has to be there
abbrev pub IsEdge : List Pair → List Edge → (ℕ → ℕ → ℕ → ℕ → Type 0) → (ℕ → ℕ → ℕ → ℕ → Type 0) → ℕ → ℕ → Type 0
IsEdge given joins Adds Gives g h = Contains joins (record { from = g; to = h }) ⊎ ((p q : ℕ) × Least given joins Adds Gives p q × Adds p q g h)

-- the edges that a pair adds are there
abbrev pub HasEdges : State → (ℕ → ℕ → ℕ → ℕ → Type 0) → ℕ → ℕ → Type 0
HasEdges s Adds p q = (g h : ℕ) → Adds p q g h → Has s.edges g h

-- the pairs that a pair gives are there
abbrev pub HasPairs : State → (ℕ → ℕ → ℕ → ℕ → Type 0) → ℕ → ℕ → Type 0
HasPairs s Gives p q = (h t : ℕ) → Gives p q h t → Has s.pairs h t

-- What is there has to be there. What a pair adds and gives is there, and what flows along an edge, unless the pair is still to
-- be handled, or this part of its handling is to come.
pub record Solves (given : List Pair) (joins : List Edge) (Adds Gives : ℕ → ℕ → ℕ → ℕ → Type 0) (s : State) (Owes : ℕ → ℕ → Type 0) (Lags : ℕ → ℕ → ℕ → Type 0) : Type 0 where
  pub sound : (h t : ℕ) → Has s.pairs h t → Least given joins Adds Gives h t
  pub sound_edge : (g h : ℕ) → Has s.edges g h → IsEdge given joins Adds Gives g h
  pub handled : (p q : ℕ) → Has s.pairs p q → Has s.fresh p q ⊎ (Owes p q ⊎ (HasEdges s Adds p q × HasPairs s Gives p q))
  pub flowed : (g h t : ℕ) → Has s.edges g h → Has s.pairs g t → Has s.fresh g t ⊎ (Lags g h t ⊎ Has s.pairs h t)

-- nothing is owed, and nothing lags
abbrev pub OwesNone : ℕ → ℕ → Type 0
OwesNone p q = ⊥

abbrev pub LagsNone : ℕ → ℕ → ℕ → Type 0
LagsNone g h t = ⊥

-- from the next one on
abbrev pub IsDue : Option ℕ → ℕ → Type 0
IsDue None n = ⊥
IsDue (Some next) n = next ≤ n

-- of these targets of a holder, those that are due have not triggered
abbrev pub OwesDue : ℕ → List Cell → Option ℕ → ℕ → ℕ → Type 0
OwesDue holder delta next p q = (p ≡ holder) × In delta q × IsDue next q

-- these targets of a holder may not have flowed
abbrev pub LagsAll : ℕ → List Cell → ℕ → ℕ → ℕ → Type 0
LagsAll holder delta g h t = (g ≡ holder) × In delta t

-- these targets of a holder may not have flowed to the holders that are due
abbrev pub LagsDue : ℕ → List Cell → Option ℕ → ℕ → ℕ → ℕ → Type 0
LagsDue holder delta next g h t = (g ≡ holder) × In delta t × IsDue next h

-- what is given is there
abbrev pub HasGiven : List Pair → State → Type 0
HasGiven given s = (h t : ℕ) → Contains given (record { holder = h; target = t }) → Has s.pairs h t

abbrev pub HasJoins : List Edge → State → Type 0
HasJoins joins s = (g h : ℕ) → Contains joins (record { from = g; to = h }) → Has s.edges g h

-- the pairs and edges that were there are there
pub record Keeps (s s' : State) : Type 0 where
  pub same_length : length s'.pairs.rows.items ≡ length s.pairs.rows.items
  pub pairs : (h t : ℕ) → Has s.pairs h t → Has s'.pairs h t
  pub edges : (g h : ℕ) → Has s.edges g h → Has s'.edges g h
  pub paid : length s'.work.items + s.count ≤ length s.work.items + s'.count

-- a holder was taken from the work, and its pairs that are to be handled with it
pub record Takes (s s' : State) (holder : ℕ) (delta : List Cell) : Type 0 where
  pub pairs : s'.pairs.rows.items ≡ s.pairs.rows.items
  pub edges : s'.edges.rows.items ≡ s.edges.rows.items
  pub count : s'.count ≡ s.count
  pub work : length s'.work.items + 1 ≡ length s.work.items
  pub delta_is : (t : ℕ) → In delta t → Has s.fresh holder t
  pub fresh : (h t : ℕ) → Has s.fresh h t → Has s'.fresh h t ⊎ ((h ≡ holder) × In delta t)

-- these targets of a holder have not triggered
abbrev pub OwesAll : ℕ → List Cell → ℕ → ℕ → Type 0
OwesAll holder delta p q = (p ≡ holder) × In delta q

-- exactly what is given is there, and all of it is to be handled
pub record Begins (given : List Pair) (joins : List Edge) (s : State) : Type 0 where
  pub given_is : (h t : ℕ) → Contains given (record { holder = h; target = t }) → Has s.pairs h t
  pub is_given : (h t : ℕ) → Has s.pairs h t → Contains given (record { holder = h; target = t })
  pub joins_is : (g h : ℕ) → Contains joins (record { from = g; to = h }) → Has s.edges g h
  pub is_join : (g h : ℕ) → Has s.edges g h → Contains joins (record { from = g; to = h })
  pub all_fresh : (h t : ℕ) → Has s.pairs h t → Has s.fresh h t

-- how much is left from the next one on, below 2 ^ 32
abbrev pub left_of : Option ℕ → ℕ
left_of None = 0
left_of (Some next) = 4294967296 - next

-- these targets of a holder are with each holder to which its edges lead
pub record Spreads (s s' : State) (holder : ℕ) (delta : List Cell) : Type 0 where
  pub same_edges : s'.edges.rows.items ≡ s.edges.rows.items
  pub only : (h t : ℕ) → Has s'.pairs h t → Has s.pairs h t ⊎ (Has s.edges holder h × In delta t)
  pub news : (h t : ℕ) → Has s'.pairs h t → Has s.pairs h t ⊎ Has s'.fresh h t
  pub fresh_kept : (h t : ℕ) → Has s.fresh h t → Has s'.fresh h t
  pub got : (h t : ℕ) → Has s.edges holder h → In delta t → Has s'.pairs h t

pub record SpreadsMany (limits : Limits) (s s' : State) (holder : ℕ) (delta : List Cell) : Type 0 where
  pub many : limits.most < told_of limits s'.pairs
  pub only : (h t : ℕ) → Has s'.pairs h t → Has s.pairs h t ⊎ (Has s.edges holder h × In delta t)

-- the same, where the holders that are due have not got them
pub record SpreadsTo (s s' : State) (holder : ℕ) (delta : List Cell) (next : Option ℕ) : Type 0 where
  pub same_edges : s'.edges.rows.items ≡ s.edges.rows.items
  pub only : (h t : ℕ) → Has s'.pairs h t → Has s.pairs h t ⊎ (Has s.edges holder h × In delta t)
  pub news : (h t : ℕ) → Has s'.pairs h t → Has s.pairs h t ⊎ Has s'.fresh h t
  pub fresh_kept : (h t : ℕ) → Has s.fresh h t → Has s'.fresh h t
  pub got : (h t : ℕ) → Has s.edges holder h → In delta t → IsDue next h ⊎ Has s'.pairs h t
