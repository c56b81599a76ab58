-- Paths through a function.
use Rattle.std.proofs.Common.{◌≡◌, ℕ, suc, ◌<◌, ◌≤◌, length, Some, None, cond, refl, ap, arith}
use Rattle.std.proofs.lemmas.Bool.{lt-ltb, le-ltb}
use Rattle.cc_base.specs.Paths.{Reaches, More}
use Rattle.cc_base.specs.Paths as paths
use Rattle.cc_first_runs.specs.Program.{Function, Program, IsFunction}
use Rattle.cc_first_runs.specs.Points.{Node, Block, Statement, Call, Designator, part, Point, Root, Entry, Exit, Before, At, After, behind_parts, Steps, Begin, Leaf, First, Next, Last, Finish, Across, Inside, Start, End, Into, Back, IsLive, IsReachable}

pub block_part : (function : Function) (k : ℕ) → k < length function.calls → part function Block k ≡ Some (Statement k)
block_part function k lt = ap (λ b. cond b (Some (Statement k)) None) (lt-ltb k (length function.calls) lt)

pub block_end : (function : Function) (k : ℕ) → length function.calls ≤ k → part function Block k ≡ None
block_end function k le = ap (λ b. cond b (Some (Statement k)) None) (le-ltb k (length function.calls) le)

module _ (program : Program) (entry : ℕ) (f : ℕ) (function : Function) (is : IsFunction program f function) where
  on : {a b : Point} → IsReachable program entry a → Steps program a b → IsReachable program entry b
  on path step = More path (Inside step)

  -- from before a statement to its call
  pub at_statement : (i : ℕ) → IsReachable program entry (Before f (Statement i)) → IsReachable program entry (At f i)
  at_statement i path = on (on (on (on path (First is refl)) (First is refl)) (Leaf is refl)) (Last (Call i) 0 is refl refl)

  -- from the entry to the first call
  pub at_first : 0 < length function.calls → IsReachable program entry (Entry f) → IsReachable program entry (At f 0)
  at_first lt path = at_statement 0 (on (on path (Begin is)) (First is (block_part function 0 lt)))

  -- from behind a call to the next one
  pub at_next : (i : ℕ) → suc i < length function.calls → IsReachable program entry (After f (Call i)) → IsReachable program entry (At f (suc i))
  at_next i lt path = at_statement (suc i) (on (on path (Last (Statement i) 0 is refl refl)) (Next Block i is (block_part function i (omega arith)) (block_part function (suc i) lt)))

  -- from behind the last call to the exit
  pub at_exit : (i : ℕ) → length function.calls ≡ suc i → IsReachable program entry (After f (Call i)) → IsReachable program entry (Exit f)
  at_exit i long path = on (on (on path (Last (Statement i) 0 is refl refl)) (Last Block i is (block_part function i (omega arith)) (block_end function (suc i) (omega arith)))) (Finish is)

  -- from the entry to the exit of a function without calls
  pub at_through : length function.calls ≡ 0 → IsReachable program entry (Entry f) → IsReachable program entry (Exit f)
  at_through none path = on (on (on path (Begin is)) (Leaf is (block_end function 0 (omega arith)))) (Finish is)

-- a point that can be reached stands in a live function
abbrev pub IsInLive : Program → ℕ → Point → Type 0
IsInLive program entry Root = Unit {0}
IsInLive program entry (Entry f) = IsLive program entry f
IsInLive program entry (Exit f) = IsLive program entry f
IsInLive program entry (Before f node) = IsLive program entry f
IsInLive program entry (At f i) = IsLive program entry f
IsInLive program entry (After f node) = IsLive program entry f

live_behind : (program : Program) (entry f : ℕ) (node : Node) → IsLive program entry f → IsInLive program entry (behind_parts f node)
live_behind program entry f Block live = live
live_behind program entry f (Statement i) live = live
live_behind program entry f (Call i) live = live
live_behind program entry f (Designator i) live = live

live_step : (program : Program) (entry : ℕ) (a b : Point) → Steps program a b → IsInLive program entry a → IsInLive program entry b
live_step program entry a b (Begin is) live = live
live_step program entry a b (Leaf is none) live = live
live_step program entry a b (First is inner) live = live
live_step program entry a b (Next node k is inner next) live = live
live_step program entry a b (Last {f = f} node k is inner none) live = live_behind program entry f node live
live_step program entry a b (Finish is) live = live

live_across : (program : Program) (entry : ℕ) (a b : Point) → Across program entry a b → IsInLive program entry a → IsInLive program entry b
live_across program entry a b (Inside step) live = live_step program entry a b step live
live_across program entry a b Start live = paths.Start
live_across program entry a b End live = tt
live_across program entry a b (Into {i = i} caller site) live = More caller (i, site)
live_across program entry a b (Back caller site) live = caller

pub reached_live : (program : Program) (entry : ℕ) (point : Point) → IsReachable program entry point → IsInLive program entry point
reached_live program entry point paths.Start = tt
reached_live program entry point (More {a = a} path next) = live_across program entry a point next (reached_live program entry a path)
