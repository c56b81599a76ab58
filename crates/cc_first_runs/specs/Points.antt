-- Control points of a program of the first form, and which point follows which.
--
-- The evaluated occurrences of a function's body are its block, the expression statements in it, the call that each
-- statement is, and the name that designates the called function. No condition is evaluated.
use Rattle.std.specs.Prelude.{◌≡◌, ℕ, zero, suc, Option, Some, None, length, nat_lt, slice_get, if◌then◌else◌}
use Rattle.cc_base.specs.Paths.{Reaches}
use Rattle.cc_first_runs.specs.Program.{Function, Name, Program, IsFunction, IsSite}

-- an evaluated occurrence of a body; statements, their calls and the names in these are numbered from 0
pub data Node : Type 0 where
  Block : Node
  Statement : ℕ → Node
  Call : ℕ → Node
  Designator : ℕ → Node

-- the evaluated parts of an occurrence: its part number k
abbrev pub part : Function → Node → ℕ → Option Node
part function Block k = if nat_lt k (length function.calls) then Some (Statement k) else None
part function (Statement i) zero = Some (Call i)
part function (Statement i) (suc k) = None
part function (Call i) zero = Some (Designator i)
part function (Call i) (suc k) = None
part function (Designator i) k = None

-- `root` of the program; `entry` and `exit` of function number f; `before` and `after` of an occurrence in it; and
-- `at` of its call number i
pub data Point : Type 0 where
  Root : Point
  Entry : (f : ℕ) → Point
  Exit : (f : ℕ) → Point
  Before : (f : ℕ) → Node → Point
  At : (f i : ℕ) → Point
  After : (f : ℕ) → Node → Point

-- where the last part of an occurrence leads: a call comes to its `at`, all else is over
abbrev pub behind_parts : ℕ → Node → Point
behind_parts f Block = After f Block
behind_parts f (Statement i) = After f (Statement i)
behind_parts f (Call i) = At f i
behind_parts f (Designator i) = After f (Designator i)

-- succession inside a function, from a call's `at` into no function and not past it
pub data Steps (program : Program) : Point → Point → Type 0 where
  -- the entry leads to the body
  Begin : {f : ℕ} {function : Function} → IsFunction program f function → Steps program (Entry f) (Before f Block)
  -- an occurrence without parts is over at once
  Leaf : {f : ℕ} {function : Function} {node : Node} → IsFunction program f function → part function node 0 ≡ None
      → Steps program (Before f node) (After f node)
  -- an occurrence leads to its first part
  First : {f : ℕ} {function : Function} {node inner : Node} → IsFunction program f function → part function node 0 ≡ Some inner
      → Steps program (Before f node) (Before f inner)
  -- a part leads to the next part
  Next : {f : ℕ} {function : Function} {inner next : Node} (node : Node) (k : ℕ) → IsFunction program f function → part function node k ≡ Some inner
      → part function node (suc k) ≡ Some next → Steps program (After f inner) (Before f next)
  -- the last part leads behind the occurrence
  Last : {f : ℕ} {function : Function} {inner : Node} (node : Node) (k : ℕ) → IsFunction program f function → part function node k ≡ Some inner
      → part function node (suc k) ≡ None → Steps program (After f inner) (behind_parts f node)
  -- the body leads to the exit
  Finish : {f : ℕ} {function : Function} → IsFunction program f function → Steps program (After f Block) (Exit f)

-- succession inside a function: a call's `at` leads to its `after`
pub data Within (program : Program) : Point → Point → Type 0 where
  Step : {a b : Point} → Steps program a b → Within program a b
  Over : {f i : ℕ} {caller : Function} {call : Name} → IsFunction program f caller → slice_get caller.calls i ≡ Some call
      → Within program (At f i) (After f (Call i))

-- function number f may call function number g
abbrev pub MayCall : Program → ℕ → ℕ → Type 0
MayCall program f g = (i : ℕ) × IsSite program f i g

-- the entry is live, and so is what may be called from a live function
abbrev pub IsLive : Program → ℕ → ℕ → Type 0
IsLive program entry f = Reaches (MayCall program) entry f

-- succession across functions: a call in a live function leads into the called function, whose exit leads behind the call
pub data Across (program : Program) (entry : ℕ) : Point → Point → Type 0 where
  Inside : {a b : Point} → Steps program a b → Across program entry a b
  Start : Across program entry Root (Entry entry)
  End : Across program entry (Exit entry) Root
  Into : {f i g : ℕ} → IsLive program entry f → IsSite program f i g → Across program entry (At f i) (Entry g)
  Back : {f i g : ℕ} → IsLive program entry f → IsSite program f i g → Across program entry (Exit g) (After f (Call i))

-- a path leads from the root to the point
abbrev pub IsReachable : Program → ℕ → Point → Type 0
IsReachable program entry point = Reaches (Across program entry) Root point
