-- Which point may come next after which, over calls and returns.
use Rattle.std.specs.Prelude.{ℕ, ◌≡◌, Option, Some, slice_get}
use Rattle.std.specs.List.{Contains}
use Rattle.cc_arena.specs.declared.arena.Placed.{Placed}
use Rattle.cc_arena.specs.declared.node.Node.{Node}
use Rattle.cc_arena.specs.declared.node.Node.TheVariants as node
use Rattle.cc_arena_rules.specs.Looks.{node_at, inside}
use Rattle.cc_program.specs.Programs.{names}
use Rattle.cc_program.specs.declared.function.Function.{Function}
use Rattle.cc_program.specs.declared.function.FunctionKind.TheVariants as kinds
use Rattle.cc_program.specs.declared.program.Program.{Program}
use Rattle.cc_program.specs.declared.program.Referent.{Referent}
use Rattle.cc_program.specs.declared.program.Referent.TheVariants as referent
use Rattle.cc_graph.specs.declared.position.Position.{Position}
use Rattle.cc_graph.specs.declared.position.Position.TheVariants.{Root, Entry, Exit, At, After}
use Rattle.cc_graph.specs.Graphs.{definitions_of, defined_by}
use Rattle.cc_graph.specs.Points.{number, rows_of}
use Rattle.cc_graph.specs.Scopes.{scope_at, scopes_of}
use Rattle.cc_graph.specs.Succession.{Within}

-- the node that defines the function of this number, if it has a body
abbrev pub definition : Program → ℕ → Option ℕ
definition P f = defined_by (slice_get (definitions_of P) f)

-- the call at the node s is evaluated and stands in the body of the function f
pub record IsSite (P : Program) (s f : ℕ) : Type 0 where
  pub point : ℕ
  pub evaluated : number (rows_of P) (At s) ≡ Some point
  pub placed : Placed
  pub there : slice_get P.arena.nodes s ≡ Some placed
  pub body : ℕ
  pub stands : (scope_at (scopes_of P.arena) placed.parent).function ≡ Some body
  pub defines : definition P f ≡ Some body

-- Of the sites and functions, `MayCall s g` says that the call at the node s may call the function of the number g.

-- a function that is an entry of the program, or that a call in a live function may call
pub data Live (P : Program) (MayCall : ℕ → ℕ → Type 0) : ℕ → Type 0 where
  Begins : {f : ℕ} → Contains P.entries (record { 0 = f }) → Live P MayCall f
  Called : {f g s : ℕ} → Live P MayCall f → IsSite P s f → MayCall s g → Live P MayCall g

-- the call at the node s may call g, whose definition is d, and stands in a live function
pub record CallsLive (P : Program) (MayCall : ℕ → ℕ → Type 0) (s g d : ℕ) : Type 0 where
  pub caller : ℕ
  pub live : Live P MayCall caller
  pub site : IsSite P s caller
  pub may : MayCall s g
  pub defines : definition P g ≡ Some d

-- the function of the environment that a node names, if it names one
abbrev pub IsOfEnvironment : Program → Option Referent → Type 0
IsOfEnvironment P (Some (referent.Function g)) = (f : Function) × (slice_get P.functions g.0 ≡ Some f) × (f.kind ≡ kinds.Environment)
IsOfEnvironment P what = ⊥

-- a call whose designator, parentheses aside, is the name of a function of the environment
abbrev pub IsAsked : Program → Option Node → Type 0
IsAsked P (Some (node.Call f es)) = IsOfEnvironment P (names P (inside P.arena f))
IsAsked P what = ⊥

-- In a path within a function a call's point at it leads to the point after it; not so here.
abbrev pub IsInner : Position → Type 0
IsInner (At n) = ⊥
IsInner p = Unit {0}

-- q may come next after p: over calls, returns, and within a function
pub data Across (P : Program) (MayCall : ℕ → ℕ → Type 0) : Position → Position → Type 0 where
  Begun : {f : ℕ} {d : ℕ} → Contains P.entries (record { 0 = f }) → definition P f ≡ Some d → Across P MayCall Root (Entry d)
  Done : {f : ℕ} {d : ℕ} → Contains P.entries (record { 0 = f }) → definition P f ≡ Some d → Across P MayCall (Exit d) Root
  Entered : {s g d : ℕ} → CallsLive P MayCall s g d → Across P MayCall (At s) (Entry d)
  Left : {s g d : ℕ} → CallsLive P MayCall s g d → Across P MayCall (Exit d) (After s)
  Asked : {s k : ℕ} → IsAsked P (node_at P.arena s) → number (rows_of P) (At s) ≡ Some k → Across P MayCall (At s) (After s)
  Inner : {p q : Position} → IsInner p → Within P p q → Across P MayCall p q
