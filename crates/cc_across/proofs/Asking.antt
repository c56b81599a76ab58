-- Which calls are calls of functions of the environment.
use Rattle.std.proofs.Common.{◌≡◌, true, Option, Some, None, refl, ap, ◌∙◌}
use Rattle.std.specs.Prelude.{slice_get}
use Rattle.std.proofs.lemmas.Bool.{false≢true}
use Rattle.cc_arena.specs.Arenas.{node_of}
use Rattle.cc_arena.specs.declared.arena.Placed.{Placed}
use Rattle.cc_arena.specs.declared.node.Node.{Node}
use Rattle.cc_arena.specs.declared.node.Node.TheVariants as node
use Rattle.cc_arena_rules.specs.Looks.{inside}
use Rattle.cc_graph.specs.Across.{IsAsked, IsOfEnvironment}
use Rattle.cc_program.specs.Programs.{names}
use Rattle.cc_program.specs.declared.function.Function.{Function}
use Rattle.cc_program.specs.declared.function.FunctionKind.{FunctionKind}
use Rattle.cc_program.specs.declared.function.FunctionKind.TheVariants as kinds
use Rattle.cc_program.specs.declared.program.Program.{Program}
use Rattle.cc_program.specs.declared.program.Referent.{Referent}
use Rattle.cc_program.specs.declared.program.Referent.TheVariants as referent
use Rattle.cc_across.specs.Stepping.{is_environment_kind, is_environment_function, is_of_environment, is_asked}

kind_to : (k : FunctionKind) → is_environment_kind k ≡ true → k ≡ kinds.Environment
kind_to kinds.Environment e = refl
kind_to kinds.Defined e = absurd (false≢true e)

function_to : (o : Option Function) → is_environment_function o ≡ true → (f : Function) × (o ≡ Some f) × (f.kind ≡ kinds.Environment)
function_to (Some f) e = (f, refl, kind_to f.kind e)
function_to None e = absurd (false≢true e)

module _ (P : Program) where
  referent_to : (o : Option Referent) → is_of_environment P o ≡ true → IsOfEnvironment P o
  referent_to (Some (referent.Function g)) e = function_to (slice_get P.functions g.0) e
  referent_to what e = absurd (false≢true e)

  referent_from : (o : Option Referent) → IsOfEnvironment P o → is_of_environment P o ≡ true
  referent_from (Some (referent.Function g)) h = ap is_environment_function h.1 ∙ ap is_environment_kind h.2
  referent_from what h = absurd h

  pub to_asked : (what : Node) → is_asked P what ≡ true → IsAsked P (Some what)
  to_asked (node.Call f es) e = referent_to (names P (inside P.arena f)) e
  to_asked what e = absurd (false≢true e)

  pub from_asked : (what : Node) → IsAsked P (Some what) → is_asked P what ≡ true
  from_asked (node.Call f es) h = referent_from (names P (inside P.arena f)) h
  from_asked what h = absurd h

  pub asked_there : (o : Option Placed) → IsAsked P (node_of o) → (y : Placed) × (o ≡ Some y) × (is_asked P y.node ≡ true)
  asked_there (Some y) h = (y, refl, from_asked y.node h)
  asked_there None h = absurd h
