-- Which function may be called from which, and which are live.
use Rattle.std.specs.Prelude.{ℕ, ◌-◌, ◌≡◌, ◌<◌, ◌≤◌, ◌↔◌, Bool, true, List, Option, Some, None, length, slice_get, Contains}
use Rattle.cc_facts.specs.declared.facts.Facts.{Facts}
use Rattle.cc_facts.specs.declared.target.Target.TheVariants.{Function}
use Rattle.cc_facts.specs.Told.{parts_in, may_be, may_call, is_defined, or_false}
use Rattle.cc_graph.specs.declared.graph.Graph.{Graph}
use Rattle.cc_graph.specs.Linking.{row_of}
use Rattle.cc_graph.specs.Order.{IsAscending}
use Rattle.cc_program.specs.declared.program.Program.{Program}
use Rattle.cc_across.specs.declared.calls.Calls.{Calls}
use Rattle.cc_across.specs.Pairs.{Pair}
use Rattle.cc_across.specs.Sites.{IsEvaluated, StandsIn}

-- the function of a number of a target
abbrev pub as_function : Facts → Option ℕ → Option ℕ
as_function F (Some t) = Some (t - parts_in F)
as_function F None = None

-- the least function, from a number on, that the value of the occurrence may be, if there is one
abbrev pub IsNextFunction : Facts → ℕ → ℕ → Option ℕ → Type 0
IsNextFunction F o from (Some g) = (from ≤ g) × (may_be F o (Function g) ≡ true) × ((u : ℕ) → from ≤ u → may_be F o (Function u) ≡ true → g ≤ u)
IsNextFunction F o from None = (u : ℕ) → from ≤ u → may_be F o (Function u) ≡ true → ⊥

-- the site s and the function g, if that has a body
abbrev pub IsDefinedAt : Facts → ℕ → ℕ → Pair → Type 0
IsDefinedAt F s g x = (x.0 ≡ s) × (x.1 ≡ g) × (is_defined F g ≡ true)

-- the site s and a function with a body, of a number from one on and below another, that the value of the occurrence may be
abbrev pub IsCalleeBetween : Facts → ℕ → ℕ → ℕ → ℕ → Pair → Type 0
IsCalleeBetween F s o from end x = (x.0 ≡ s) × (from ≤ x.1) × (x.1 < end) × (is_defined F x.1 ≡ true) × (may_be F o (Function x.1) ≡ true)

-- the site s and a function with a body that the value of the occurrence may be
abbrev pub IsCalleeOf : Facts → ℕ → ℕ → Pair → Type 0
IsCalleeOf F s o x = (x.0 ≡ s) × (is_defined F x.1 ≡ true) × (may_be F o (Function x.1) ≡ true)

-- the site s and a function that it may call
abbrev pub IsCallee : Facts → ℕ → Pair → Type 0
IsCallee F s x = (x.0 ≡ s) × (may_call F s x.1 ≡ true)

-- the same, where the call is evaluated
abbrev pub IsCallAt : Graph → Facts → ℕ → Pair → Type 0
IsCallAt G F s x = IsEvaluated G s × IsCallee F s x

-- an evaluated call below a number, and a function that it may call
abbrev pub IsCall : Graph → Facts → ℕ → Pair → Type 0
IsCall G F n x = (x.0 < n) × IsEvaluated G x.0 × (may_call F x.0 x.1 ≡ true)

-- a function that is an entry of the project, or that a call in a live function may call
pub data LiveBy (P : Program) (G : Graph) (F : Facts) : ℕ → Type 0 where
  Begins : {f : ℕ} → Contains P.entries (record { 0 = f }) → LiveBy P G F f
  Called : {f g s : ℕ} → LiveBy P G F f → StandsIn P.arena G s f → may_call F s g ≡ true → LiveBy P G F g

-- the call at the node s is evaluated and stands in a live function
pub record IsLiveSite (P : Program) (G : Graph) (F : Facts) (s : ℕ) : Type 0 where
  pub caller : ℕ
  pub live : LiveBy P G F caller
  pub stands : StandsIn P.arena G s caller

abbrev pub is_live : Calls → ℕ → Bool
is_live C f = or_false (slice_get C.live.items f)

-- the functions that a site may call
abbrev pub callees_of : Calls → ℕ → List ℕ
callees_of C s = row_of C.callees.items s

-- the table of calls has exactly the live functions, the sites in them, and what each of these may call
pub record AreCalls (P : Program) (G : Graph) (F : Facts) (C : Calls) : Type 0 where
  pub live : (f : ℕ) → f < length G.definitions → (is_live C f ≡ true) ↔ LiveBy P G F f
  pub sites : (s : ℕ) → Contains C.sites.items s ↔ IsLiveSite P G F s
  pub sites_ascend : IsAscending C.sites.items
  pub callees : (s g : ℕ) → Contains (callees_of C s) g ↔ (IsLiveSite P G F s × (may_call F s g ≡ true))
  pub callees_ascend : (s : ℕ) → IsAscending (callees_of C s)
