-- The calls of the code, and those of the program that it stands for.
use Rattle.std.proofs.Common.{◌≡◌, ℕ, zero, suc, ◌+◌, ◌<◌, List, [], ◌∷◌, length, map, get_or, Some, refl, sym, ap, ◌∙◌, subst, arith, All, Contains, slice_get}
use Rattle.std.specs.Prelude.{◌↔◌}
use Rattle.std.specs.Option.{option_map}
use Rattle.std.proofs.lemmas.List.{length-map}
use Rattle.std.proofs.lemmas.List.Elements.{All-contains, All-map, All-weaker}
use Rattle.std.proofs.lemmas.Option.{slice_get-map, slice_get_within, slice_get-get_or, same_Some}
use Rattle.cc_base.specs.declared.reach.Edge.{Edge}
use Rattle.cc_base.specs.Edges.{AreBelow, Leads}
use Rattle.cc_base.specs.Paths.{Reaches}
use Rattle.cc_base.proofs.Paths.{Reaches-same}
use Rattle.cc_first_runs.specs.Program as tree
use Rattle.cc_first_runs.specs.Program.{IsSite}
use Rattle.cc_first_runs.specs.Points.{MayCall, IsLive}
use Rattle.cc_first.specs.SoundProgram.{IsLinkedCall, IsSound}
use Rattle.cc_first.specs.Linking.{texts_of}
use Rattle.cc_first.specs.Numbers.{place}
use Rattle.cc_first.specs.Views.{name_view, calls_view, functions_view, program_view}
use Rattle.cc_first.specs.declared.program.Call.{Call}
use Rattle.cc_first.specs.declared.program.Function.{Function}
use Rattle.cc_first.specs.declared.program.Program.{Program}
use Rattle.cc_first.proofs.PathEdges.{call_edge}
use Rattle.cc_first.proofs.PathPlaces.{nested_at, flat_at}
use Rattle.cc_first.proofs.ProgramLinked.{same_place}
use Rattle.cc_first.proofs.ProgramNames.{Contains-slice_get, slice_get-Contains}

-- function number f, as it is seen
abbrev pub view_of : List Call → ℕ → Function → tree.Function
view_of calls f function = record { head = name_view function.head; file = function.file.0; calls = calls_view calls f }

view_at : (calls : List Call) (n : ℕ) (functions : List Function) (f : ℕ) (function : Function) → slice_get functions f ≡ Some function → slice_get (functions_view calls n functions) f ≡ Some (view_of calls (n + f) function)
view_at calls n [] f function at = absurd (let e = at in cc)
view_at calls n (x ∷ functions) zero function at =
    let e : n ≡ n + 0 = omega arith in
    ap (λ (g : Function). Some (view_of calls n g)) (same_Some x function at) ∙ ap (λ m. Some (view_of calls m function)) e
view_at calls n (x ∷ functions) (suc f) function at =
    let e : (n + 1) + f ≡ n + suc f = omega arith in
    view_at calls (n + 1) functions f function at ∙ ap (λ m. Some (view_of calls m function)) e

length_view : (calls : List Call) (n : ℕ) (functions : List Function) → length (functions_view calls n functions) ≡ length functions
length_view calls n [] = refl
length_view calls n (x ∷ functions) = ap suc (length_view calls (n + 1) functions)

pub function_view : (program : Program) (f : ℕ) (function : Function) → slice_get program.functions.items f ≡ Some function → slice_get (program_view program) f ≡ Some (view_of program.calls.items f function)
function_view program f function at =
    let e : 0 + f ≡ f = omega arith in
    view_at program.calls.items 0 program.functions.items f function at ∙ ap (λ m. Some (view_of program.calls.items m function)) e

-- the function that is seen
pub record IsSeen (program : Program) (f : ℕ) (seen : tree.Function) : Type 0 where
  pub function : Function
  pub at : slice_get program.functions.items f ≡ Some function
  pub same : seen ≡ view_of program.calls.items f function

pub function_seen : (program : Program) (f : ℕ) (seen : tree.Function) → slice_get (program_view program) f ≡ Some seen → IsSeen program f seen
function_seen program f seen at = by (get_or program.functions.items f none) (slice_get-get_or program.functions.items f none within)
  where
    none : Function
    none = record { head = record { text = record { ref_ptr = (0, 0); now = [] }; spot = record { line = 0; column = 0 } }; file = record { 0 = 0 } }

    within : f < length program.functions.items
    within = omega (arith, slice_get_within (program_view program) f seen at, length_view program.calls.items 0 program.functions.items)

    by : (function : Function) → slice_get program.functions.items f ≡ Some function → IsSeen program f seen
    by function there = record { function = function; at = there; same = same_Some seen (view_of program.calls.items f function) (sym at ∙ function_view program f function there) }

pub linked_at : (program : Program) (k : ℕ) (call : Call) → IsSound program → slice_get program.calls.items k ≡ Some call → IsLinkedCall program.functions.items call
linked_at program k call sound at = All-contains (IsLinkedCall program.functions.items) program.calls.items call sound.calls (Contains-slice_get program.calls.items k call at)

-- calls stand in functions and lead to functions
pub callers_below : (program : Program) (count : ℕ) (calls : List Call) → IsSound program → count ≡ length program.functions.items → calls ≡ program.calls.items → All (λ (call : Call). call.caller < count) calls
callers_below program count calls sound is same =
    subst (λ (cs : List Call). All (λ (call : Call). call.caller < count) cs) (sym same)
    (All-weaker (IsLinkedCall program.functions.items) (λ (call : Call). call.caller < count) (λ call linked. (let lt = linked.caller in omega arith)) program.calls.items sound.calls)

pub callees_below : (program : Program) (count : ℕ) (calls : List Call) → IsSound program → count ≡ length program.functions.items → calls ≡ program.calls.items → All (λ (call : Call). call.callee < count) calls
callees_below program count calls sound is same =
    subst (λ (cs : List Call). All (λ (call : Call). call.callee < count) cs) (sym same)
    (All-weaker (IsLinkedCall program.functions.items) (λ (call : Call). call.callee < count) (λ call linked. (let lt = slice_get_within program.functions.items call.callee linked.callee linked.is_callee in omega arith)) program.calls.items sound.calls)

-- call number k is a call of the program
module _ (program : Program) (k : ℕ) (call : Call) (sound : IsSound program) (at : slice_get program.calls.items k ≡ Some call) where
  pub caller_of : Function
  caller_of = get_or program.functions.items call.caller (linked_at program k call sound at).callee

  pub is_caller_of : slice_get program.functions.items call.caller ≡ Some caller_of
  unfolding caller_of
  is_caller_of = slice_get-get_or program.functions.items call.caller (linked_at program k call sound at).callee (linked_at program k call sound at).caller

  pub site_at : IsSite (program_view program) call.caller (place program.calls.items k call.caller) call.callee
  site_at = record {
    caller = view_of program.calls.items call.caller caller_of;
    call = name_view call.name;
    callee = view_of program.calls.items call.callee (linked_at program k call sound at).callee;
    is_caller = function_view program call.caller caller_of is_caller_of;
    is_call = nested_at program.calls.items k call call.caller at refl;
    is_callee = function_view program call.callee (linked_at program k call sound at).callee (linked_at program k call sound at).is_callee;
    named = (linked_at program k call sound at).named;
  }

-- a call of the program is one of the code
pub record IsFlat (program : Program) (f i g : ℕ) : Type 0 where
  pub number : ℕ
  pub call : Call
  pub at : slice_get program.calls.items number ≡ Some call
  pub caller : call.caller ≡ f
  pub placed : place program.calls.items number f ≡ i
  pub callee : call.callee ≡ g

text_at : (functions : List Function) (g : ℕ) (function : Function) → slice_get functions g ≡ Some function → slice_get (texts_of functions) g ≡ Some function.head.text.now
text_at functions g function at = slice_get-map (λ (f : Function). f.head.text.now) functions g ∙ ap (option_map (λ (f : Function). f.head.text.now)) at

-- it leads to the function that the site names
pub callee_of : (program : Program) (f i g : ℕ) (call : Call) (k : ℕ) → IsSound program → IsSite (program_view program) f i g → slice_get program.calls.items k ≡ Some call → call.caller ≡ f → place program.calls.items k f ≡ i → call.callee ≡ g
callee_of program f i g call k sound site at caller_is placed =
    let caller = function_seen program f site.caller site.is_caller in
    let callee = function_seen program g site.callee site.is_callee in
    let linked = linked_at program k call sound at in
    let named : name_view call.name ≡ site.call = same_Some (name_view call.name) site.call
    (sym (subst (λ (j : ℕ). slice_get (calls_view program.calls.items f) j ≡ Some (name_view call.name)) placed (nested_at program.calls.items k call f at caller_is))
    ∙ subst (λ (seen : tree.Function). slice_get seen.calls i ≡ Some site.call) caller.same site.is_call) in
    let text : linked.callee.head.text.now ≡ callee.function.head.text.now =
    linked.named ∙ ap (λ (n : tree.Name). n.text) named ∙ sym site.named ∙ ap (λ (s : tree.Function). s.head.text) callee.same in
    same_place (texts_of program.functions.items) call.callee g callee.function.head.text.now sound.once
    (text_at program.functions.items call.callee linked.callee linked.is_callee ∙ ap Some text)
    (text_at program.functions.items g callee.function callee.at)

pub flat_of : (program : Program) (f i g : ℕ) → IsSound program → IsSite (program_view program) f i g → IsFlat program f i g
flat_of program f i g sound site =
    let caller = function_seen program f site.caller site.is_caller in
    let found = flat_at program.calls.items f i site.call (subst (λ (seen : tree.Function). slice_get seen.calls i ≡ Some site.call) caller.same site.is_call) in
    record {
      number = found.number;
      call = found.call;
      at = found.at;
      caller = found.caller;
      placed = found.placed;
      callee = callee_of program f i g found.call found.number sound site found.at found.caller found.placed;
    }

-- the edges from callers to called functions
pub edges_below : (program : Program) → IsSound program → AreBelow (length program.functions.items) (map call_edge program.calls.items)
edges_below program sound =
    All-map (λ (edge : Edge). (edge.from < length program.functions.items) × (edge.to < length program.functions.items)) call_edge program.calls.items
    (All-weaker (IsLinkedCall program.functions.items) (λ (call : Call). (call.caller < length program.functions.items) × (call.callee < length program.functions.items))
    (λ call linked. (linked.caller, slice_get_within program.functions.items call.callee linked.callee linked.is_callee)) program.calls.items sound.calls)

pub leads_calls : (program : Program) → IsSound program → (a b : ℕ) → Leads (map call_edge program.calls.items) a b ↔ MayCall (program_view program) a b
leads_calls program sound a b = (forth, back)
  where
    forth : Leads (map call_edge program.calls.items) a b → MayCall (program_view program) a b
    forth leads =
        let edge : Edge = record { from = a; to = b } in
        let there = slice_get-Contains (map call_edge program.calls.items) edge leads in
        let within = slice_get_within (map call_edge program.calls.items) there.0 edge there.1 in
        let none : Call = record { name = record { text = record { ref_ptr = (0, 0); now = [] }; spot = record { line = 0; column = 0 } }; caller = 0; callee = 0 } in
        let inside : there.0 < length program.calls.items = omega (arith, within, length-map program.calls.items call_edge) in
        let call = get_or program.calls.items there.0 none in
        let at : slice_get program.calls.items there.0 ≡ Some (get_or program.calls.items there.0 none) = slice_get-get_or program.calls.items there.0 none inside in
        let same : call_edge (get_or program.calls.items there.0 none) ≡ edge = same_Some (call_edge (get_or program.calls.items there.0 none)) edge (sym (slice_get-map call_edge program.calls.items there.0 ∙ ap (option_map call_edge) at) ∙ there.1) in
        subst (λ (e : Edge). MayCall (program_view program) e.from e.to) same (place program.calls.items there.0 call.caller, site_at program there.0 call sound at)

    back : MayCall (program_view program) a b → Leads (map call_edge program.calls.items) a b
    back may =
        let flat = flat_of program a may.0 b sound may.1 in
        let same : call_edge flat.call ≡ record { from = a; to = b } = ap (λ n. record { from = n; to = flat.call.callee }) flat.caller ∙ ap (λ n. record { from = a; to = n }) flat.callee in
        subst (Contains (map call_edge program.calls.items)) same
        (Contains-slice_get (map call_edge program.calls.items) flat.number (call_edge flat.call) (slice_get-map call_edge program.calls.items flat.number ∙ ap (option_map call_edge) flat.at))

pub reaches_live : (program : Program) → IsSound program → (f : ℕ) → Reaches (Leads (map call_edge program.calls.items)) program.entry f ↔ IsLive (program_view program) program.entry f
reaches_live program sound f = Reaches-same (Leads (map call_edge program.calls.items)) (MayCall (program_view program)) program.entry (leads_calls program sound) f
