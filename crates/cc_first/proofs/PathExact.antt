-- The points that are marked are those that a path leads to.
use Rattle.std.proofs.Common.{◌≡◌, ◌⊎◌, ℕ, zero, suc, ◌+◌, ◌*◌, ◌<◌, ◌≤◌, inl, inr, ⊎_elim, List, [], ◌∷◌, length, get_or, Some, None, Bool, true, refl, sym, ap, ◌∙◌, subst, arith, Contains, slice_get, ◌++◌, length-append}
use Rattle.std.specs.Prelude.{◌↔◌}
use Rattle.std.proofs.lemmas.Bool.{cases_eq, cases_lt}
use Rattle.std.proofs.lemmas.List.{get_or_at, get_or_append_left}
use Rattle.std.proofs.lemmas.List.Elements.{Contains-get_or}
use Rattle.std.proofs.lemmas.Option.{slice_get_within, slice_get-get_or, same_Some}
use Rattle.cc_base.specs.declared.reach.Edge.{Edge}
use Rattle.cc_base.specs.Edges.{AreBelow, IsMarked, Leads}
use Rattle.cc_base.specs.Paths.{Reaches, More}
use Rattle.cc_base.specs.Paths as paths
use Rattle.cc_first_runs.specs.Program as tree
use Rattle.cc_first_runs.specs.Program.{IsFunction, IsSite}
use Rattle.cc_first_runs.specs.Points.{Node, Block, Statement, Call, Designator, part, Point, Root, Entry, Exit, Before, At, After, behind_parts, Steps, Begin, Leaf, First, Next, Last, Finish, Across, Inside, Start, End, Into, Back, IsLive, IsReachable}
use Rattle.cc_first.specs.SoundProgram.{IsSound}
use Rattle.cc_first.specs.Numbers.{place, before_of, is_last_call, IsEdgeOf, IsThrough, HasCall}
use Rattle.cc_first.specs.Views.{name_view, calls_view, program_view}
use Rattle.cc_first.specs.declared.program.Call as code
use Rattle.cc_first.specs.declared.program.Function as code_function
use Rattle.cc_first.specs.declared.program.Program.{Program}
use Rattle.cc_first.proofs.PathPlaces.{before_cases, place_own, last_ends, ends_last, none_view, nested_at, flat_at}
use Rattle.cc_first.proofs.PathPoints.{block_part, block_end, at_first, at_next, at_exit, at_through, reached_live}
use Rattle.cc_first.proofs.PathSites.{view_of, function_view, function_seen, linked_at, caller_of, is_caller_of, site_at, callee_of, flat_of}

-- the number of functions, and the calls
abbrev count_of : Program → ℕ
count_of program = length program.functions.items

abbrev calls_of : Program → List code.Call
calls_of program = program.calls.items

-- what the edges are
abbrev pub AreEdges : Program → List Bool → List Edge → Type 0
AreEdges program live edges = (edge : Edge) → Contains edges edge ↔ (((k : ℕ) × IsEdgeOf (length program.functions.items) program.calls.items live k edge) ⊎ ((f : ℕ) × IsThrough (length program.functions.items) program.calls.items f edge))

abbrev pub AreLive : Program → List Bool → Type 0
AreLive program live = (f : ℕ) → IsMarked live f ↔ IsLive (program_view program) program.entry f

-- a path leads to the control point
abbrev Reached : Program → Point → Type 0
Reached program point = IsReachable (program_view program) program.entry point

-- what is claimed of a number: the control point that has it can be reached
record IsClaimed (program : Program) (p : ℕ) : Type 0 where
  entry : p < count_of program → Reached program (Entry p)
  exit : (f : ℕ) → f < count_of program → p ≡ count_of program + f → Reached program (Exit f)
  after : (k : ℕ) (call : code.Call) → slice_get (calls_of program) k ≡ Some call → p ≡ 2 * count_of program + k → Reached program (After call.caller (Call (place (calls_of program) k call.caller)))

claim_entry : (program : Program) (p : ℕ) → p < count_of program → Reached program (Entry p) → IsClaimed program p
claim_entry program p lt path = record {
  entry = λ _. path;
  exit = λ f below is. absurd (omega arith);
  after = λ k call at is. absurd (omega arith);
}

claim_exit : (program : Program) (p f : ℕ) → f < count_of program → p ≡ count_of program + f → Reached program (Exit f) → IsClaimed program p
claim_exit program p f lt is path = record {
  entry = λ below. absurd (omega arith);
  exit = λ g below same. (let e : f ≡ g = omega arith in subst (λ h. Reached program (Exit h)) e path);
  after = λ k call at same. absurd (omega arith);
}

claim_after : (program : Program) (p k : ℕ) (call : code.Call) → slice_get (calls_of program) k ≡ Some call → p ≡ 2 * count_of program + k → Reached program (After call.caller (Call (place (calls_of program) k call.caller))) → IsClaimed program p
claim_after program p k call at is path = record {
  entry = λ below. absurd (omega arith);
  exit = λ f below same. absurd (omega arith);
  after = λ j other there same.
      (let e : k ≡ j = omega arith in
      let c : call ≡ other = same_Some call other (sym at ∙ ap (slice_get (calls_of program)) e ∙ there) in
      subst (λ i. Reached program (After other.caller (Call (place (calls_of program) i other.caller)))) e
      (subst (λ (d : code.Call). Reached program (After d.caller (Call (place (calls_of program) k d.caller)))) c path));
}

module _ (program : Program) (sound : IsSound program) (k : ℕ) (call : code.Call) (at : slice_get (calls_of program) k ≡ Some call) where
  -- the function in which the call stands, as it is seen
  is_in : IsFunction (program_view program) call.caller (view_of (calls_of program) call.caller (caller_of program k call sound at))
  is_in = function_view program call.caller (caller_of program k call sound at) (is_caller_of program k call sound at)

  place_within : place (calls_of program) k call.caller < length (calls_view (calls_of program) call.caller)
  place_within = slice_get_within (calls_view (calls_of program) call.caller) (place (calls_of program) k call.caller) (name_view call.name) (nested_at (calls_of program) k call call.caller at refl)

  -- where the point before the call is claimed, the call is reached
  call_reached : (p : ℕ) → p ≡ before_of (count_of program) (calls_of program) k → IsClaimed program p → Reached program (At call.caller (place (calls_of program) k call.caller))
  call_reached p is claimed = ⊎_elim
      (λ body.
      let j = body.number in
      let earlier = body.earlier in
      let reached : Reached program (After call.caller (Call (place (calls_of program) j call.caller))) =
      subst (λ f. Reached program (After f (Call (place (calls_of program) j f)))) body.caller (claimed.after j earlier body.at (is ∙ body.point)) in
      let placed : place (calls_of program) k call.caller ≡ suc (place (calls_of program) j call.caller) =
      ap (λ n. place (calls_of program) n call.caller) body.next ∙ place_own (calls_of program) j earlier call.caller body.at body.caller in
      let within : suc (place (calls_of program) j call.caller) < length (calls_view (calls_of program) call.caller) = (let w = place_within in omega arith) in
      subst (λ i. Reached program (At call.caller i)) (sym placed)
      (at_next (program_view program) program.entry call.caller (view_of (calls_of program) call.caller (caller_of program k call sound at)) is_in (place (calls_of program) j call.caller) within reached))
      (λ head.
      let below : call.caller < count_of program = (linked_at program k call sound at).caller in
      let same : p ≡ call.caller = is ∙ head.point in
      let reached : Reached program (Entry call.caller) = subst (λ f. Reached program (Entry f)) same (claimed.entry (let s = same in omega arith)) in
      let within : 0 < length (calls_view (calls_of program) call.caller) = (let w = place_within in omega arith) in
      subst (λ i. Reached program (At call.caller i)) (sym head.placed)
      (at_first (program_view program) program.entry call.caller (view_of (calls_of program) call.caller (caller_of program k call sound at)) is_in within reached))
      (before_cases (count_of program) (calls_of program) k call sound.ascending at)

module _ (program : Program) (sound : IsSound program) (live : List Bool) (edges : List Edge) (are_live : AreLive program live) (are_edges : AreEdges program live edges) where
  callee_below : (k : ℕ) (call : code.Call) → slice_get (calls_of program) k ≡ Some call → call.callee < count_of program
  callee_below k call at = (let linked = linked_at program k call sound at in slice_get_within program.functions.items call.callee linked.callee linked.is_callee)

  -- an edge leads from a claimed number to a claimed one
  claim_step : (a b : ℕ) → Leads edges a b → IsClaimed program a → IsClaimed program b
  claim_step a b leads claimed = ⊎_elim
      (λ of. by_call of.0 of.1.0 of.1.1 of.1.2)
      (λ through.
      let f = through.0 in
      let from : a ≡ through.0 = ap (λ (e : Edge). e.from) through.1.2 in
      let to : b ≡ count_of program + through.0 = ap (λ (e : Edge). e.to) through.1.2 in
      let below : through.0 < count_of program = through.1.0 in
      let there = slice_get-get_or program.functions.items f nothing below in
      claim_exit program b f below to
      (at_through (program_view program) program.entry f (view_of (calls_of program) f (get_or program.functions.items f nothing)) (function_view program f (get_or program.functions.items f nothing) there)
      (none_view (calls_of program) f through.1.1)
      (subst (λ g. Reached program (Entry g)) from (claimed.entry (omega arith)))))
      ((are_edges (record { from = a; to = b })).0 leads)
    where
      nothing : code_function.Function
      nothing = record { head = record { text = record { ref_ptr = (0, 0); now = [] }; spot = record { line = 0; column = 0 } }; file = record { 0 = 0 } }

      by_call : (k : ℕ) (call : code.Call) → slice_get (calls_of program) k ≡ Some call
          → (◌≡◌ {A = Edge} (record { from = a; to = b }) (record { from = before_of (count_of program) (calls_of program) k; to = call.callee }))
          ⊎ (((is_last_call (calls_of program) k ≡ true) × (◌≡◌ {A = Edge} (record { from = a; to = b }) (record { from = 2 * count_of program + k; to = count_of program + call.caller })))
          ⊎ (IsMarked live call.caller × (◌≡◌ {A = Edge} (record { from = a; to = b }) (record { from = count_of program + call.callee; to = 2 * count_of program + k })))) → IsClaimed program b
      by_call k call at cases = ⊎_elim
          (λ e.
          let reached = call_reached program sound k call at a (ap (λ (d : Edge). d.from) e) claimed in
          let to : b ≡ call.callee = ap (λ (d : Edge). d.to) e in
          subst (IsClaimed program) (sym to)
          (claim_entry program call.callee (callee_below k call at) (More reached (Into (reached_live (program_view program) program.entry (At call.caller (place (calls_of program) k call.caller)) reached) (site_at program k call sound at)))))
          (λ others. ⊎_elim
          (λ last.
          let reached = claimed.after k call at (ap (λ (d : Edge). d.from) last.1) in
          claim_exit program b call.caller (linked_at program k call sound at).caller (ap (λ (d : Edge). d.to) last.1)
          (at_exit (program_view program) program.entry call.caller (view_of (calls_of program) call.caller (caller_of program k call sound at)) (is_in program sound k call at) (place (calls_of program) k call.caller)
          (last_ends (calls_of program) k call sound.ascending at last.0) reached))
          (λ back.
          let reached = claimed.exit call.callee (callee_below k call at) (ap (λ (d : Edge). d.from) back.1) in
          claim_after program b k call at (ap (λ (d : Edge). d.to) back.1) (More reached (Back ((are_live call.caller).0 back.0) (site_at program k call sound at))))
          others)
          cases

  claims : (p : ℕ) → Reaches (Leads edges) program.entry p → IsClaimed program p
  claims p paths.Start = claim_entry program program.entry sound.entry (More paths.Start Start)
  claims p (More {a = a} path leads) = claim_step a p leads (claims a path)

  -- a number is reached over the edges
  abbrev Marked : ℕ → Type 0
  Marked p = Reaches (Leads edges) program.entry p

  abbrev BeforeCall : ℕ → ℕ → Type 0
  BeforeCall f i = (k : ℕ) (call : code.Call) → slice_get (calls_of program) k ≡ Some call → call.caller ≡ f → place (calls_of program) k f ≡ i → Marked (before_of (count_of program) (calls_of program) k)

  abbrev BehindCall : ℕ → ℕ → Type 0
  BehindCall f i = (k : ℕ) (call : code.Call) → slice_get (calls_of program) k ≡ Some call → call.caller ≡ f → place (calls_of program) k f ≡ i → Marked (2 * count_of program + k)

  -- the number of the control point's stretch is reached
  abbrev IsCovered : Point → Type 0
  IsCovered Root = Unit {0}
  IsCovered (Entry f) = Marked f
  IsCovered (Exit f) = Marked (count_of program + f)
  IsCovered (Before f Block) = Marked f
  IsCovered (Before f (Statement i)) = BeforeCall f i
  IsCovered (Before f (Call i)) = BeforeCall f i
  IsCovered (Before f (Designator i)) = BeforeCall f i
  IsCovered (At f i) = BeforeCall f i
  IsCovered (After f Block) = Marked (count_of program + f)
  IsCovered (After f (Statement i)) = BehindCall f i
  IsCovered (After f (Call i)) = BehindCall f i
  IsCovered (After f (Designator i)) = BeforeCall f i

  on_edge : (a b : ℕ) → Marked a → (((k : ℕ) × IsEdgeOf (count_of program) (calls_of program) live k (record { from = a; to = b })) ⊎ ((f : ℕ) × IsThrough (count_of program) (calls_of program) f (record { from = a; to = b }))) → Marked b
  on_edge a b path edge = More path ((are_edges (record { from = a; to = b })).1 edge)

  -- which part of a block there is
  block_inner : (function : tree.Function) (k : ℕ) (inner : Node) → part function Block k ≡ Some inner → (k < length function.calls) × (Statement k ≡ inner)
  block_inner function k inner is = ⊎_elim
      (λ lt. (lt, same_Some (Statement k) inner (sym (block_part function k lt) ∙ is)))
      (λ le. absurd (let e = sym (block_end function k le) ∙ is in cc))
      (cases_lt k (length function.calls))

  block_none : (function : tree.Function) (k : ℕ) → part function Block k ≡ None → length function.calls ≤ k
  block_none function k is = ⊎_elim
      (λ lt. absurd (let e = sym (block_part function k lt) ∙ is in cc))
      (λ le. le)
      (cases_lt k (length function.calls))

  -- from before a block to behind it, where it is empty
  empty_block : (f : ℕ) (function : tree.Function) → IsFunction (program_view program) f function → length function.calls ≤ 0 → Marked f → Marked (count_of program + f)
  empty_block f function is none path =
      let seen = function_seen program f function is in
      let empty : length (calls_view (calls_of program) f) ≤ 0 = subst (λ (g : tree.Function). length g.calls ≤ 0) seen.same none in
      on_edge f (count_of program + f) path (inr (f, (slice_get_within program.functions.items f seen.function seen.at, lacks empty, refl)))
    where
      lacks : length (calls_view (calls_of program) f) ≤ 0 → HasCall (calls_of program) f → ⊥
      lacks empty has = (let stands = nested_at (calls_of program) has.0 has.1 f has.2 has.3 in
          let within = slice_get_within (calls_view (calls_of program) f) (place (calls_of program) has.0 f) (name_view has.1.name) stands in omega arith)

  -- before the first call
  first_call : (f : ℕ) → Marked f → BeforeCall f 0
  first_call f path k call at caller placed = ⊎_elim
      (λ body. absurd (
      let own = place_own (calls_of program) body.number body.earlier f body.at (body.caller ∙ caller) in
      let e : place (calls_of program) k f ≡ place (calls_of program) (suc body.number) f = ap (λ n. place (calls_of program) n f) body.next in
      omega arith))
      (λ head. subst Marked (sym (head.point ∙ caller)) path)
      (before_cases (count_of program) (calls_of program) k call sound.ascending at)

  -- before the next call
  next_call : (f i : ℕ) → BehindCall f i → BeforeCall f (suc i)
  next_call f i behind k call at caller placed = ⊎_elim
      (λ body.
      let own = place_own (calls_of program) body.number body.earlier f body.at (body.caller ∙ caller) in
      let e : place (calls_of program) k f ≡ place (calls_of program) (suc body.number) f = ap (λ n. place (calls_of program) n f) body.next in
      let there : place (calls_of program) body.number f ≡ i = omega arith in
      subst Marked (sym body.point) (behind body.number body.earlier body.at (body.caller ∙ caller) there))
      (λ head. absurd (
      let none : place (calls_of program) k f ≡ 0 = subst (λ g. place (calls_of program) k g ≡ 0) caller head.placed in
      omega arith))
      (before_cases (count_of program) (calls_of program) k call sound.ascending at)

  -- behind the last call
  last_call : (f i : ℕ) (function : tree.Function) → IsFunction (program_view program) f function → i < length function.calls → length function.calls ≤ suc i → BehindCall f i → Marked (count_of program + f)
  last_call f i function is within ends behind =
      let seen = function_seen program f function is in
      let inside : i < length (calls_view (calls_of program) f) = subst (λ (g : tree.Function). i < length g.calls) seen.same within in
      let end : length (calls_view (calls_of program) f) ≤ suc i = subst (λ (g : tree.Function). length g.calls ≤ suc i) seen.same ends in
      let none : tree.Name = record { text = []; spot = record { line = 0; column = 0 } } in
      let found = flat_at (calls_of program) f i (get_or (calls_view (calls_of program) f) i none) (slice_get-get_or (calls_view (calls_of program) f) i none inside) in
      let limit : length (calls_view (calls_of program) found.call.caller) ≤ suc (place (calls_of program) found.number found.call.caller) =
      subst (λ g. length (calls_view (calls_of program) g) ≤ suc (place (calls_of program) found.number g)) (sym found.caller) (let p = found.placed in omega arith) in
      let last = ends_last (calls_of program) found.number found.call found.at limit in
      on_edge (2 * count_of program + found.number) (count_of program + f) (behind found.number found.call found.at found.caller found.placed)
      (inl (found.number, (found.call, found.at, inr (inl (last, ap (λ g. record { from = 2 * count_of program + found.number; to = count_of program + g }) (sym found.caller))))))

  leaf_covered : (f : ℕ) (node : Node) (function : tree.Function) → IsFunction (program_view program) f function → part function node 0 ≡ None → IsCovered (Before f node) → IsCovered (After f node)
  leaf_covered f Block function is none covered = empty_block f function is (block_none function 0 none) covered
  leaf_covered f (Statement i) function is none covered = absurd (let e = none in cc)
  leaf_covered f (Call i) function is none covered = absurd (let e = none in cc)
  leaf_covered f (Designator i) function is none covered = covered

  first_covered : (f : ℕ) (node inner : Node) (function : tree.Function) → part function node 0 ≡ Some inner → IsCovered (Before f node) → IsCovered (Before f inner)
  first_covered f Block inner function is covered = subst (λ n. IsCovered (Before f n)) (block_inner function 0 inner is).1 (first_call f covered)
  first_covered f (Statement i) inner function is covered = subst (λ n. IsCovered (Before f n)) (same_Some (Call i) inner is) covered
  first_covered f (Call i) inner function is covered = subst (λ n. IsCovered (Before f n)) (same_Some (Designator i) inner is) covered
  first_covered f (Designator i) inner function is covered = absurd (let e = is in cc)

  next_covered : (f : ℕ) (node : Node) (k : ℕ) (inner next : Node) (function : tree.Function) → part function node k ≡ Some inner → part function node (suc k) ≡ Some next → IsCovered (After f inner) → IsCovered (Before f next)
  next_covered f Block k inner next function is then covered =
      subst (λ n. IsCovered (Before f n)) (block_inner function (suc k) next then).1 (next_call f k (subst (λ n. IsCovered (After f n)) (sym (block_inner function k inner is).1) covered))
  next_covered f (Statement i) k inner next function is then covered = absurd (let e = then in cc)
  next_covered f (Call i) k inner next function is then covered = absurd (let e = then in cc)
  next_covered f (Designator i) k inner next function is then covered = absurd (let e = then in cc)

  last_covered : (f : ℕ) (node : Node) (k : ℕ) (inner : Node) (function : tree.Function) → IsFunction (program_view program) f function → part function node k ≡ Some inner → part function node (suc k) ≡ None → IsCovered (After f inner) → IsCovered (behind_parts f node)
  last_covered f Block k inner function is has none covered =
      (let p = block_inner function k inner has in
      last_call f k function is p.0 (block_none function (suc k) none) (subst (λ n. IsCovered (After f n)) (sym p.1) covered))
  last_covered f (Statement i) zero inner function is has none covered = subst (λ n. IsCovered (After f n)) (sym (same_Some (Call i) inner has)) covered
  last_covered f (Statement i) (suc k) inner function is has none covered = absurd (let e = has in cc)
  last_covered f (Call i) zero inner function is has none covered = subst (λ n. IsCovered (After f n)) (sym (same_Some (Designator i) inner has)) covered
  last_covered f (Call i) (suc k) inner function is has none covered = absurd (let e = has in cc)
  last_covered f (Designator i) k inner function is has none covered = absurd (let e = has in cc)

  step_covered : (a b : Point) → Steps (program_view program) a b → IsCovered a → IsCovered b
  step_covered a b (Begin is) covered = covered
  step_covered a b (Leaf {f = f} {function = function} {node = node} is none) covered = leaf_covered f node function is none covered
  step_covered a b (First {f = f} {function = function} {node = node} {inner = inner} is has) covered = first_covered f node inner function has covered
  step_covered a b (Next {f = f} {function = function} {inner = inner} {next = next} node k is has then) covered = next_covered f node k inner next function has then covered
  step_covered a b (Last {f = f} {function = function} {inner = inner} node k is has none) covered = last_covered f node k inner function is has none covered
  step_covered a b (Finish is) covered = covered

  into_covered : (f i g : ℕ) → IsSite (program_view program) f i g → BeforeCall f i → Marked g
  into_covered f i g site covered =
      let flat = flat_of program f i g sound site in
      on_edge (before_of (count_of program) (calls_of program) flat.number) g (covered flat.number flat.call flat.at flat.caller flat.placed)
      (inl (flat.number, (flat.call, flat.at, inl (ap (λ h. record { from = before_of (count_of program) (calls_of program) flat.number; to = h }) (sym flat.callee)))))

  back_covered : (f i g : ℕ) → IsLive (program_view program) program.entry f → IsSite (program_view program) f i g → Marked (count_of program + g) → BehindCall f i
  back_covered f i g caller_live site covered k call at caller placed =
      let marked : IsMarked live call.caller = (are_live call.caller).1 (subst (λ h. IsLive (program_view program) program.entry h) (sym caller) caller_live) in
      let same : call.callee ≡ g = callee_of program f i g call k sound site at caller placed in
      on_edge (count_of program + g) (2 * count_of program + k) covered
      (inl (k, (call, at, inr (inr (marked, ap (λ h. record { from = count_of program + h; to = 2 * count_of program + k }) (sym same))))))

  across_covered : (a b : Point) → Across (program_view program) program.entry a b → IsCovered a → IsCovered b
  across_covered a b (Inside step) covered = step_covered a b step covered
  across_covered a b Start covered = paths.Start
  across_covered a b End covered = tt
  across_covered a b (Into {f = f} {i = i} {g = g} caller_live site) covered = into_covered f i g site covered
  across_covered a b (Back {f = f} {i = i} {g = g} caller_live site) covered = back_covered f i g caller_live site covered

  all_covered : (point : Point) → Reached program point → IsCovered point
  all_covered point paths.Start = tt
  all_covered point (More {a = a} path next) = across_covered a point next (all_covered a path)

  -- the point before a call is reached over the edges exactly where a path leads to the call
  pub exact_at : (k : ℕ) (call : code.Call) → slice_get (calls_of program) k ≡ Some call → Reaches (Leads edges) program.entry (before_of (length program.functions.items) program.calls.items k) ↔ IsReachable (program_view program) program.entry (At call.caller (place program.calls.items k call.caller))
  exact_at k call at = (
    λ marked. call_reached program sound k call at (before_of (count_of program) (calls_of program) k) refl (claims (before_of (count_of program) (calls_of program) k) marked),
    λ path. all_covered (At call.caller (place (calls_of program) k call.caller)) path k call at refl refl,
  )

  -- the edges stand between the numbers of points
  pub edges_within : AreBelow (2 * length program.functions.items + length program.calls.items) edges
  edges_within n d lt = ⊎_elim
      (λ of. of_call (get_or edges n d) of.0 of.1.0 of.1.1 of.1.2)
      (λ through.
      let from : (get_or edges n d).from ≡ through.0 = ap (λ (e : Edge). e.from) through.1.2 in
      let to : (get_or edges n d).to ≡ count_of program + through.0 = ap (λ (e : Edge). e.to) through.1.2 in
      let below : through.0 < count_of program = through.1.0 in
      (omega arith, omega arith))
      ((are_edges (get_or edges n d)).0 (Contains-get_or edges n d lt))
    where
      point_within : (k : ℕ) (call : code.Call) → slice_get (calls_of program) k ≡ Some call → before_of (count_of program) (calls_of program) k < 2 * count_of program + length (calls_of program)
      point_within k call at = ⊎_elim
          (λ body. (let p = body.point in let w = slice_get_within (calls_of program) body.number body.earlier body.at in omega arith))
          (λ head. (let p = head.point in let c = (linked_at program k call sound at).caller in omega arith))
          (before_cases (count_of program) (calls_of program) k call sound.ascending at)

      of_call : (edge : Edge) (k : ℕ) (call : code.Call) → slice_get (calls_of program) k ≡ Some call
          → (edge ≡ record { from = before_of (count_of program) (calls_of program) k; to = call.callee })
          ⊎ (((is_last_call (calls_of program) k ≡ true) × (edge ≡ record { from = 2 * count_of program + k; to = count_of program + call.caller }))
          ⊎ (IsMarked live call.caller × (edge ≡ record { from = count_of program + call.callee; to = 2 * count_of program + k })))
          → (edge.from < 2 * count_of program + length (calls_of program)) × (edge.to < 2 * count_of program + length (calls_of program))
      of_call edge k call at cases =
          let here = slice_get_within (calls_of program) k call at in
          let caller = (linked_at program k call sound at).caller in
          let callee = callee_below k call at in
          let point = point_within k call at in
          ⊎_elim
          (λ e. (let from = ap (λ (d : Edge). d.from) e in let to = ap (λ (d : Edge). d.to) e in (omega arith, omega arith)))
          (λ others. ⊎_elim
          (λ p. (let from = ap (λ (d : Edge). d.from) p.1 in let to = ap (λ (d : Edge). d.to) p.1 in (omega arith, omega arith)))
          (λ p. (let from = ap (λ (d : Edge). d.from) p.1 in let to = ap (λ (d : Edge). d.to) p.1 in (omega arith, omega arith)))
          others)
          cases

  -- the point before each call is one of them
  pub before_within : (k : ℕ) (call : code.Call) → slice_get (calls_of program) k ≡ Some call → before_of (length program.functions.items) program.calls.items k < 2 * length program.functions.items + length program.calls.items
  before_within k call at = ⊎_elim
      (λ body. (let p = body.point in let w = slice_get_within (calls_of program) body.number body.earlier body.at in omega arith))
      (λ head. (let p = head.point in let c = (linked_at program k call sound at).caller in omega arith))
      (before_cases (count_of program) (calls_of program) k call sound.ascending at)

  -- what was read at the point before each call says whether a path leads to the call
  pub reached_exact : (marks reached : List Bool) (n : ℕ) → length program.calls.items ≤ n → ((k : ℕ) → k < n → slice_get reached k ≡ slice_get marks (before_of (length program.functions.items) program.calls.items k)) → ((p : ℕ) → IsMarked marks p ↔ Reaches (Leads edges) program.entry p) → (k : ℕ) (call : code.Call) → slice_get program.calls.items k ≡ Some call → IsMarked reached k ↔ IsReachable (program_view program) program.entry (At call.caller (place program.calls.items k call.caller))
  reached_exact marks reached n long same exact k call at =
      let p = before_of (count_of program) (calls_of program) k in
      let here : slice_get reached k ≡ slice_get marks (before_of (count_of program) (calls_of program) k) = same k (let lt = slice_get_within (calls_of program) k call at in omega arith) in
      (λ marked. (exact_at k call at).0 ((exact p).0 (sym here ∙ marked)), λ path. here ∙ (exact p).1 ((exact_at k call at).1 path))

-- one more is read
pub read_more : (reached marks : List Bool) (functions : ℕ) (calls : List code.Call) (i : ℕ) (x : Bool) → length reached ≡ i → ((k : ℕ) → k < i → slice_get reached k ≡ slice_get marks (before_of functions calls k)) → slice_get marks (before_of functions calls i) ≡ Some x → (k : ℕ) → k < i + 1 → slice_get (reached ++ x ∷ []) k ≡ slice_get marks (before_of functions calls k)
read_more reached marks functions calls i x long same new k lt = ⊎_elim
    (λ e. ap (slice_get (reached ++ x ∷ [])) (e ∙ sym long) ∙ slice_get-last reached x ∙ sym (ap (λ j. slice_get marks (before_of functions calls j)) e ∙ new))
    (λ differ. slice_get-front reached x k (omega arith) ∙ same k (omega arith))
    (cases_eq k i)
  where
    slice_get-last : (xs : List Bool) (y : Bool) → slice_get (xs ++ y ∷ []) (length xs) ≡ Some y
    slice_get-last xs y = slice_get-get_or (xs ++ y ∷ []) (length xs) y (omega (arith, length-append xs (y ∷ []))) ∙ ap Some (get_or_at xs y [] y (length xs) refl)

    slice_get-front : (xs : List Bool) (y : Bool) (j : ℕ) → j < length xs → slice_get (xs ++ y ∷ []) j ≡ slice_get xs j
    slice_get-front xs y j within = slice_get-get_or (xs ++ y ∷ []) j y (omega (arith, length-append xs (y ∷ []))) ∙ ap Some (get_or_append_left xs (y ∷ []) y j within) ∙ sym (slice_get-get_or xs j y within)
