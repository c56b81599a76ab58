-- A run goes along a path through the control points.
use Rattle.std.proofs.Common.{◌≡◌, ℕ, zero, suc, ◌+◌, ◌≤◌, List, [], ◌∷◌, length, Option, Some, None, refl, sym, ap, ◌∙◌, subst, arith}
use Rattle.std.specs.Prelude.{false, Bool, nat_lt, slice_get, cond}
use Rattle.std.proofs.lemmas.Option.{slice_get_within}
use Rattle.std.proofs.lemmas.Bool.{lt-ltb}
use Rattle.std.proofs.lemmas.Bool.Decides.{nat_tests}
use Rattle.cc_base.specs.Paths.{Reaches, Start, More}
use Rattle.cc_first_runs.specs.Program.{Name, Function, Program, IsFunction, IsSite}
use Rattle.cc_first_runs.specs.Points.{Node, Block, Statement, Call, part, Point, Root, Entry, Exit, Before, At, After, behind_parts, Steps, Begin, Leaf, First, Next, Last, Finish, Step, Over, IsLive, Across, Into, Back, Start as From_root, End as To_root}
use Rattle.cc_first_runs.specs.Events.{Site}
use Rattle.cc_first_runs.specs.Parts.{State, Run, Then, Goes, Stops, Part, go_on, ◌>>◌, give, turn_of, events_of}
use Rattle.cc_first_runs.specs.Runs.{Task, Enters, designated, eval_call, exec_from, enter, runs, run_calls}
use Rattle.cc_first_runs.specs.Walks.{Activation, active_after, at_call, after_call, point_after, IsWithin, Happens, HappenFrom}
use Rattle.cc_first_runs.specs.Laws.{AreCallsOf, RunsArePaths}
use Rattle.cc_first_runs.proofs.Names.{HasName, designated_has_name}

-- one path behind another
pub reaches_on : {A : Type 0} {Next : A → A → Type 0} {a b : A} (c : A) → Reaches Next a b → Reaches Next b c → Reaches Next a c
reaches_on c ab Start = ab
reaches_on c ab (More {a = m} bm next) = More (reaches_on m ab bm) next

-- a list has no item past its end
pub none_past : {X : Type 0} (xs : List X) (i : ℕ) → slice_get xs i ≡ None → length xs ≤ i
none_past [] i at = omega arith
none_past (x ∷ xs) zero at = cc
none_past (x ∷ xs) (suc i) at = omega (arith, none_past xs i at)

-- the parts of a block are its statements
block_part : (function : Function) (i : ℕ) (call : Name) → slice_get function.calls i ≡ Some call → part function Block i ≡ Some (Statement i)
block_part function i call at =
    ap (λ (b : Bool). cond b (Some (Statement i)) None) (lt-ltb i (length function.calls) (slice_get_within function.calls i call at))

block_end : (function : Function) (i : ℕ) → slice_get function.calls i ≡ None → part function Block i ≡ None
block_end function i at =
    let past : length function.calls ≤ i = none_past function.calls i at in
    let ended : nat_lt i (length function.calls) ≡ false = grind (arith, nat_tests) in
    ap (λ (b : Bool). cond b (Some (Statement i)) None) ended

module _ (program : Program) (entry : ℕ) where
  -- The events of what is executed lie on a path from the point. Where it goes on, `after` are the activations, and
  -- steps inside a function lead to the point `to`, which lies within the last activation.
  abbrev Along : {A : Type 0} → List Activation → Point → Run A → List Activation → Point → Type 0
  Along active point (Then event rest) after to =
      Happens program entry active point event × Along (active_after active event) (point_after active event) rest after to
  Along active point (Goes value state) after to = (active ≡ after) × Reaches (Steps program) point to × IsWithin program after to
  Along active point (Stops end) after to = Unit {0}

  -- steps before what is executed
  steps_along : {A : Type 0} (active : List Activation) (from point : Point) (r : Run A) (after : List Activation) (to : Point) → Reaches (Steps program) from point → Along active point r after to → Along active from r after to
  steps_along active from point (Then event rest) after to path h =
      (record { steps = reaches_on _ path h.0.steps; within = h.0.within; crosses = h.0.crosses; ends = h.0.ends }, h.1)
  steps_along active from point (Goes value state) after to path h = (h.0, reaches_on _ path h.1, h.2)
  steps_along active from point (Stops end) after to path h = tt

  go_on_along : {A B : Type 0} (active : List Activation) (from : Point) (r : Run A) (f : A → Part B) (middle : List Activation) (point : Point) (after : List Activation) (to : Point) → Along active from r middle point → (IsWithin program middle point → (x : A) (state : State) → Along middle point (f x state) after to) → Along active from (go_on r f) after to
  go_on_along active from (Then event rest) f middle point after to h g = (h.0, go_on_along _ _ rest f middle point after to h.1 g)
  go_on_along active from (Goes value state) f middle point after to h g =
      subst (λ a. Along a from (f value state) after to) (sym h.0) (steps_along middle from point (f value state) after to h.1 (g h.2 value state))
  go_on_along active from (Stops end) f middle point after to h g = tt

  -- A part leads from a point to a point: from each state it goes along a path from the one to the other, unless it
  -- ends the run, and leaves the same activations.
  pub record Leads {A : Type 0} (active : List Activation) (from to : Point) (what : Part A) : Type 0 where
    by : IsWithin program active from → (state : State) → Along active from (what state) active to

  and_so : {A B : Type 0} (active : List Activation) (a b c : Point) (m : Part A) (n : Part B) → Leads active a b m → Leads active b c n → Leads active a c (m >> n)
  and_so active a b c m n h g = record { by = λ w state. go_on_along active a (m state) (λ x. n) active b active c (h.by w state) (λ w' x. g.by w') }

  -- steps stay within the last activation
  steps_within : (last : Activation) (active : List Activation) (a b : Point) → Reaches (Steps program) a b → IsWithin program (last ∷ active) a → IsWithin program (last ∷ active) b
  steps_within last active a b Start w = w
  steps_within last active a b (More {a = m} path next) w = More (steps_within last active a m path w) (Step next)

  steps_lead : {A : Type 0} (last : Activation) (active : List Activation) (a b c : Point) (m : Part A) → Reaches (Steps program) a b → Leads (last ∷ active) b c m → Leads (last ∷ active) a c m
  steps_lead last active a b c m path h =
      record { by = λ w state. steps_along (last ∷ active) a b (m state) (last ∷ active) c path (h.by (steps_within last active a b path w) state) }

  along_steps : {A : Type 0} (active : List Activation) (from : Point) (r : Run A) (last : Activation) (after : List Activation) (point to : Point) → Along active from r (last ∷ after) point → Reaches (Steps program) point to → Along active from r (last ∷ after) to
  along_steps active from (Then event rest) last after point to h path = (h.0, along_steps _ _ rest last after point to h.1 path)
  along_steps active from (Goes value state) last after point to h path = (h.0, reaches_on to h.1 path, steps_within last after point to path h.2)
  along_steps active from (Stops end) last after point to h path = tt

  leads_steps : {A : Type 0} (last : Activation) (active : List Activation) (a b c : Point) (m : Part A) → Leads (last ∷ active) a b m → Reaches (Steps program) b c → Leads (last ∷ active) a c m
  leads_steps last active a b c m h path = record { by = λ w state. along_steps (last ∷ active) a (m state) last active b c (h.by w state) path }

  only_steps : (last : Activation) (active : List Activation) (a b : Point) → Reaches (Steps program) a b → Leads (last ∷ active) a b (give (tt {0}))
  only_steps last active a b path = record { by = λ w state. (refl, path, steps_within last active a b path w) }

  -- a call that may happen: a path across leads from it into the function and back, and one within leads past it
  pub record IsCall (active : List Activation) (site : Option Site) (g : ℕ) : Type 0 where
    live : IsLive program entry g
    into : Across program entry (at_call site) (Entry g)
    back : Across program entry (Exit g) (after_call site)
    past : IsWithin program active (at_call site) → IsWithin program active (after_call site)

  -- what a task does leads past its call
  abbrev CallsLead : (Task → Part (Unit {0})) → Type 0
  CallsLead next = (active : List Activation) (site : Option Site) (g : ℕ) → IsCall active site g → Leads active (at_call site) (after_call site) (next (Enters site g))

  -- the point leads to part number k of an occurrence, or behind its parts
  record LeadsToPart (f : ℕ) (function : Function) (node : Node) (k : ℕ) (point : Point) : Type 0 where
    to_part : (inner : Node) → part function node k ≡ Some inner → Steps program point (Before f inner)
    behind : part function node k ≡ None → Steps program point (behind_parts f node)

  -- a call in the last activation
  module _ (next : Task → Part (Unit {0})) (calls_lead : CallsLead next) (last : Activation) (active : List Activation) (function : Function) (is : IsFunction program last.function function) (live : IsLive program entry last.function) where
    call_leads : (i : ℕ) (call : Name) → slice_get function.calls i ≡ Some call → (o : Option ℕ) → designated program call ≡ o → Leads (last ∷ active) (At last.function i) (After last.function (Call i)) (eval_call next (record { f = last.function; i = i }) o)
    call_leads i call at None e = record { by = λ w state. tt }
    call_leads i call at (Some g) e =
        let has : HasName program g call = designated_has_name program function call g e in
        let site : IsSite program last.function i g = record { caller = function; call = call; callee = has.callee; is_caller = is; is_call = at; is_callee = has.is_callee; named = has.named } in
        calls_lead (last ∷ active) (Some (record { f = last.function; i = i })) g (record {
          live = More live (i, site);
          into = Into live site;
          back = Back live site;
          past = λ w. More w (Over is at);
        })

    -- a statement leads from before it to behind it
    statement_leads : (i : ℕ) (call : Name) → slice_get function.calls i ≡ Some call → Leads (last ∷ active) (Before last.function (Statement i)) (After last.function (Statement i)) (eval_call next (record { f = last.function; i = i }) (designated program call))
    statement_leads i call at =
        let to_call : Reaches (Steps program) (Before last.function (Statement i)) (At last.function i) =
        More (More (More (More Start (First is refl)) (First is refl)) (Leaf is refl)) (Last (Call i) 0 is refl refl) in
        leads_steps last active _ (After last.function (Call i)) _ _
        (steps_lead last active _ _ _ _ to_call (call_leads i call at (designated program call) refl))
        (More Start (Last (Statement i) 0 is refl refl))

    -- the block's statements from number i on lead behind the block
    statements_lead : (i : ℕ) (calls : List Name) → ((k : ℕ) → slice_get calls k ≡ slice_get function.calls (i + k)) → (point : Point) → LeadsToPart last.function function Block i point → Leads (last ∷ active) point (After last.function Block) (exec_from program next last.function i calls)
    statements_lead i [] same point to =
        let none : slice_get function.calls i ≡ None = ap (slice_get function.calls) (omega arith) ∙ sym (same 0) in
        only_steps last active point _ (More Start (to.behind (block_end function i none)))
    statements_lead i (call ∷ calls) same point to =
        let at : slice_get function.calls i ≡ Some call = ap (slice_get function.calls) (omega arith) ∙ sym (same 0) in
        let here = block_part function i call at in
        and_so (last ∷ active) point (After last.function (Statement i)) _ _ _
        (steps_lead last active point _ _ _ (More Start (to.to_part (Statement i) here)) (statement_leads i call at))
        (statements_lead (suc i) calls (λ k. same (suc k) ∙ ap (slice_get function.calls) (omega arith)) (After last.function (Statement i)) (record {
          to_part = λ inner next. Next Block i is here next;
          behind = λ none. Last Block i is here none;
        }))

    body_leads : Leads (last ∷ active) (Entry last.function) (Exit last.function) (exec_from program next last.function 0 function.calls)
    body_leads =
        let statements = statements_lead 0 function.calls (λ k. ap (slice_get function.calls) (omega arith)) (Before last.function Block) (record {
          to_part = λ inner first. First is first;
          behind = λ none. Leaf is none;
        }) in
        leads_steps last active _ (After last.function Block) _ _
        (steps_lead last active _ _ _ _ (More Start (Begin is)) statements)
        (More Start (Finish is))

  -- the entry of a function leads through its body and back
  enter_leads : (next : Task → Part (Unit {0})) → CallsLead next → (active : List Activation) (site : Option Site) (g : ℕ) → IsCall active site g → (o : Option Function) → slice_get program g ≡ o → Leads active (at_call site) (after_call site) (enter program next site g o)
  enter_leads next h active site g call None at = record { by = λ w state. tt }
  enter_leads next h active site g call (Some function) at = record {
    by = λ w state.
        let last : Activation = record { site = site; function = g; act = state.next_act } in (
          record { steps = Start; within = w; crosses = call.into; ends = tt },
          go_on_along (last ∷ active) (Entry g) _ _ (last ∷ active) (Exit g) active (after_call site) ((body_leads next h last active function at call.live).by Start _) (λ w' x state'. (
            record { steps = Start; within = w'; crosses = call.back; ends = refl },
            (refl, Start, call.past w),
          )),
        );
  }

  turn_leads : {A : Type 0} (turns : ℕ) (active : List Activation) (a b : Point) (m : Part A) → Leads active a b m → Leads active a b (turn_of turns m)
  turn_leads zero active a b m h = record { by = λ w state. tt }
  turn_leads (suc turns) active a b m h = record { by = λ w state. h.by w (record state { turns = turns }) }

  runs_lead : (k : ℕ) → CallsLead (runs program k)
  runs_lead zero active site g call = record { by = λ w state. tt }
  runs_lead (suc k) active site g call =
      record { by = λ w state. (turn_leads state.turns active _ _ _ (enter_leads (runs program k) (runs_lead k) active site g call (slice_get program g) refl)).by w state }

  -- a test's calls lead from the root to the root
  test_leads : (k : ℕ) (calls : List ℕ) → AreCallsOf entry calls → Leads [] Root Root (run_calls program k calls)
  test_leads k [] of = record { by = λ w state. (refl, Start, w) }
  test_leads k (call ∷ calls) of =
      let is : call ≡ entry = of 0 call (omega arith) in
      and_so [] Root Root Root _ _ (runs_lead k [] None call (record {
        live = subst (IsLive program entry) (sym is) Start;
        into = subst (λ g. Across program entry Root (Entry g)) (sym is) From_root;
        back = subst (λ g. Across program entry (Exit g) Root) (sym is) To_root;
        past = λ w. w;
      })) (test_leads k calls (λ i d lt. of (suc i) d (omega arith)))

  happen_from : {A : Type 0} (active : List Activation) (from : Point) (r : Run A) (after : List Activation) (to : Point) → Along active from r after to → HappenFrom program entry active from (events_of r)
  happen_from active from (Then event rest) after to h = (h.0, happen_from _ _ rest after to h.1)
  happen_from active from (Goes value state) after to h = tt
  happen_from active from (Stops end) after to h = tt

pub runs_are_paths : RunsArePaths
runs_are_paths program entry calls of turns =
    happen_from program entry [] Root _ [] Root ((test_leads program entry turns calls of).by refl (record { turns = turns; next_act = 1 }))
