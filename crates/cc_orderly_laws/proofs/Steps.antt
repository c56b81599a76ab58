-- The machine's steps keep the order.
use Rattle.std.proofs.Common.{◌≡◌, ℕ, zero, suc, ◌+◌, pos, List, [], ◌∷◌, take, drop, inl, inr, Option, Some, None, Bool, true, false, refl, subst}
use Rattle.std.specs.Prelude.{slice_get, ◌⊎◌, ◌&&◌}
use Rattle.cc_arith.specs.declared.kind.IntKind.{IntKind}
use Rattle.cc_arith.specs.declared.unary_operator.IntUnary.{IntUnary}
use Rattle.cc_program.specs.declared.function.FuncId.{FuncId}
use Rattle.cc_meaning.specs.declared.event.Event.{Event}
use Rattle.cc_store.specs.declared.value.Value.{Value}
use Rattle.cc_store.specs.declared.value.Value.TheVariants.{Unwritten, Int, Null, Function, Points}
use Rattle.cc_store.specs.Stacks.{first, rest}
use Rattle.cc_acts.specs.declared.act.Act.{Act}
use Rattle.cc_acts.specs.declared.act.Act.TheVariants as acts
use Rattle.cc_acts.specs.declared.acts.Acts.{Acts}
use Rattle.cc_acts.specs.declared.acts.Filler.{Filler}
use Rattle.cc_acts.specs.declared.acts.Node.{Node}
use Rattle.cc_acts.specs.declared.frame.Caller.{Caller}
use Rattle.cc_acts.specs.declared.frame.Entry.{Entry}
use Rattle.cc_acts.specs.declared.frame.Frame.{Frame}
use Rattle.cc_acts.specs.declared.state.State.{State}
use Rattle.cc_acts.specs.declared.value_act.Conversion.{Conversion}
use Rattle.cc_acts.specs.declared.value_act.Gives.{Gives}
use Rattle.cc_acts.specs.declared.value_act.Named.{Named}
use Rattle.cc_acts.specs.declared.value_act.Named.TheVariants.{Local, Static}
use Rattle.cc_acts.specs.declared.value_act.Operator.{Operator}
use Rattle.cc_acts.specs.declared.value_act.Operator.TheVariants.{Plus}
use Rattle.cc_acts.specs.Runs.{Part, ◌>>=◌, ◌>>◌}
use Rattle.cc_acts.specs.Values.{truth}
use Rattle.cc_acts.specs.Parts.{taken, inner, write, copy, operate, unary, convert, turn_of, make, fill_all, fill, end_names, enter, leave, result_of, ask}
use Rattle.cc_acts.specs.Steps
use Rattle.cc_acts.specs.Steps.{Config, At, Halted, args_of}
use Rattle.cc_orderly_laws.specs.Entered.{enters_at, enters_first, all_enter, is_entry, AreEntered}
use Rattle.cc_orderly_laws.proofs.Order.{InOrder, forgotten, Keeps, keeps_on}
use Rattle.cc_orderly_laws.proofs.Parts.{Calm, calm_taken, calm_inner, calm_write, calm_copy, calm_operate, calm_unary, calm_convert, calm_make, calm_fill, calm_fill_all, calm_end_names, calm_ask, calm_result, entered, left}

-- the activations that wait for a call
abbrev pub acts_of : List Caller → List ℕ
acts_of [] = []
acts_of (c ∷ cs) = c.frame.act ∷ acts_of cs

-- Where the machine is, its activations are running; at an entry, those that wait for a call.
abbrev pub Stands : Acts → List Event → Config → State → Type 0
Stands G past (At point frame ops callers) s = InOrder past (frame.act ∷ acts_of callers) s ⊎ ((enters_at (slice_get G.nodes point) ≡ true) × InOrder past (acts_of callers) s)
Stands G past Halted s = InOrder past [] s

both_true : (a b : Bool) → (a && b) ≡ true → (a ≡ true) × (b ≡ true)
both_true true b h = (refl, h)
both_true false b h = absurd (let z = h in cc)

-- an entry of a function enters it
pub enters_there : (nodes : List Node) (entries : List (Option ℕ)) (k point : ℕ) → all_enter nodes entries ≡ true → slice_get entries k ≡ Some (Some point) → enters_at (slice_get nodes point) ≡ true
enters_there nodes [] k point all at = absurd (let z = at in cc)
enters_there nodes (o ∷ os) zero point all at =
    let same : o ≡ Some point = (let z = at in cc) in
    subst (λ x. enters_first nodes x ≡ true) same (both_true (enters_first nodes o) (all_enter nodes os) all).0
enters_there nodes (o ∷ os) (suc k) point all at = enters_there nodes os k point (both_true (enters_first nodes o) (all_enter nodes os) all).1 at

module _ (G : Acts) (frame : Frame) (callers : List Caller) where
  -- From where these activations are running the step tells events that are in order, and goes on so.
  abbrev pub Leads : Part Config → Type 0
  Leads m = (past : List Event) (s : State) → InOrder past (frame.act ∷ acts_of callers) s → Keeps (Stands G) past (m s)

  leads_then : {A : Type 0} (m : Part A) (f : A → Part Config) → Calm frame.act (acts_of callers) m → ((x : A) → Leads (f x)) → Leads (m >>= f)
  leads_then m f c d past s o = keeps_on (λ later x t. InOrder later (frame.act ∷ acts_of callers) t) (Stands G) f (λ later x t q. d x later t q) past (m s) (c past s o)

  leads_both : {A : Type 0} (m : Part A) (n : Part Config) → Calm frame.act (acts_of callers) m → Leads n → Leads (m >> n)
  leads_both m n c d past s o = keeps_on (λ later x t. InOrder later (frame.act ∷ acts_of callers) t) (Stands G) (λ _. n) (λ later x t q. d later t q) past (m s) (c past s o)

  leads_goes : (next : ℕ) (ops : List Entry) → Leads (Steps.goes next frame ops callers)
  leads_goes next ops past s o = inl o

  leads_push : (occ next : ℕ) (ops : List Entry) (v : Value) → Leads (Steps.push occ next frame ops callers v)
  leads_push occ next ops v past s o = inl o

  -- Names and places

  leads_take : (occ : ℕ) (gives : Gives) (next : ℕ) (ops : List Entry) (p : Value) → Leads (Steps.take_from occ gives next frame ops callers p)
  leads_take occ gives next ops p past s o = leads_then (taken occ gives frame.act ops p) (λ ops. Steps.goes next frame ops callers) (calm_taken frame.act (acts_of callers) occ gives ops p) (λ ops. leads_goes next ops) past s o

  leads_local : (occ : ℕ) (gives : Gives) (next : ℕ) (ops : List Entry) (p : Option Value) → Leads (Steps.local occ gives next frame ops callers p)
  leads_local occ gives next ops None past s o = tt
  leads_local occ gives next ops (Some p) past s o = leads_take occ gives next ops p past s o

  leads_name : (occ : ℕ) (object : Named) (gives : Gives) (next : ℕ) (ops : List Entry) → Leads (Steps.name occ object gives next frame ops callers)
  leads_name occ (Static p) gives next ops past s o = leads_take occ gives next ops (Points p) past s o
  leads_name occ (Local n) gives next ops past s o = leads_local occ gives next ops (slice_get s.names (frame.base + n)) past s o

  leads_target : (occ : ℕ) (gives : Gives) (next : ℕ) (under : List Entry) (e : Option Entry) → Leads (Steps.target occ gives next frame under callers e)
  leads_target occ gives next under None past s o = tt
  leads_target occ gives next under (Some e) past s o = leads_take occ gives next under e.value past s o

  leads_element_under : (occ : ℕ) (gives : Gives) (next : ℕ) (under : List Entry) (e : Option Entry) (i : Value) → Leads (Steps.element_under occ gives next frame under callers e i)
  leads_element_under occ gives next under None i past s o = tt
  leads_element_under occ gives next under (Some e) i past s o =
      leads_then (operate occ Plus e.value i) (λ p. Steps.take_from occ gives next frame under callers p) (calm_operate frame.act (acts_of callers) occ Plus e.value i) (λ p. leads_take occ gives next under p) past s o

  leads_element : (occ : ℕ) (gives : Gives) (next : ℕ) (under : List Entry) (e : Option Entry) → Leads (Steps.element occ gives next frame under callers e)
  leads_element occ gives next under None past s o = tt
  leads_element occ gives next under (Some e) past s o = leads_element_under occ gives next (rest under) (first under) e.value past s o

  leads_member : (occ lvalue cells offset : ℕ) (gives : Gives) (next : ℕ) (under : List Entry) (e : Option Entry) → Leads (Steps.member occ lvalue cells offset gives next frame under callers e)
  leads_member occ lvalue cells offset gives next under None past s o = tt
  leads_member occ lvalue cells offset gives next under (Some e) past s o =
      leads_then (inner lvalue cells offset 1 e.value) (λ p. Steps.take_from occ gives next frame under callers p) (calm_inner frame.act (acts_of callers) lvalue cells offset 1 e.value) (λ p. leads_take occ gives next under p) past s o

  -- Values

  leads_hand : (occ next : ℕ) (under : List Entry) (e : Option Entry) → Leads (Steps.hand occ next frame under callers e)
  leads_hand occ next under None past s o = tt
  leads_hand occ next under (Some e) past s o = inl o

  leads_convert : (occ : ℕ) (to : Conversion) (next : ℕ) (under : List Entry) (e : Option Entry) → Leads (Steps.convert_to occ to next frame under callers e)
  leads_convert occ to next under None past s o = tt
  leads_convert occ to next under (Some e) past s o =
      leads_then (convert to e.value) (λ v. Steps.push occ next frame under callers v) (calm_convert frame.act (acts_of callers) to e.value) (λ v. leads_push occ next under v) past s o

  leads_unary : (occ : ℕ) (op : IntUnary) (kind : IntKind) (next : ℕ) (under : List Entry) (e : Option Entry) → Leads (Steps.unary_on occ op kind next frame under callers e)
  leads_unary occ op kind next under None past s o = tt
  leads_unary occ op kind next under (Some e) past s o =
      leads_then (unary occ op kind e.value) (λ v. Steps.push occ next frame under callers v) (calm_unary frame.act (acts_of callers) occ op kind e.value) (λ v. leads_push occ next under v) past s o

  leads_truth_by : (occ : ℕ) (is_negated : Bool) (next : ℕ) (under : List Entry) (b : Option Bool) → Leads (Steps.truth_by occ is_negated next frame under callers b)
  leads_truth_by occ is_negated next under None past s o = tt
  leads_truth_by occ is_negated next under (Some b) past s o = inl o

  leads_truth : (occ : ℕ) (is_negated : Bool) (next : ℕ) (under : List Entry) (e : Option Entry) → Leads (Steps.truth_on occ is_negated next frame under callers e)
  leads_truth occ is_negated next under None past s o = tt
  leads_truth occ is_negated next under (Some e) past s o = leads_truth_by occ is_negated next under (truth e.value) past s o

  leads_binary_under : (occ : ℕ) (operator : Operator) (next : ℕ) (under : List Entry) (e : Option Entry) (b : Value) → Leads (Steps.binary_under occ operator next frame under callers e b)
  leads_binary_under occ operator next under None b past s o = tt
  leads_binary_under occ operator next under (Some e) b past s o =
      leads_then (operate occ operator e.value b) (λ v. Steps.push occ next frame under callers v) (calm_operate frame.act (acts_of callers) occ operator e.value b) (λ v. leads_push occ next under v) past s o

  leads_binary : (occ : ℕ) (operator : Operator) (next : ℕ) (under : List Entry) (e : Option Entry) → Leads (Steps.binary occ operator next frame under callers e)
  leads_binary occ operator next under None past s o = tt
  leads_binary occ operator next under (Some e) past s o = leads_binary_under occ operator next (rest under) (first under) e.value past s o

  -- Assignments

  leads_put : (lvalue occ next : ℕ) (under : List Entry) (place written v : Value) → Leads (Steps.put lvalue occ next frame under callers place written v)
  leads_put lvalue occ next under place written v past s o =
      leads_both (write lvalue frame.act place written) (Steps.push occ next frame under callers v) (calm_write frame.act (acts_of callers) lvalue place written) (leads_push occ next under v) past s o

  leads_store_under : (lvalue occ : ℕ) (to : Conversion) (next : ℕ) (under : List Entry) (e : Option Entry) (v : Value) → Leads (Steps.store_under lvalue occ to next frame under callers e v)
  leads_store_under lvalue occ to next under None v past s o = tt
  leads_store_under lvalue occ to next under (Some e) v past s o =
      leads_then (convert to v) (λ w. Steps.put lvalue occ next frame under callers e.value w w) (calm_convert frame.act (acts_of callers) to v) (λ w. leads_put lvalue occ next under e.value w w) past s o

  leads_store : (lvalue occ : ℕ) (to : Conversion) (next : ℕ) (under : List Entry) (e : Option Entry) → Leads (Steps.store lvalue occ to next frame under callers e)
  leads_store lvalue occ to next under None past s o = tt
  leads_store lvalue occ to next under (Some e) past s o = leads_store_under lvalue occ to next (rest under) (first under) e.value past s o

  leads_copy : (lvalue occ count next : ℕ) (ops : List Entry) (e : Option Entry) → Leads (Steps.copy_of lvalue occ count next frame ops callers e)
  leads_copy lvalue occ count next ops None past s o = tt
  leads_copy lvalue occ count next ops (Some e) past s o =
      leads_both (copy lvalue frame.act count e.value (args_of count ops)) (Steps.push occ next frame (drop (count + 1) ops) callers Unwritten) (calm_copy frame.act (acts_of callers) lvalue count e.value (args_of count ops)) (leads_push occ next (drop (count + 1) ops) Unwritten) past s o

  leads_update_with : (lvalue occ : ℕ) (operator : Operator) (to : Conversion) (is_after : Bool) (next : ℕ) (under : List Entry) (e : Option Entry) (a b : Value) → Leads (Steps.update_with lvalue occ operator to is_after next frame under callers e a b)
  leads_update_with lvalue occ operator to is_after next under None a b past s o = tt
  leads_update_with lvalue occ operator to is_after next under (Some place) a b past s o =
      leads_then (operate occ operator a b) (λ v. convert to v >>= λ w. Steps.put lvalue occ next frame under callers place.value w (Steps.kept is_after a w)) (calm_operate frame.act (acts_of callers) occ operator a b)
      (λ v. leads_then (convert to v) (λ w. Steps.put lvalue occ next frame under callers place.value w (Steps.kept is_after a w)) (calm_convert frame.act (acts_of callers) to v) (λ w. leads_put lvalue occ next under place.value w (Steps.kept is_after a w)))
      past s o

  leads_step : (lvalue occ : ℕ) (operator : Operator) (to : Conversion) (is_after : Bool) (next : ℕ) (under : List Entry) (e : Option Entry) (b : Value) → Leads (Steps.step_on lvalue occ operator to is_after next frame under callers e b)
  leads_step lvalue occ operator to is_after next under None b past s o = tt
  leads_step lvalue occ operator to is_after next under (Some e) b past s o = leads_update_with lvalue occ operator to is_after next (rest under) (first under) e.value b past s o

  leads_update : (lvalue occ : ℕ) (operator : Operator) (to : Conversion) (next : ℕ) (under : List Entry) (e : Option Entry) → Leads (Steps.update lvalue occ operator to next frame under callers e)
  leads_update lvalue occ operator to next under None past s o = tt
  leads_update lvalue occ operator to next under (Some e) past s o = leads_step lvalue occ operator to false next (rest under) (first under) e.value past s o

  -- Ways

  leads_branch_by : (one other : ℕ) (under : List Entry) (b : Option Bool) → Leads (Steps.branch_by one other frame under callers b)
  leads_branch_by one other under None past s o = tt
  leads_branch_by one other under (Some b) past s o = inl o

  leads_branch : (one other : ℕ) (under : List Entry) (e : Option Entry) → Leads (Steps.branch one other frame under callers e)
  leads_branch one other under None past s o = tt
  leads_branch one other under (Some e) past s o = leads_branch_by one other under (truth e.value) past s o

  leads_shortcut_if : (b : Bool) (occ : ℕ) (when : Bool) (right next : ℕ) (under : List Entry) → Leads (Steps.shortcut_if b occ when right next frame under callers)
  leads_shortcut_if true occ when right next under past s o = inl o
  leads_shortcut_if false occ when right next under past s o = inl o

  leads_shortcut_by : (occ : ℕ) (when : Bool) (right next : ℕ) (under : List Entry) (b : Option Bool) → Leads (Steps.shortcut_by occ when right next frame under callers b)
  leads_shortcut_by occ when right next under None past s o = tt
  leads_shortcut_by occ when right next under (Some b) past s o = leads_shortcut_if (Steps.same_truth when b) occ when right next under past s o

  leads_shortcut : (occ : ℕ) (when : Bool) (right next : ℕ) (under : List Entry) (e : Option Entry) → Leads (Steps.shortcut occ when right next frame under callers e)
  leads_shortcut occ when right next under None past s o = tt
  leads_shortcut occ when right next under (Some e) past s o = leads_shortcut_by occ when right next under (truth e.value) past s o

  leads_select_by : (kind : IntKind) (from count other : ℕ) (under : List Entry) (v : Value) → Leads (Steps.select_by G kind from count other frame under callers v)
  leads_select_by kind from count other under (Int z) past s o = inl o
  leads_select_by kind from count other under _ past s o = tt

  leads_select : (kind : IntKind) (from count other : ℕ) (under : List Entry) (e : Option Entry) → Leads (Steps.select G kind from count other frame under callers e)
  leads_select kind from count other under None past s o = tt
  leads_select kind from count other under (Some e) past s o = leads_select_by kind from count other under e.value past s o

  -- Calls

  leads_asked : (occ : ℕ) (callee : FuncId) (count : ℕ) (result : Option IntKind) (next : ℕ) (ops : List Entry) → Leads (Steps.asked occ callee count result next frame ops callers)
  leads_asked occ callee count result next ops past s o =
      leads_then (ask occ callee frame.act result) (λ v. Steps.push occ next frame (drop (count + 1) ops) callers v) (calm_ask frame.act (acts_of callers) occ callee result) (λ v. leads_push occ next (drop (count + 1) ops) v) past s o

  leads_return_by : (occ : ℕ) (to : Conversion) (next : ℕ) (under : List Entry) (e : Option Entry) → Leads (Steps.return_by occ to next frame under callers e)
  leads_return_by occ to next under None past s o = tt
  leads_return_by occ to next under (Some e) past s o =
      leads_then (convert to e.value) (λ v. Steps.goes next (Steps.returning occ v frame) under callers) (calm_convert frame.act (acts_of callers) to e.value) (λ v later t q. inl q) past s o

  -- Objects

  leads_made : (declarator cells name next : ℕ) (ops : List Entry) → Leads (Steps.made_at declarator cells name next frame ops callers)
  leads_made declarator cells name next ops past s o =
      leads_both (make declarator cells (frame.base + name)) (Steps.goes next frame ops callers) (calm_make frame.act (acts_of callers) declarator cells (frame.base + name)) (leads_goes next ops) past s o

  leads_init_of : (declarator : ℕ) (to : Conversion) (next : ℕ) (under : List Entry) (v : Option Value) (e : Option Entry) → Leads (Steps.init_of declarator to next frame under callers v e)
  leads_init_of declarator to next under (Some (Points p)) (Some e) past s o =
      leads_then (convert to e.value) (λ v. fill declarator frame.act p v >> Steps.goes next frame under callers) (calm_convert frame.act (acts_of callers) to e.value)
      (λ v. leads_both (fill declarator frame.act p v) (Steps.goes next frame under callers) (calm_fill frame.act (acts_of callers) declarator p v) (leads_goes next under))
      past s o
  leads_init_of declarator to next under _ _ past s o = tt

  leads_init : (declarator name : ℕ) (to : Conversion) (next : ℕ) (ops : List Entry) → Leads (Steps.init declarator name to next frame ops callers)
  leads_init declarator name to next ops past s o = leads_init_of declarator to next (rest ops) (slice_get s.names (frame.base + name)) (first ops) past s o

  leads_filled_of : (fillers : List Filler) (declarator count next : ℕ) (ops : List Entry) (v : Option Value) → Leads (Steps.filled_of fillers declarator count next frame ops callers v)
  leads_filled_of fillers declarator count next ops (Some (Points p)) past s o =
      leads_both (fill_all declarator frame.act p (args_of count ops) 0 0 fillers) (Steps.goes next frame (drop count ops) callers) (calm_fill_all frame.act (acts_of callers) declarator p (args_of count ops) 0 0 fillers) (leads_goes next (drop count ops)) past s o
  leads_filled_of fillers declarator count next ops _ past s o = tt

  leads_filled : (declarator name from fillers count next : ℕ) (ops : List Entry) → Leads (Steps.filled G declarator name from fillers count next frame ops callers)
  leads_filled declarator name from fillers count next ops past s o = leads_filled_of (take fillers (drop from G.fillers)) declarator count next ops (slice_get s.names (frame.base + name)) past s o

  leads_ended : (from count next : ℕ) (ops : List Entry) → Leads (Steps.ended_at from count next frame ops callers)
  leads_ended from count next ops past s o =
      leads_both (end_names (frame.base + from) count) (Steps.goes next frame ops callers) (calm_end_names frame.act (acts_of callers) (frame.base + from) count) (leads_goes next ops) past s o

  -- Entering and leaving

  -- an entry needs only those that wait for a call
  pub entering : (callee : FuncId) (from formals names next : ℕ) (ops : List Entry) (past : List Event) (s : State) → InOrder past (acts_of callers) s → Keeps (Stands G) past (Steps.enter_at G callee from formals names next ops callers s)
  entering callee from formals names next ops past s o =
      keeps_on (λ later f t. InOrder later (f.act ∷ acts_of callers) t) (Stands G) (λ f. Steps.goes next f (drop (formals + 1) ops) callers) (λ later f t q. inl q) past (enter G.formals (Steps.site_of callers) callee from names (args_of formals ops) s)
      (entered (acts_of callers) G.formals (Steps.site_of callers) callee from names (args_of formals ops) past s o)

-- back to the last caller, once the activation was left
back : (G : Acts) (frame : Frame) (ops : List Entry) (callers : List Caller) (past : List Event) (s : State) → InOrder past (acts_of callers) s → Keeps (Stands G) past (Steps.back_to frame ops (rest callers) (first callers) s)
back G frame ops [] past s o = o
back G frame ops (c ∷ cs) past s o =
    leads_then G c.frame cs (result_of c.site c.is_used frame.returned) (λ v. Steps.push c.site c.point c.frame ops cs v) (calm_result c.frame.act (acts_of cs) c.site c.is_used frame.returned) (λ v. leads_push G c.frame cs c.site c.point ops v) past s o

-- after these events a part tells events that are in order, from each state where these activations are running
abbrev pub From : Acts → List Event → List ℕ → Part Config → Type 0
From G past acts m = (s : State) → InOrder past acts s → Keeps (Stands G) past (m s)

turned : (G : Acts) (past : List Event) (acts : List ℕ) (takes_turn : Bool) (m : Part Config) → From G past acts m → From G past acts (Steps.turn_if takes_turn m)
turned G past acts true m f s o = by s.turns
  where
    by : (n : ℕ) → Keeps (Stands G) past (turn_of n m s)
    by zero = tt
    by (suc t) = f (record s { turns = t }) o
turned G past acts false m f s o = f s o

-- an act at an entry
enters_by : (G : Acts) (act : Act) → is_entry act ≡ true → (frame : Frame) (ops : List Entry) (callers : List Caller) (past : List Event) → From G past (acts_of callers) (Steps.act_by G act frame ops callers)
enters_by G (acts.Enter callee from formals names next) h frame ops callers past s o = entering G frame callers callee from formals names next ops past s o
enters_by G _ h frame ops callers past s o = absurd (let z = h in cc)

module _ (G : Acts) (all : AreEntered G) where
  leads_called : (frame : Frame) (callers : List Caller) (c : Caller) (ops : List Entry) (k : ℕ) (entry : Option (Option ℕ)) → slice_get G.entries k ≡ entry → (past : List Event) (s : State) → InOrder past (acts_of (c ∷ callers)) s → Keeps (Stands G) past (Steps.called frame ops (c ∷ callers) entry s)
  leads_called frame callers c ops k (Some (Some point)) e past s o = inr (enters_there G.nodes G.entries k point all e, o)
  leads_called frame callers c ops k (Some None) e past s o = tt
  leads_called frame callers c ops k None e past s o = tt

  module _ (frame : Frame) (callers : List Caller) where
    leads_call_to : (occ : ℕ) (is_used : Bool) (next : ℕ) (ops : List Entry) (v : Value) → Leads G frame callers (Steps.call_to G occ is_used next frame ops callers v)
    leads_call_to occ is_used next ops (Function g) past s o =
        leads_called frame callers (record { site = occ; is_used = is_used; point = next; frame = frame }) ops g.0 (slice_get G.entries g.0) refl past s o
    leads_call_to occ is_used next ops Null past s o = tt
    leads_call_to occ is_used next ops Unwritten past s o = tt
    leads_call_to occ is_used next ops (Int z) past s o = tt
    leads_call_to occ is_used next ops (Points p) past s o = tt

    leads_call : (occ : ℕ) (is_used : Bool) (next : ℕ) (ops : List Entry) (e : Option Entry) → Leads G frame callers (Steps.call G occ is_used next frame ops callers e)
    leads_call occ is_used next ops None past s o = tt
    leads_call occ is_used next ops (Some e) past s o = leads_call_to occ is_used next ops e.value past s o

    leads_finish : (ops : List Entry) → Leads G frame callers (Steps.finish frame ops callers)
    leads_finish ops past s o =
        keeps_on (λ later x t. InOrder later (acts_of callers) t) (Stands G) (λ _. Steps.back_to frame ops (rest callers) (first callers)) (λ later x t q. back G frame ops callers later t q) past (leave frame s) (left (acts_of callers) frame past s o)

    leads_leave : (names : ℕ) (ops : List Entry) → Leads G frame callers (Steps.leave_with names frame ops callers)
    leads_leave names ops past s o =
        leads_both G frame callers (end_names frame.base names) (Steps.finish frame ops callers) (calm_end_names frame.act (acts_of callers) frame.base names) (leads_finish ops) past s o

    leads_enter : (callee : FuncId) (from formals names next : ℕ) (ops : List Entry) → Leads G frame callers (Steps.enter_at G callee from formals names next ops callers)
    leads_enter callee from formals names next ops past s o = entering G frame callers callee from formals names next ops past s (forgotten past frame.act (acts_of callers) s.next_act s.store o)

    -- one act
    leads_act : (act : Act) (ops : List Entry) → Leads G frame callers (Steps.act_by G act frame ops callers)
    leads_act (acts.Skip next) ops past s o = inl o
    leads_act (acts.Constant occ v next) ops past s o = inl o
    leads_act (acts.Hand occ next) ops past s o = leads_hand G frame callers occ next (rest ops) (first ops) past s o
    leads_act (acts.Name occ object gives next) ops past s o = leads_name G frame callers occ object gives next ops past s o
    leads_act (acts.Target occ gives next) ops past s o = leads_target G frame callers occ gives next (rest ops) (first ops) past s o
    leads_act (acts.Element occ gives next) ops past s o = leads_element G frame callers occ gives next (rest ops) (first ops) past s o
    leads_act (acts.Member occ lvalue cells offset gives next) ops past s o = leads_member G frame callers occ lvalue cells offset gives next (rest ops) (first ops) past s o
    leads_act (acts.Forget next) ops past s o = inl o
    leads_act (acts.Convert occ to next) ops past s o = leads_convert G frame callers occ to next (rest ops) (first ops) past s o
    leads_act (acts.Unary occ op kind next) ops past s o = leads_unary G frame callers occ op kind next (rest ops) (first ops) past s o
    leads_act (acts.Truth occ is_negated next) ops past s o = leads_truth G frame callers occ is_negated next (rest ops) (first ops) past s o
    leads_act (acts.Binary occ operator next) ops past s o = leads_binary G frame callers occ operator next (rest ops) (first ops) past s o
    leads_act (acts.Store lvalue occ to next) ops past s o = leads_store G frame callers lvalue occ to next (rest ops) (first ops) past s o
    leads_act (acts.Copy lvalue occ count next) ops past s o = leads_copy G frame callers lvalue occ count next ops (slice_get ops count) past s o
    leads_act (acts.Update lvalue occ operator to next) ops past s o = leads_update G frame callers lvalue occ operator to next (rest ops) (first ops) past s o
    leads_act (acts.Step lvalue occ operator to is_after next) ops past s o = leads_step G frame callers lvalue occ operator to is_after next (rest ops) (first ops) (Int (pos 1)) past s o
    leads_act (acts.Branch one other) ops past s o = leads_branch G frame callers one other (rest ops) (first ops) past s o
    leads_act (acts.Shortcut occ when right next) ops past s o = leads_shortcut G frame callers occ when right next (rest ops) (first ops) past s o
    leads_act (acts.Select kind from count other) ops past s o = leads_select G frame callers kind from count other (rest ops) (first ops) past s o
    leads_act (acts.Call occ count is_used next) ops past s o = leads_call occ is_used next ops (slice_get ops count) past s o
    leads_act (acts.Ask occ callee count result next) ops past s o = leads_asked G frame callers occ callee count result next ops past s o
    leads_act (acts.Enter callee from formals names next) ops past s o = leads_enter callee from formals names next ops past s o
    leads_act (acts.Leave names) ops past s o = leads_leave names ops past s o
    leads_act (acts.Return occ to next) ops past s o = leads_return_by G frame callers occ to next (rest ops) (first ops) past s o
    leads_act (acts.ReturnNone occ next) ops past s o = inl o
    leads_act (acts.Make declarator cells name next) ops past s o = leads_made G frame callers declarator cells name next ops past s o
    leads_act (acts.Init declarator name to next) ops past s o = leads_init G frame callers declarator name to next ops past s o
    leads_act (acts.Fill declarator name from fillers count next) ops past s o = leads_filled G frame callers declarator name from fillers count next ops past s o
    leads_act (acts.Drop from count next) ops past s o = leads_ended G frame callers from count next ops past s o

    step_inside : (ops : List Entry) (past : List Event) (node : Option Node) → From G past (frame.act ∷ acts_of callers) (Steps.step_by G node frame ops callers)
    step_inside ops past None s o = tt
    step_inside ops past (Some n) s o = turned G past (frame.act ∷ acts_of callers) n.takes_turn (Steps.act_by G n.act frame ops callers) (λ t q. leads_act n.act ops past t q) s o

    step_in : (ops : List Entry) (past : List Event) (node : Option Node) → enters_at node ≡ true → From G past (acts_of callers) (Steps.step_by G node frame ops callers)
    step_in ops past None h s o = tt
    step_in ops past (Some n) h s o = turned G past (acts_of callers) n.takes_turn (Steps.act_by G n.act frame ops callers) (enters_by G n.act h frame ops callers past) s o

    -- what is done at a point
    step_on : (point : ℕ) (ops : List Entry) (past : List Event) (s : State) → Stands G past (At point frame ops callers) s → Keeps (Stands G) past (Steps.step_by G (slice_get G.nodes point) frame ops callers s)
    step_on point ops past s (inl o) = step_inside ops past (slice_get G.nodes point) s o
    step_on point ops past s (inr p) = step_in ops past (slice_get G.nodes point) p.0 s p.1

  -- no activation is running once the test's call has returned
  pub driven : (k : ℕ) (c : Config) (past : List Event) (s : State) → Stands G past c s → Keeps (λ later x t. InOrder later [] t) past (Steps.drive G k c s)
  driven zero c past s h = tt
  driven (suc k) Halted past s h = h
  driven (suc k) (At point frame ops callers) past s h =
      keeps_on (Stands G) (λ later x t. InOrder later [] t) (Steps.drive G k) (λ later c t q. driven k c later t q) past (Steps.step_by G (slice_get G.nodes point) frame ops callers s) (step_on frame callers point ops past s h)
