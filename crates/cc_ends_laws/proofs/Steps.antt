-- The machine's steps lead down.
use Rattle.std.proofs.Common.{◌≡◌, ℕ, zero, suc, ◌+◌, ◌*◌, ◌<◌, ◌≤◌, ℤ, pos, List, [], ◌∷◌, take, drop, Option, Some, None, Bool, true, false, refl, ap, ◌∙◌, arith}
use Rattle.std.specs.Prelude.{slice_get, cond}
use Rattle.std.specs.Ordering.{int_eq}
use Rattle.std.proofs.Math.Nat.{mul-le-mul_left}
use Rattle.cc_arith.specs.declared.kind.IntKind.{IntKind}
use Rattle.cc_arith.specs.declared.unary_operator.IntUnary.{IntUnary}
use Rattle.cc_arith.specs.Conversions.{converted}
use Rattle.cc_program.specs.declared.function.FuncId.{FuncId}
use Rattle.cc_store.specs.declared.value.Value.{Value}
use Rattle.cc_store.specs.declared.value.Value.TheVariants.{Unwritten, Int, Null, Function, Points}
use Rattle.cc_store.specs.Stacks.{first, rest}
use Rattle.cc_acts.specs.declared.act.Act.{Act}
use Rattle.cc_acts.specs.declared.act.Act.TheVariants as acts
use Rattle.cc_acts.specs.declared.acts.Acts.{Acts}
use Rattle.cc_acts.specs.declared.acts.Case.{Case}
use Rattle.cc_acts.specs.declared.acts.Filler.{Filler}
use Rattle.cc_acts.specs.declared.acts.Node.{Node}
use Rattle.cc_acts.specs.declared.frame.Caller.{Caller}
use Rattle.cc_acts.specs.declared.frame.Entry.{Entry}
use Rattle.cc_acts.specs.declared.frame.Frame.{Frame}
use Rattle.cc_acts.specs.declared.state.State.{State}
use Rattle.cc_acts.specs.declared.value_act.Conversion.{Conversion}
use Rattle.cc_acts.specs.declared.value_act.Gives.{Gives}
use Rattle.cc_acts.specs.declared.value_act.Named.{Named}
use Rattle.cc_acts.specs.declared.value_act.Named.TheVariants.{Local, Static}
use Rattle.cc_acts.specs.declared.value_act.Operator.{Operator}
use Rattle.cc_acts.specs.declared.value_act.Operator.TheVariants.{Plus}
use Rattle.cc_acts.specs.Runs.{Part, ◌>>=◌, ◌>>◌}
use Rattle.cc_acts.specs.Values.{truth, of_truth}
use Rattle.cc_acts.specs.Parts.{with, taken, inner, write, copy, operate, unary, convert, turn_of, make, fill_all, fill, end_names, enter, leave, result_of, ask}
use Rattle.cc_acts.specs.Steps
use Rattle.cc_acts.specs.Steps.{Config, At, Halted, args_of}
use Rattle.cc_ends_laws.specs.Ranks.{AllCases, AllWays, ways_of, rank, limit, LeadsDown, AreRanked}
use Rattle.cc_ends_laws.proofs.Holding.{Holds, holds_on, first_holds, same_on}
use Rattle.cc_ends_laws.proofs.Parts.{Still, still_taken, still_inner, still_write, still_copy, still_operate, still_unary, still_convert, still_make, still_fill, still_fill_all, still_end_names, still_ask, still_result, still_enter, still_leave}

-- Where all labels lead to such points, and the other one is such, the chosen one is.
module _ (P : ℕ → Type 0) (z : ℤ) (other : ℕ) where
  chosen_one : (b : Bool) (p q : ℕ) → P p → P q → P (cond b p q)
  chosen_one true p q h k = h
  chosen_one false p q h k = k

  chosen_of : (cs : List Case) → P other → AllCases P cs → P (Steps.chosen z other cs)
  chosen_of [] h all = h
  chosen_of (c ∷ cs) h all = chosen_one (int_eq c.value z) c.point (Steps.chosen z other cs) all.0 (chosen_of cs h all.1)

-- An activation over its callers, where this holds at each point that it goes on to and is such.
module _ (G : Acts) (frame : Frame) (callers : List Caller) (P : ℕ → Type 0) (Q : Config → State → Type 0) (most : ℕ) (on : (next : ℕ) (frame : Frame) (ops : List Entry) (s : State) → P next → s.turns ≤ most → Q (At next frame ops callers) s) where
  -- The part goes on to where this holds, from each state with at most so many turns.
  abbrev pub Leads : Part Config → Type 0
  Leads m = (s : State) → s.turns ≤ most → Holds Q (m s)

  leads_then : {A : Type 0} (m : Part A) (f : A → Part Config) → Still frame.act m → ((x : A) → Leads (f x)) → Leads (m >>= f)
  leads_then m f c d s o = holds_on (λ x t. t.turns ≤ most) Q f (λ x t q. d x t q) (m s) (c most s o)

  leads_both : {A : Type 0} (m : Part A) (n : Part Config) → Still frame.act m → Leads n → Leads (m >> n)
  leads_both m n c d s o = holds_on (λ x t. t.turns ≤ most) Q (λ _. n) (λ x t q. d t q) (m s) (c most s o)

  leads_goes : (next : ℕ) (ops : List Entry) → P next → Leads (Steps.goes next frame ops callers)
  leads_goes next ops ok s o = on next frame ops s ok o

  leads_push : (occ next : ℕ) (ops : List Entry) (v : Value) → P next → Leads (Steps.push occ next frame ops callers v)
  leads_push occ next ops v ok s o = on next frame (with occ v ops) s ok o

  -- Names and places

  leads_take : (occ : ℕ) (gives : Gives) (next : ℕ) (ops : List Entry) (p : Value) → P next → Leads (Steps.take_from occ gives next frame ops callers p)
  leads_take occ gives next ops p ok s o = leads_then (taken occ gives frame.act ops p) (λ ops. Steps.goes next frame ops callers) (still_taken frame.act occ gives ops p) (λ ops. leads_goes next ops ok) s o

  leads_local : (occ : ℕ) (gives : Gives) (next : ℕ) (ops : List Entry) (p : Option Value) → P next → Leads (Steps.local occ gives next frame ops callers p)
  leads_local occ gives next ops None ok s o = tt
  leads_local occ gives next ops (Some p) ok s o = leads_take occ gives next ops p ok s o

  leads_name : (occ : ℕ) (object : Named) (gives : Gives) (next : ℕ) (ops : List Entry) → P next → Leads (Steps.name occ object gives next frame ops callers)
  leads_name occ (Static p) gives next ops ok s o = leads_take occ gives next ops (Points p) ok s o
  leads_name occ (Local n) gives next ops ok s o = leads_local occ gives next ops (slice_get s.names (frame.base + n)) ok s o

  leads_target : (occ : ℕ) (gives : Gives) (next : ℕ) (under : List Entry) (e : Option Entry) → P next → Leads (Steps.target occ gives next frame under callers e)
  leads_target occ gives next under None ok s o = tt
  leads_target occ gives next under (Some e) ok s o = leads_take occ gives next under e.value ok s o

  leads_element_under : (occ : ℕ) (gives : Gives) (next : ℕ) (under : List Entry) (e : Option Entry) (i : Value) → P next → Leads (Steps.element_under occ gives next frame under callers e i)
  leads_element_under occ gives next under None i ok s o = tt
  leads_element_under occ gives next under (Some e) i ok s o =
      leads_then (operate occ Plus e.value i) (λ p. Steps.take_from occ gives next frame under callers p) (still_operate frame.act occ Plus e.value i) (λ p. leads_take occ gives next under p ok) s o

  leads_element : (occ : ℕ) (gives : Gives) (next : ℕ) (under : List Entry) (e : Option Entry) → P next → Leads (Steps.element occ gives next frame under callers e)
  leads_element occ gives next under None ok s o = tt
  leads_element occ gives next under (Some e) ok s o = leads_element_under occ gives next (rest under) (first under) e.value ok s o

  leads_member : (occ lvalue cells offset : ℕ) (gives : Gives) (next : ℕ) (under : List Entry) (e : Option Entry) → P next → Leads (Steps.member occ lvalue cells offset gives next frame under callers e)
  leads_member occ lvalue cells offset gives next under None ok s o = tt
  leads_member occ lvalue cells offset gives next under (Some e) ok s o =
      leads_then (inner lvalue cells offset 1 e.value) (λ p. Steps.take_from occ gives next frame under callers p) (still_inner frame.act lvalue cells offset 1 e.value) (λ p. leads_take occ gives next under p ok) s o

  -- Values

  leads_hand : (occ next : ℕ) (under : List Entry) (e : Option Entry) → P next → Leads (Steps.hand occ next frame under callers e)
  leads_hand occ next under None ok s o = tt
  leads_hand occ next under (Some e) ok s o = leads_push occ next under e.value ok s o

  leads_convert : (occ : ℕ) (to : Conversion) (next : ℕ) (under : List Entry) (e : Option Entry) → P next → Leads (Steps.convert_to occ to next frame under callers e)
  leads_convert occ to next under None ok s o = tt
  leads_convert occ to next under (Some e) ok s o =
      leads_then (convert to e.value) (λ v. Steps.push occ next frame under callers v) (still_convert frame.act to e.value) (λ v. leads_push occ next under v ok) s o

  leads_unary : (occ : ℕ) (op : IntUnary) (kind : IntKind) (next : ℕ) (under : List Entry) (e : Option Entry) → P next → Leads (Steps.unary_on occ op kind next frame under callers e)
  leads_unary occ op kind next under None ok s o = tt
  leads_unary occ op kind next under (Some e) ok s o =
      leads_then (unary occ op kind e.value) (λ v. Steps.push occ next frame under callers v) (still_unary frame.act occ op kind e.value) (λ v. leads_push occ next under v ok) s o

  leads_truth_by : (occ : ℕ) (is_negated : Bool) (next : ℕ) (under : List Entry) (b : Option Bool) → P next → Leads (Steps.truth_by occ is_negated next frame under callers b)
  leads_truth_by occ is_negated next under None ok s o = tt
  leads_truth_by occ is_negated next under (Some b) ok s o = leads_push occ next under (of_truth (Steps.turned is_negated b)) ok s o

  leads_truth : (occ : ℕ) (is_negated : Bool) (next : ℕ) (under : List Entry) (e : Option Entry) → P next → Leads (Steps.truth_on occ is_negated next frame under callers e)
  leads_truth occ is_negated next under None ok s o = tt
  leads_truth occ is_negated next under (Some e) ok s o = leads_truth_by occ is_negated next under (truth e.value) ok s o

  leads_binary_under : (occ : ℕ) (operator : Operator) (next : ℕ) (under : List Entry) (e : Option Entry) (b : Value) → P next → Leads (Steps.binary_under occ operator next frame under callers e b)
  leads_binary_under occ operator next under None b ok s o = tt
  leads_binary_under occ operator next under (Some e) b ok s o =
      leads_then (operate occ operator e.value b) (λ v. Steps.push occ next frame under callers v) (still_operate frame.act occ operator e.value b) (λ v. leads_push occ next under v ok) s o

  leads_binary : (occ : ℕ) (operator : Operator) (next : ℕ) (under : List Entry) (e : Option Entry) → P next → Leads (Steps.binary occ operator next frame under callers e)
  leads_binary occ operator next under None ok s o = tt
  leads_binary occ operator next under (Some e) ok s o = leads_binary_under occ operator next (rest under) (first under) e.value ok s o

  -- Assignments

  leads_put : (lvalue occ next : ℕ) (under : List Entry) (place written v : Value) → P next → Leads (Steps.put lvalue occ next frame under callers place written v)
  leads_put lvalue occ next under place written v ok s o =
      leads_both (write lvalue frame.act place written) (Steps.push occ next frame under callers v) (still_write frame.act lvalue place written) (leads_push occ next under v ok) s o

  leads_store_under : (lvalue occ : ℕ) (to : Conversion) (next : ℕ) (under : List Entry) (e : Option Entry) (v : Value) → P next → Leads (Steps.store_under lvalue occ to next frame under callers e v)
  leads_store_under lvalue occ to next under None v ok s o = tt
  leads_store_under lvalue occ to next under (Some e) v ok s o =
      leads_then (convert to v) (λ w. Steps.put lvalue occ next frame under callers e.value w w) (still_convert frame.act to v) (λ w. leads_put lvalue occ next under e.value w w ok) s o

  leads_store : (lvalue occ : ℕ) (to : Conversion) (next : ℕ) (under : List Entry) (e : Option Entry) → P next → Leads (Steps.store lvalue occ to next frame under callers e)
  leads_store lvalue occ to next under None ok s o = tt
  leads_store lvalue occ to next under (Some e) ok s o = leads_store_under lvalue occ to next (rest under) (first under) e.value ok s o

  leads_copy : (lvalue occ count next : ℕ) (ops : List Entry) (e : Option Entry) → P next → Leads (Steps.copy_of lvalue occ count next frame ops callers e)
  leads_copy lvalue occ count next ops None ok s o = tt
  leads_copy lvalue occ count next ops (Some e) ok s o =
      leads_both (copy lvalue frame.act count e.value (args_of count ops)) (Steps.push occ next frame (drop (count + 1) ops) callers Unwritten) (still_copy frame.act lvalue count e.value (args_of count ops)) (leads_push occ next (drop (count + 1) ops) Unwritten ok) s o

  leads_update_with : (lvalue occ : ℕ) (operator : Operator) (to : Conversion) (is_after : Bool) (next : ℕ) (under : List Entry) (e : Option Entry) (a b : Value) → P next → Leads (Steps.update_with lvalue occ operator to is_after next frame under callers e a b)
  leads_update_with lvalue occ operator to is_after next under None a b ok s o = tt
  leads_update_with lvalue occ operator to is_after next under (Some place) a b ok s o =
      leads_then (operate occ operator a b) (λ v. convert to v >>= λ w. Steps.put lvalue occ next frame under callers place.value w (Steps.kept is_after a w)) (still_operate frame.act occ operator a b)
      (λ v. leads_then (convert to v) (λ w. Steps.put lvalue occ next frame under callers place.value w (Steps.kept is_after a w)) (still_convert frame.act to v) (λ w. leads_put lvalue occ next under place.value w (Steps.kept is_after a w) ok))
      s o

  leads_step : (lvalue occ : ℕ) (operator : Operator) (to : Conversion) (is_after : Bool) (next : ℕ) (under : List Entry) (e : Option Entry) (b : Value) → P next → Leads (Steps.step_on lvalue occ operator to is_after next frame under callers e b)
  leads_step lvalue occ operator to is_after next under None b ok s o = tt
  leads_step lvalue occ operator to is_after next under (Some e) b ok s o = leads_update_with lvalue occ operator to is_after next (rest under) (first under) e.value b ok s o

  leads_update : (lvalue occ : ℕ) (operator : Operator) (to : Conversion) (next : ℕ) (under : List Entry) (e : Option Entry) → P next → Leads (Steps.update lvalue occ operator to next frame under callers e)
  leads_update lvalue occ operator to next under None ok s o = tt
  leads_update lvalue occ operator to next under (Some e) ok s o = leads_step lvalue occ operator to false next (rest under) (first under) e.value ok s o

  -- Ways

  leads_branch_by : (one other : ℕ) (under : List Entry) (b : Option Bool) → P one × P other → Leads (Steps.branch_by one other frame under callers b)
  leads_branch_by one other under None ok s o = tt
  leads_branch_by one other under (Some true) ok s o = leads_goes one under ok.0 s o
  leads_branch_by one other under (Some false) ok s o = leads_goes other under ok.1 s o

  leads_branch : (one other : ℕ) (under : List Entry) (e : Option Entry) → P one × P other → Leads (Steps.branch one other frame under callers e)
  leads_branch one other under None ok s o = tt
  leads_branch one other under (Some e) ok s o = leads_branch_by one other under (truth e.value) ok s o

  leads_shortcut_if : (b : Bool) (occ : ℕ) (when : Bool) (right next : ℕ) (under : List Entry) → P right × P next → Leads (Steps.shortcut_if b occ when right next frame under callers)
  leads_shortcut_if true occ when right next under ok s o = leads_push occ next under (of_truth when) ok.1 s o
  leads_shortcut_if false occ when right next under ok s o = leads_goes right under ok.0 s o

  leads_shortcut_by : (occ : ℕ) (when : Bool) (right next : ℕ) (under : List Entry) (b : Option Bool) → P right × P next → Leads (Steps.shortcut_by occ when right next frame under callers b)
  leads_shortcut_by occ when right next under None ok s o = tt
  leads_shortcut_by occ when right next under (Some b) ok s o = leads_shortcut_if (Steps.same_truth when b) occ when right next under ok s o

  leads_shortcut : (occ : ℕ) (when : Bool) (right next : ℕ) (under : List Entry) (e : Option Entry) → P right × P next → Leads (Steps.shortcut occ when right next frame under callers e)
  leads_shortcut occ when right next under None ok s o = tt
  leads_shortcut occ when right next under (Some e) ok s o = leads_shortcut_by occ when right next under (truth e.value) ok s o

  leads_select_by : (kind : IntKind) (from count other : ℕ) (under : List Entry) (v : Value) → P other × AllCases P (take count (drop from G.cases)) → Leads (Steps.select_by G kind from count other frame under callers v)
  leads_select_by kind from count other under (Int z) ok s o =
      leads_goes (Steps.chosen (converted kind z) other (take count (drop from G.cases))) under (chosen_of P (converted kind z) other (take count (drop from G.cases)) ok.0 ok.1) s o
  leads_select_by kind from count other under _ ok s o = tt

  leads_select : (kind : IntKind) (from count other : ℕ) (under : List Entry) (e : Option Entry) → P other × AllCases P (take count (drop from G.cases)) → Leads (Steps.select G kind from count other frame under callers e)
  leads_select kind from count other under None ok s o = tt
  leads_select kind from count other under (Some e) ok s o = leads_select_by kind from count other under e.value ok s o

  -- Calls

  leads_asked : (occ : ℕ) (callee : FuncId) (count : ℕ) (result : Option IntKind) (next : ℕ) (ops : List Entry) → P next → Leads (Steps.asked occ callee count result next frame ops callers)
  leads_asked occ callee count result next ops ok s o =
      leads_then (ask occ callee frame.act result) (λ v. Steps.push occ next frame (drop (count + 1) ops) callers v) (still_ask frame.act occ callee result) (λ v. leads_push occ next (drop (count + 1) ops) v ok) s o

  leads_return_by : (occ : ℕ) (to : Conversion) (next : ℕ) (under : List Entry) (e : Option Entry) → P next → Leads (Steps.return_by occ to next frame under callers e)
  leads_return_by occ to next under None ok s o = tt
  leads_return_by occ to next under (Some e) ok s o =
      leads_then (convert to e.value) (λ v. Steps.goes next (Steps.returning occ v frame) under callers) (still_convert frame.act to e.value) (λ v t q. on next (Steps.returning occ v frame) under t ok q) s o

  -- Objects

  leads_made : (declarator cells name next : ℕ) (ops : List Entry) → P next → Leads (Steps.made_at declarator cells name next frame ops callers)
  leads_made declarator cells name next ops ok s o =
      leads_both (make declarator cells (frame.base + name)) (Steps.goes next frame ops callers) (still_make frame.act declarator cells (frame.base + name)) (leads_goes next ops ok) s o

  leads_init_of : (declarator : ℕ) (to : Conversion) (next : ℕ) (under : List Entry) (v : Option Value) (e : Option Entry) → P next → Leads (Steps.init_of declarator to next frame under callers v e)
  leads_init_of declarator to next under (Some (Points p)) (Some e) ok s o =
      leads_then (convert to e.value) (λ v. fill declarator frame.act p v >> Steps.goes next frame under callers) (still_convert frame.act to e.value)
      (λ v. leads_both (fill declarator frame.act p v) (Steps.goes next frame under callers) (still_fill frame.act declarator p v) (leads_goes next under ok))
      s o
  leads_init_of declarator to next under _ _ ok s o = tt

  leads_init : (declarator name : ℕ) (to : Conversion) (next : ℕ) (ops : List Entry) → P next → Leads (Steps.init declarator name to next frame ops callers)
  leads_init declarator name to next ops ok s o = leads_init_of declarator to next (rest ops) (slice_get s.names (frame.base + name)) (first ops) ok s o

  leads_filled_of : (fillers : List Filler) (declarator count next : ℕ) (ops : List Entry) (v : Option Value) → P next → Leads (Steps.filled_of fillers declarator count next frame ops callers v)
  leads_filled_of fillers declarator count next ops (Some (Points p)) ok s o =
      leads_both (fill_all declarator frame.act p (args_of count ops) 0 0 fillers) (Steps.goes next frame (drop count ops) callers) (still_fill_all frame.act declarator p (args_of count ops) 0 0 fillers) (leads_goes next (drop count ops) ok) s o
  leads_filled_of fillers declarator count next ops _ ok s o = tt

  leads_filled : (declarator name from fillers count next : ℕ) (ops : List Entry) → P next → Leads (Steps.filled G declarator name from fillers count next frame ops callers)
  leads_filled declarator name from fillers count next ops ok s o = leads_filled_of (take fillers (drop from G.fillers)) declarator count next ops (slice_get s.names (frame.base + name)) ok s o

  leads_ended : (from count next : ℕ) (ops : List Entry) → P next → Leads (Steps.ended_at from count next frame ops callers)
  leads_ended from count next ops ok s o =
      leads_both (end_names (frame.base + from) count) (Steps.goes next frame ops callers) (still_end_names frame.act (frame.base + from) count) (leads_goes next ops ok) s o

  -- Entering and leaving

  leads_enter : (callee : FuncId) (from formals names next : ℕ) (ops : List Entry) → P next → Leads (Steps.enter_at G callee from formals names next ops callers)
  leads_enter callee from formals names next ops ok s o =
      holds_on (λ x t. t.turns ≤ most) Q (λ f. Steps.goes next f (drop (formals + 1) ops) callers) (λ f t q. on next f (drop (formals + 1) ops) t ok q)
      (enter G.formals (Steps.site_of callers) callee from names (args_of formals ops) s)
      (still_enter G.formals (Steps.site_of callers) callee from names (args_of formals ops) most s o)

-- How much is left to do

-- the ranks of the points at which callers go on, together
abbrev pub waiting : List ℕ → List Caller → ℕ
waiting ranks [] = 0
waiting ranks (c ∷ cs) = rank ranks c.point + waiting ranks cs

-- how many steps are left at most, the end aside
abbrev pub work : ℕ → List ℕ → Config → State → ℕ
work steps ranks (At p frame ops callers) s = steps * s.turns + rank ranks p + waiting ranks callers
work steps ranks Halted s = 0

abbrev pub AllRanked : ℕ → List ℕ → List Caller → Type 0
AllRanked steps ranks [] = Unit {0}
AllRanked steps ranks (c ∷ cs) = (rank ranks c.point < steps) × AllRanked steps ranks cs

-- the machine is at a point of a rank below the number of steps, and its callers go on at such
abbrev pub Stands : ℕ → List ℕ → Config → Type 0
Stands steps ranks (At p frame ops callers) = (rank ranks p < steps) × AllRanked steps ranks callers
Stands steps ranks Halted = Unit {0}

-- there is less left to do than n, with at most so many turns
pub record Less (steps : ℕ) (ranks : List ℕ) (n turns : ℕ) (c : Config) (s : State) : Type 0 where
  pub stands : Stands steps ranks c
  pub less : work steps ranks c s < n
  pub turns_left : s.turns ≤ turns

-- back to the last caller
goes_back : (steps : ℕ) (ranks : List ℕ) (callers : List Caller) (most n turns : ℕ) → AllRanked steps ranks callers → steps * most + 1 + waiting ranks callers ≤ n → most ≤ turns → (frame : Frame) (ops : List Entry) (s : State) → s.turns ≤ most → Holds (Less steps ranks n turns) (Steps.back_to frame ops (rest callers) (first callers) s)
goes_back steps ranks [] most n turns all fits fewer frame ops s o = record { stands = tt; less = omega (arith, fits); turns_left = omega (arith, o, fewer) }
goes_back steps ranks (c ∷ cs) most n turns all fits fewer frame ops s o =
    holds_on (λ x t. t.turns ≤ most) (Less steps ranks n turns) (λ v. Steps.push c.site c.point c.frame ops cs v)
    (λ v t q. let times : steps * t.turns ≤ steps * most = mul-le-mul_left steps q in
    record { stands = all; less = omega (arith, times, fits); turns_left = omega (arith, q, fewer) })
    (result_of c.site c.is_used frame.returned s) (still_result c.frame.act c.site c.is_used frame.returned most s o)

module _ (G : Acts) (steps : ℕ) (ranks : List ℕ) (a : AreRanked G steps ranks) (callers : List Caller) (all : AllRanked steps ranks callers) (bound most n turns : ℕ) (above : 0 < bound) (within : bound ≤ steps) (fits : steps * most + bound + waiting ranks callers ≤ n) (fewer : most ≤ turns) where
  abbrev Goal : Config → State → Type 0
  Goal = Less steps ranks n turns

  goes_on : (next : ℕ) (frame : Frame) (ops : List Entry) (s : State) → rank ranks next < bound → s.turns ≤ most → Less steps ranks n turns (At next frame ops callers) s
  goes_on next frame ops s lower o =
      let times : steps * s.turns ≤ steps * most = mul-le-mul_left steps o in
      record {
        stands = (omega (arith, lower, within), all);
        less = omega (arith, times, lower, fits);
        turns_left = omega (arith, o, fewer);
      }

  -- a function is called, and the caller is to go on at a point of a smaller rank
  calls_on : (site : ℕ) (is_used : Bool) (next : ℕ) (frame : Frame) (ops : List Entry) (f point : ℕ) (s : State) → slice_get G.entries f ≡ Some (Some point) → rank ranks next < bound → s.turns ≤ most → Less steps ranks n turns (At point frame ops (record { site = site; is_used = is_used; point = next; frame = frame } ∷ callers)) s
  calls_on site is_used next frame ops f point s e lower o =
      let times : steps * s.turns ≤ steps * most = mul-le-mul_left steps o in
      let none : rank ranks point ≡ 0 = a.entries f point e in
      let some : 0 < steps = a.some in
      record {
        stands = (omega (arith, none, some), (omega (arith, lower, within), all));
        less = omega (arith, times, lower, fits, none);
        turns_left = omega (arith, o, fewer);
      }

  lowest : steps * most + 1 + waiting ranks callers ≤ n
  lowest = omega (arith, above, fits)

  abbrev Lower : ℕ → Type 0
  Lower q = rank ranks q < bound

  module _ (frame : Frame) where
    abbrev From : Part Config → Type 0
    From m = (s : State) → s.turns ≤ most → Holds Goal (m s)

    leads_called : (occ : ℕ) (is_used : Bool) (next : ℕ) (ops : List Entry) (k : ℕ) (entry : Option (Option ℕ)) → slice_get G.entries k ≡ entry → Lower next → From (Steps.called frame ops (record { site = occ; is_used = is_used; point = next; frame = frame } ∷ callers) entry)
    leads_called occ is_used next ops k (Some (Some point)) e lower s o = calls_on occ is_used next frame ops k point s e lower o
    leads_called occ is_used next ops k (Some None) e lower s o = tt
    leads_called occ is_used next ops k None e lower s o = tt

    leads_call_to : (occ : ℕ) (is_used : Bool) (next : ℕ) (ops : List Entry) (v : Value) → Lower next → From (Steps.call_to G occ is_used next frame ops callers v)
    leads_call_to occ is_used next ops (Function g) lower s o = leads_called occ is_used next ops g.0 (slice_get G.entries g.0) refl lower s o
    leads_call_to occ is_used next ops Null lower s o = tt
    leads_call_to occ is_used next ops Unwritten lower s o = tt
    leads_call_to occ is_used next ops (Int z) lower s o = tt
    leads_call_to occ is_used next ops (Points p) lower s o = tt

    leads_call : (occ : ℕ) (is_used : Bool) (next : ℕ) (ops : List Entry) (e : Option Entry) → Lower next → From (Steps.call G occ is_used next frame ops callers e)
    leads_call occ is_used next ops None lower s o = tt
    leads_call occ is_used next ops (Some e) lower s o = leads_call_to occ is_used next ops e.value lower s o

    leads_finish : (ops : List Entry) → From (Steps.finish frame ops callers)
    leads_finish ops s o = holds_on (λ x t. t.turns ≤ most) Goal (λ _. Steps.back_to frame ops (rest callers) (first callers)) (λ x t q. goes_back steps ranks callers most n turns all lowest fewer frame ops t q) (leave frame s) (still_leave frame most s o)

    leads_leave : (names : ℕ) (ops : List Entry) → From (Steps.leave_with names frame ops callers)
    leads_leave names ops s o = holds_on (λ x t. t.turns ≤ most) Goal (λ _. Steps.finish frame ops callers) (λ x t q. leads_finish ops t q) (end_names frame.base names s) (still_end_names frame.act frame.base names most s o)

    -- one act
    leads_act : (act : Act) (ops : List Entry) → AllWays Lower G.cases (ways_of act) → From (Steps.act_by G act frame ops callers)
    leads_act (acts.Skip next) ops ok s o = leads_goes G frame callers Lower Goal most goes_on next ops ok s o
    leads_act (acts.Constant occ v next) ops ok s o = leads_push G frame callers Lower Goal most goes_on occ next ops v ok s o
    leads_act (acts.Hand occ next) ops ok s o = leads_hand G frame callers Lower Goal most goes_on occ next (rest ops) (first ops) ok s o
    leads_act (acts.Name occ object gives next) ops ok s o = leads_name G frame callers Lower Goal most goes_on occ object gives next ops ok s o
    leads_act (acts.Target occ gives next) ops ok s o = leads_target G frame callers Lower Goal most goes_on occ gives next (rest ops) (first ops) ok s o
    leads_act (acts.Element occ gives next) ops ok s o = leads_element G frame callers Lower Goal most goes_on occ gives next (rest ops) (first ops) ok s o
    leads_act (acts.Member occ lvalue cells offset gives next) ops ok s o = leads_member G frame callers Lower Goal most goes_on occ lvalue cells offset gives next (rest ops) (first ops) ok s o
    leads_act (acts.Forget next) ops ok s o = leads_goes G frame callers Lower Goal most goes_on next (rest ops) ok s o
    leads_act (acts.Convert occ to next) ops ok s o = leads_convert G frame callers Lower Goal most goes_on occ to next (rest ops) (first ops) ok s o
    leads_act (acts.Unary occ op kind next) ops ok s o = leads_unary G frame callers Lower Goal most goes_on occ op kind next (rest ops) (first ops) ok s o
    leads_act (acts.Truth occ is_negated next) ops ok s o = leads_truth G frame callers Lower Goal most goes_on occ is_negated next (rest ops) (first ops) ok s o
    leads_act (acts.Binary occ operator next) ops ok s o = leads_binary G frame callers Lower Goal most goes_on occ operator next (rest ops) (first ops) ok s o
    leads_act (acts.Store lvalue occ to next) ops ok s o = leads_store G frame callers Lower Goal most goes_on lvalue occ to next (rest ops) (first ops) ok s o
    leads_act (acts.Copy lvalue occ count next) ops ok s o = leads_copy G frame callers Lower Goal most goes_on lvalue occ count next ops (slice_get ops count) ok s o
    leads_act (acts.Update lvalue occ operator to next) ops ok s o = leads_update G frame callers Lower Goal most goes_on lvalue occ operator to next (rest ops) (first ops) ok s o
    leads_act (acts.Step lvalue occ operator to is_after next) ops ok s o = leads_step G frame callers Lower Goal most goes_on lvalue occ operator to is_after next (rest ops) (first ops) (Int (pos 1)) ok s o
    leads_act (acts.Branch one other) ops ok s o = leads_branch G frame callers Lower Goal most goes_on one other (rest ops) (first ops) ok s o
    leads_act (acts.Shortcut occ when right next) ops ok s o = leads_shortcut G frame callers Lower Goal most goes_on occ when right next (rest ops) (first ops) ok s o
    leads_act (acts.Select kind from count other) ops ok s o = leads_select G frame callers Lower Goal most goes_on kind from count other (rest ops) (first ops) ok s o
    leads_act (acts.Call occ count is_used next) ops ok s o = leads_call occ is_used next ops (slice_get ops count) ok s o
    leads_act (acts.Ask occ callee count result next) ops ok s o = leads_asked G frame callers Lower Goal most goes_on occ callee count result next ops ok s o
    leads_act (acts.Enter callee from formals names next) ops ok s o = leads_enter G frame callers Lower Goal most goes_on callee from formals names next ops ok s o
    leads_act (acts.Leave names) ops ok s o = leads_leave names ops s o
    leads_act (acts.Return occ to next) ops ok s o = leads_return_by G frame callers Lower Goal most goes_on occ to next (rest ops) (first ops) ok s o
    leads_act (acts.ReturnNone occ next) ops ok s o = goes_on next (Steps.returning occ Unwritten frame) ops s ok o
    leads_act (acts.Make declarator cells name next) ops ok s o = leads_made G frame callers Lower Goal most goes_on declarator cells name next ops ok s o
    leads_act (acts.Init declarator name to next) ops ok s o = leads_init G frame callers Lower Goal most goes_on declarator name to next ops ok s o
    leads_act (acts.Fill declarator name from fillers count next) ops ok s o = leads_filled G frame callers Lower Goal most goes_on declarator name from fillers count next ops ok s o
    leads_act (acts.Drop from count next) ops ok s o = leads_ended G frame callers Lower Goal most goes_on from count next ops ok s o

module _ (G : Acts) (steps : ℕ) (ranks : List ℕ) (a : AreRanked G steps ranks) where
  -- what is done where a node stands
  step_at : (turns point : ℕ) (node : Node) (frame : Frame) (ops : List Entry) (callers : List Caller) (s : State) → slice_get G.nodes point ≡ Some node → rank ranks point < steps → AllRanked steps ranks callers → s.turns ≤ turns → Holds (Less steps ranks (work steps ranks (At point frame ops callers) s) turns) (Steps.step_by G (Some node) frame ops callers s)
  step_at turns point node frame ops callers s e below all o = by node.takes_turn (a.points point node e below)
    where
      before : ℕ
      before = work steps ranks (At point frame ops callers) s

      part : Part Config
      part = Steps.act_by G node.act frame ops callers

      turned : (n : ℕ) → s.turns ≡ n → LeadsDown ranks G.cases steps node.act → Holds (Less steps ranks before turns) (turn_of n part s)
      turned zero same d = tt
      turned (suc t) same d =
          let times : steps * s.turns ≡ steps * t + steps = ap (λ k. steps * k) same ∙ omega arith in
          leads_act G steps ranks a callers all steps t before turns d.above (omega arith) (omega (arith, times)) (omega (arith, same, o)) frame node.act ops d.ways (record s { turns = t }) (omega arith)

      by : (takes : Bool) → LeadsDown ranks G.cases (limit takes steps (rank ranks point)) node.act → Holds (Less steps ranks before turns) (Steps.turn_if takes part s)
      by true d = turned s.turns refl d
      by false d = leads_act G steps ranks a callers all (rank ranks point) s.turns before turns d.above (omega (arith, below)) (omega arith) o frame node.act ops d.ways s (omega arith)

  -- what is done at a point
  step_on : (turns point : ℕ) (node : Option Node) (frame : Frame) (ops : List Entry) (callers : List Caller) (s : State) → slice_get G.nodes point ≡ node → rank ranks point < steps → AllRanked steps ranks callers → s.turns ≤ turns → Holds (Less steps ranks (work steps ranks (At point frame ops callers) s) turns) (Steps.step_by G node frame ops callers s)
  step_on turns point None frame ops callers s e below all o = tt
  step_on turns point (Some node) frame ops callers s e below all o = step_at turns point node frame ops callers s e below all o

  -- with more steps than are left to do the run is not cut off
  pub driven : (turns k : ℕ) (c : Config) (s : State) → Stands steps ranks c → work steps ranks c s < k → s.turns ≤ turns → Holds (λ x t. t.turns ≤ turns) (Steps.drive G k c s)
  driven turns zero c s h less o = absurd (omega (arith, less))
  driven turns (suc k) Halted s h less o = o
  driven turns (suc k) (At point frame ops callers) s h less o =
      holds_on (Less steps ranks (work steps ranks (At point frame ops callers) s) turns) (λ x t. t.turns ≤ turns) (Steps.drive G k)
      (λ c t q. let fewer : work steps ranks c t < work steps ranks (At point frame ops callers) s = q.less in
      driven turns k c t q.stands (omega (arith, fewer, less)) q.turns_left)
      (Steps.step_by G (slice_get G.nodes point) frame ops callers s) (step_on turns point (slice_get G.nodes point) frame ops callers s refl h.0 h.1 o)

-- a run that is not cut off is the same with more steps
pub driven_same : (G : Acts) (Q : Unit {0} → State → Type 0) (k j : ℕ) → k ≤ j → (c : Config) (s : State) → Holds Q (Steps.drive G k c s) → Steps.drive G j c s ≡ Steps.drive G k c s
driven_same G Q zero j le c s h = absurd h
driven_same G Q (suc k) zero le c s h = absurd (omega (arith, le))
driven_same G Q (suc k) (suc j) le Halted s h = refl
driven_same G Q (suc k) (suc j) le (At point frame ops callers) s h =
    same_on (λ c t. Holds Q (Steps.drive G k c t)) (Steps.drive G k) (Steps.drive G j) (λ c t q. driven_same G Q k j (omega (arith, le)) c t q)
    (Steps.step_by G (slice_get G.nodes point) frame ops callers s) (first_holds Q (Steps.drive G k) (Steps.step_by G (slice_get G.nodes point) frame ops callers s) h)
