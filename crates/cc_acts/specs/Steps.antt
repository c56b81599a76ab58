-- What the machine does at a point. Neither a tree nor the meaning of one stands here.
use Rattle.std.specs.Prelude.{ℕ, zero, suc, ℤ, pos, ◌+◌, ◌-◌, length, take, drop, reverse, List, [], ◌∷◌, Option, Some, None, Bool, true, false, cond, slice_get}
use Rattle.std.specs.Ordering.{int_eq}
use Rattle.cc_arith.specs.declared.kind.IntKind.{IntKind}
use Rattle.cc_arith.specs.declared.unary_operator.IntUnary.{IntUnary}
use Rattle.cc_arith.specs.Conversions.{converted}
use Rattle.cc_program.specs.declared.function.FuncId.{FuncId}
use Rattle.cc_meaning.specs.declared.end.Undef.TheVariants.{NullCall}
use Rattle.cc_store.specs.declared.value.Value.{Value}
use Rattle.cc_store.specs.declared.value.Value.TheVariants.{Unwritten, Int, Null, Function, Points}
use Rattle.cc_store.specs.Stacks.{first, rest}
use Rattle.cc_acts.specs.declared.act.Act.{Act}
use Rattle.cc_acts.specs.declared.act.Act.TheVariants as acts
use Rattle.cc_acts.specs.declared.acts.Acts.{Acts}
use Rattle.cc_acts.specs.declared.acts.Case.{Case}
use Rattle.cc_acts.specs.declared.acts.Filler.{Filler}
use Rattle.cc_acts.specs.declared.acts.Node.{Node}
use Rattle.cc_acts.specs.declared.frame.Caller.{Caller}
use Rattle.cc_acts.specs.declared.frame.Entry.{Entry}
use Rattle.cc_acts.specs.declared.frame.Frame.{Frame}
use Rattle.cc_acts.specs.declared.state.State.{State}
use Rattle.cc_acts.specs.declared.stop.Stop.TheVariants.{Lost, Undefined}
use Rattle.cc_acts.specs.declared.value_act.Conversion.{Conversion}
use Rattle.cc_acts.specs.declared.value_act.Gives.{Gives}
use Rattle.cc_acts.specs.declared.value_act.Named.{Named}
use Rattle.cc_acts.specs.declared.value_act.Named.TheVariants.{Local, Static}
use Rattle.cc_acts.specs.declared.value_act.Operator.{Operator}
use Rattle.cc_acts.specs.declared.value_act.Operator.TheVariants.{Plus}
use Rattle.cc_acts.specs.Runs.{Run, Goes, Stops, Cut, Part, go_on, ◌>>=◌, ◌>>◌, give, stop}
use Rattle.cc_acts.specs.Values.{truth, of_truth}
use Rattle.cc_acts.specs.Parts.{with, taken, inner, write, copy, operate, unary, convert, takes_turn, make, fill_all, fill, end_names, enter, leave, result_of, ask}

-- At a point of an activation, with the values that are still to be used, the last first, over its callers; or after the
-- test's call.
pub data Config : Type 0 where
  At : (point : ℕ) (frame : Frame) (operands : List Entry) (callers : List Caller) → Config
  Halted : Config

abbrev pub goes : ℕ → Frame → List Entry → List Caller → Part Config
goes next frame ops callers = give (At next frame ops callers)

abbrev pub push : ℕ → ℕ → Frame → List Entry → List Caller → Value → Part Config
push occ next frame ops callers v = give (At next frame (with occ v ops) callers)

-- Names and places

-- the lvalue designates what the value points to
abbrev pub take_from : ℕ → Gives → ℕ → Frame → List Entry → List Caller → Value → Part Config
take_from occ gives next frame ops callers p = do
  ops ← taken occ gives frame.act ops p
  goes next frame ops callers

abbrev pub local : ℕ → Gives → ℕ → Frame → List Entry → List Caller → Option Value → Part Config
local occ gives next frame ops callers None = stop Lost
local occ gives next frame ops callers (Some p) = take_from occ gives next frame ops callers p

abbrev pub name : ℕ → Named → Gives → ℕ → Frame → List Entry → List Caller → Part Config
name occ (Static p) gives next frame ops callers s = take_from occ gives next frame ops callers (Points p) s
name occ (Local n) gives next frame ops callers s = local occ gives next frame ops callers (slice_get s.names (frame.base + n)) s

abbrev pub target : ℕ → Gives → ℕ → Frame → List Entry → List Caller → Option Entry → Part Config
target occ gives next frame under callers None = stop Lost
target occ gives next frame under callers (Some e) = take_from occ gives next frame under callers e.value

abbrev pub element_under : ℕ → Gives → ℕ → Frame → List Entry → List Caller → Option Entry → Value → Part Config
element_under occ gives next frame under callers None i = stop Lost
element_under occ gives next frame under callers (Some e) i = do
  p ← operate occ Plus e.value i
  take_from occ gives next frame under callers p

abbrev pub element : ℕ → Gives → ℕ → Frame → List Entry → List Caller → Option Entry → Part Config
element occ gives next frame under callers None = stop Lost
element occ gives next frame under callers (Some e) = element_under occ gives next frame (rest under) callers (first under) e.value

abbrev pub member : ℕ → ℕ → ℕ → ℕ → Gives → ℕ → Frame → List Entry → List Caller → Option Entry → Part Config
member occ lvalue cells offset gives next frame under callers None = stop Lost
member occ lvalue cells offset gives next frame under callers (Some e) = do
  p ← inner lvalue cells offset 1 e.value
  take_from occ gives next frame under callers p

-- Values

abbrev pub hand : ℕ → ℕ → Frame → List Entry → List Caller → Option Entry → Part Config
hand occ next frame under callers None = stop Lost
hand occ next frame under callers (Some e) = push occ next frame under callers e.value

abbrev pub convert_to : ℕ → Conversion → ℕ → Frame → List Entry → List Caller → Option Entry → Part Config
convert_to occ to next frame under callers None = stop Lost
convert_to occ to next frame under callers (Some e) = do
  v ← convert to e.value
  push occ next frame under callers v

abbrev pub unary_on : ℕ → IntUnary → IntKind → ℕ → Frame → List Entry → List Caller → Option Entry → Part Config
unary_on occ op kind next frame under callers None = stop Lost
unary_on occ op kind next frame under callers (Some e) = do
  v ← unary occ op kind e.value
  push occ next frame under callers v

-- the truth, or its negation
abbrev pub turned : Bool → Bool → Bool
turned true b = cond b false true
turned false b = b

abbrev pub truth_by : ℕ → Bool → ℕ → Frame → List Entry → List Caller → Option Bool → Part Config
truth_by occ is_negated next frame under callers None = stop Lost
truth_by occ is_negated next frame under callers (Some b) = push occ next frame under callers (of_truth (turned is_negated b))

abbrev pub truth_on : ℕ → Bool → ℕ → Frame → List Entry → List Caller → Option Entry → Part Config
truth_on occ is_negated next frame under callers None = stop Lost
truth_on occ is_negated next frame under callers (Some e) = truth_by occ is_negated next frame under callers (truth e.value)

abbrev pub binary_under : ℕ → Operator → ℕ → Frame → List Entry → List Caller → Option Entry → Value → Part Config
binary_under occ operator next frame under callers None b = stop Lost
binary_under occ operator next frame under callers (Some e) b = do
  v ← operate occ operator e.value b
  push occ next frame under callers v

abbrev pub binary : ℕ → Operator → ℕ → Frame → List Entry → List Caller → Option Entry → Part Config
binary occ operator next frame under callers None = stop Lost
binary occ operator next frame under callers (Some e) = binary_under occ operator next frame (rest under) callers (first under) e.value

-- Assignments

-- writes the value through the place by the lvalue; the node has this value then
abbrev pub put : ℕ → ℕ → ℕ → Frame → List Entry → List Caller → Value → Value → Value → Part Config
put lvalue occ next frame under callers place written v = do
  write lvalue frame.act place written
  push occ next frame under callers v

abbrev pub store_under : ℕ → ℕ → Conversion → ℕ → Frame → List Entry → List Caller → Option Entry → Value → Part Config
store_under lvalue occ to next frame under callers None v = stop Lost
store_under lvalue occ to next frame under callers (Some e) v = do
  w ← convert to v
  put lvalue occ next frame under callers e.value w w

abbrev pub store : ℕ → ℕ → Conversion → ℕ → Frame → List Entry → List Caller → Option Entry → Part Config
store lvalue occ to next frame under callers None = stop Lost
store lvalue occ to next frame under callers (Some e) = store_under lvalue occ to next frame (rest under) callers (first under) e.value

-- the last values, in the order in which they came
abbrev pub args_of : ℕ → List Entry → List Entry
args_of count ops = drop (length ops - count) (reverse ops)

abbrev pub copy_of : ℕ → ℕ → ℕ → ℕ → Frame → List Entry → List Caller → Option Entry → Part Config
copy_of lvalue occ count next frame ops callers None = stop Lost
copy_of lvalue occ count next frame ops callers (Some e) = do
  copy lvalue frame.act count e.value (args_of count ops)
  push occ next frame (drop (count + 1) ops) callers Unwritten

-- what is given of a step or a compound assignment: the value that was read, or the one that was written
abbrev pub kept : Bool → Value → Value → Value
kept true old new = old
kept false old new = new

-- the operator on the value that was read and the right one is written, converted
abbrev pub update_with : ℕ → ℕ → Operator → Conversion → Bool → ℕ → Frame → List Entry → List Caller → Option Entry → Value → Value → Part Config
update_with lvalue occ operator to is_after next frame under callers None a b = stop Lost
update_with lvalue occ operator to is_after next frame under callers (Some place) a b = do
  v ← operate occ operator a b
  w ← convert to v
  put lvalue occ next frame under callers place.value w (kept is_after a w)

abbrev pub step_on : ℕ → ℕ → Operator → Conversion → Bool → ℕ → Frame → List Entry → List Caller → Option Entry → Value → Part Config
step_on lvalue occ operator to is_after next frame under callers None b = stop Lost
step_on lvalue occ operator to is_after next frame under callers (Some e) b = update_with lvalue occ operator to is_after next frame (rest under) callers (first under) e.value b

abbrev pub update : ℕ → ℕ → Operator → Conversion → ℕ → Frame → List Entry → List Caller → Option Entry → Part Config
update lvalue occ operator to next frame under callers None = stop Lost
update lvalue occ operator to next frame under callers (Some e) = step_on lvalue occ operator to false next frame (rest under) callers (first under) e.value

-- Ways

abbrev pub branch_by : ℕ → ℕ → Frame → List Entry → List Caller → Option Bool → Part Config
branch_by one other frame under callers None = stop Lost
branch_by one other frame under callers (Some b) = goes (cond b one other) frame under callers

abbrev pub branch : ℕ → ℕ → Frame → List Entry → List Caller → Option Entry → Part Config
branch one other frame under callers None = stop Lost
branch one other frame under callers (Some e) = branch_by one other frame under callers (truth e.value)

abbrev pub same_truth : Bool → Bool → Bool
same_truth true b = b
same_truth false b = cond b false true

abbrev pub shortcut_if : Bool → ℕ → Bool → ℕ → ℕ → Frame → List Entry → List Caller → Part Config
shortcut_if true occ when right next frame under callers = push occ next frame under callers (of_truth when)
shortcut_if false occ when right next frame under callers = goes right frame under callers

abbrev pub shortcut_by : ℕ → Bool → ℕ → ℕ → Frame → List Entry → List Caller → Option Bool → Part Config
shortcut_by occ when right next frame under callers None = stop Lost
shortcut_by occ when right next frame under callers (Some b) = shortcut_if (same_truth when b) occ when right next frame under callers

abbrev pub shortcut : ℕ → Bool → ℕ → ℕ → Frame → List Entry → List Caller → Option Entry → Part Config
shortcut occ when right next frame under callers None = stop Lost
shortcut occ when right next frame under callers (Some e) = shortcut_by occ when right next frame under callers (truth e.value)

-- the point of the first case with the value, or else the other
abbrev pub chosen : ℤ → ℕ → List Case → ℕ
chosen z other [] = other
chosen z other (c ∷ cs) = cond (int_eq c.value z) c.point (chosen z other cs)

abbrev pub select_by : Acts → IntKind → ℕ → ℕ → ℕ → Frame → List Entry → List Caller → Value → Part Config
select_by G kind from count other frame under callers (Int z) = goes (chosen (converted kind z) other (take count (drop from G.cases))) frame under callers
select_by G kind from count other frame under callers _ = stop Lost

abbrev pub select : Acts → IntKind → ℕ → ℕ → ℕ → Frame → List Entry → List Caller → Option Entry → Part Config
select G kind from count other frame under callers None = stop Lost
select G kind from count other frame under callers (Some e) = select_by G kind from count other frame under callers e.value

-- Calls

abbrev pub called : Frame → List Entry → List Caller → Option (Option ℕ) → Part Config
called frame ops callers (Some (Some entry)) = goes entry frame ops callers
called frame ops callers _ = stop Lost

abbrev pub call_to : Acts → ℕ → Bool → ℕ → Frame → List Entry → List Caller → Value → Part Config
call_to G occ is_used next frame ops callers (Function g) = called frame ops (record { site = occ; is_used = is_used; point = next; frame = frame } ∷ callers) (slice_get G.entries g.0)
call_to G occ is_used next frame ops callers Null = stop (Undefined occ NullCall)
call_to G occ is_used next frame ops callers _ = stop Lost

abbrev pub call : Acts → ℕ → Bool → ℕ → Frame → List Entry → List Caller → Option Entry → Part Config
call G occ is_used next frame ops callers None = stop Lost
call G occ is_used next frame ops callers (Some e) = call_to G occ is_used next frame ops callers e.value

-- a call of the environment takes its arguments and its designator away
abbrev pub asked : ℕ → FuncId → ℕ → Option IntKind → ℕ → Frame → List Entry → List Caller → Part Config
asked occ callee count result next frame ops callers = do
  v ← ask occ callee frame.act result
  push occ next frame (drop (count + 1) ops) callers v

abbrev pub site_by : Option Caller → Option ℕ
site_by None = None
site_by (Some c) = Some c.site

-- the site of the call that the last caller waits for
abbrev pub site_of : List Caller → Option ℕ
site_of callers = site_by (first callers)

-- enters a function whose arguments lie over the designator
abbrev pub enter_at : Acts → FuncId → ℕ → ℕ → ℕ → ℕ → List Entry → List Caller → Part Config
enter_at G callee from formals names next ops callers = do
  frame ← enter G.formals (site_of callers) callee from names (args_of formals ops)
  goes next frame (drop (formals + 1) ops) callers

abbrev pub back_to : Frame → List Entry → List Caller → Option Caller → Part Config
back_to frame ops callers None = give Halted
back_to frame ops callers (Some c) = do
  v ← result_of c.site c.is_used frame.returned
  push c.site c.point c.frame ops callers v

-- the activation's end, once its objects have ended
abbrev pub finish : Frame → List Entry → List Caller → Part Config
finish frame ops callers = do
  leave frame
  back_to frame ops (rest callers) (first callers)

abbrev pub leave_with : ℕ → Frame → List Entry → List Caller → Part Config
leave_with names frame ops callers = do
  end_names frame.base names
  finish frame ops callers

abbrev pub returning : ℕ → Value → Frame → Frame
returning occ v frame = record frame { returned = Some (record { occ = occ; value = v }) }

abbrev pub return_by : ℕ → Conversion → ℕ → Frame → List Entry → List Caller → Option Entry → Part Config
return_by occ to next frame under callers None = stop Lost
return_by occ to next frame under callers (Some e) = do
  v ← convert to e.value
  goes next (returning occ v frame) under callers

-- Objects

abbrev pub made_at : ℕ → ℕ → ℕ → ℕ → Frame → List Entry → List Caller → Part Config
made_at declarator cells name next frame ops callers = make declarator cells (frame.base + name) >> goes next frame ops callers

abbrev pub init_of : ℕ → Conversion → ℕ → Frame → List Entry → List Caller → Option Value → Option Entry → Part Config
init_of declarator to next frame under callers (Some (Points p)) (Some e) = do
  v ← convert to e.value
  fill declarator frame.act p v
  goes next frame under callers
init_of declarator to next frame under callers _ _ = stop Lost

-- the one cell of the object of a name
abbrev pub init : ℕ → ℕ → Conversion → ℕ → Frame → List Entry → List Caller → Part Config
init declarator name to next frame ops callers s = init_of declarator to next frame (rest ops) callers (slice_get s.names (frame.base + name)) (first ops) s

abbrev pub filled_of : List Filler → ℕ → ℕ → ℕ → Frame → List Entry → List Caller → Option Value → Part Config
filled_of fillers declarator count next frame ops callers (Some (Points p)) = do
  fill_all declarator frame.act p (args_of count ops) 0 0 fillers
  goes next frame (drop count ops) callers
filled_of fillers declarator count next frame ops callers _ = stop Lost

-- the cells of the object of a name
abbrev pub filled : Acts → ℕ → ℕ → ℕ → ℕ → ℕ → ℕ → Frame → List Entry → List Caller → Part Config
filled G declarator name from fillers count next frame ops callers s =
    filled_of (take fillers (drop from G.fillers)) declarator count next frame ops callers (slice_get s.names (frame.base + name)) s

abbrev pub ended_at : ℕ → ℕ → ℕ → Frame → List Entry → List Caller → Part Config
ended_at from count next frame ops callers = end_names (frame.base + from) count >> goes next frame ops callers

abbrev pub return_none : ℕ → ℕ → Frame → List Entry → List Caller → Part Config
return_none occ next frame ops callers = goes next (returning occ Unwritten frame) ops callers

-- one act
abbrev pub act_by : Acts → Act → Frame → List Entry → List Caller → Part Config
act_by G (acts.Skip next) frame ops callers = goes next frame ops callers
act_by G (acts.Constant occ v next) frame ops callers = push occ next frame ops callers v
act_by G (acts.Hand occ next) frame ops callers = hand occ next frame (rest ops) callers (first ops)
act_by G (acts.Name occ object gives next) frame ops callers = name occ object gives next frame ops callers
act_by G (acts.Target occ gives next) frame ops callers = target occ gives next frame (rest ops) callers (first ops)
act_by G (acts.Element occ gives next) frame ops callers = element occ gives next frame (rest ops) callers (first ops)
act_by G (acts.Member occ lvalue cells offset gives next) frame ops callers = member occ lvalue cells offset gives next frame (rest ops) callers (first ops)
act_by G (acts.Forget next) frame ops callers = goes next frame (rest ops) callers
act_by G (acts.Convert occ to next) frame ops callers = convert_to occ to next frame (rest ops) callers (first ops)
act_by G (acts.Unary occ op kind next) frame ops callers = unary_on occ op kind next frame (rest ops) callers (first ops)
act_by G (acts.Truth occ is_negated next) frame ops callers = truth_on occ is_negated next frame (rest ops) callers (first ops)
act_by G (acts.Binary occ operator next) frame ops callers = binary occ operator next frame (rest ops) callers (first ops)
act_by G (acts.Store lvalue occ to next) frame ops callers = store lvalue occ to next frame (rest ops) callers (first ops)
act_by G (acts.Copy lvalue occ count next) frame ops callers = copy_of lvalue occ count next frame ops callers (slice_get ops count)
act_by G (acts.Update lvalue occ operator to next) frame ops callers = update lvalue occ operator to next frame (rest ops) callers (first ops)
act_by G (acts.Step lvalue occ operator to is_after next) frame ops callers = step_on lvalue occ operator to is_after next frame (rest ops) callers (first ops) (Int (pos 1))
act_by G (acts.Branch one other) frame ops callers = branch one other frame (rest ops) callers (first ops)
act_by G (acts.Shortcut occ when right next) frame ops callers = shortcut occ when right next frame (rest ops) callers (first ops)
act_by G (acts.Select kind from count other) frame ops callers = select G kind from count other frame (rest ops) callers (first ops)
act_by G (acts.Call occ count is_used next) frame ops callers = call G occ is_used next frame ops callers (slice_get ops count)
act_by G (acts.Ask occ callee count result next) frame ops callers = asked occ callee count result next frame ops callers
act_by G (acts.Enter callee from formals names next) frame ops callers = enter_at G callee from formals names next ops callers
act_by G (acts.Leave names) frame ops callers = leave_with names frame ops callers
act_by G (acts.Return occ to next) frame ops callers = return_by occ to next frame (rest ops) callers (first ops)
act_by G (acts.ReturnNone occ next) frame ops callers = return_none occ next frame ops callers
act_by G (acts.Make declarator cells name next) frame ops callers = made_at declarator cells name next frame ops callers
act_by G (acts.Init declarator name to next) frame ops callers = init declarator name to next frame ops callers
act_by G (acts.Fill declarator name from fillers count next) frame ops callers = filled G declarator name from fillers count next frame ops callers
act_by G (acts.Drop from count next) frame ops callers = ended_at from count next frame ops callers

abbrev pub turn_if : Bool → Part Config → Part Config
turn_if true m = takes_turn m
turn_if false m = m

-- what is done at a point
abbrev pub step_by : Acts → Option Node → Frame → List Entry → List Caller → Part Config
step_by G None frame ops callers = stop Lost
step_by G (Some n) frame ops callers = turn_if n.takes_turn (act_by G n.act frame ops callers)

-- at most k steps
abbrev pub drive : Acts → ℕ → Config → Part (Unit {0})
drive G zero c s = Cut
drive G (suc k) Halted s = Goes tt s
drive G (suc k) (At point frame ops callers) s = go_on (step_by G (slice_get G.nodes point) frame ops callers s) (drive G k)
