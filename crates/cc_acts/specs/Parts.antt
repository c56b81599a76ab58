-- The parts of which the meaning of a program and the machine's step are both made.
use Rattle.std.specs.Prelude.{ℕ, zero, suc, ℤ, pos, ◌+◌, List, [], ◌∷◌, ◌++◌, Option, Some, None, Result, Ok, Err, Bool, true, false, cond, length, replicate, take, nat_lt, nat_le, slice_get, slice_set, ◌==◌, ◌&&◌, is_some}
use Rattle.cc_arith.specs.declared.kind.IntKind.{IntKind}
use Rattle.cc_arith.specs.declared.kind.IntKind.TheVariants.{Long}
use Rattle.cc_arith.specs.declared.binary_operator.IntOp.{IntOp}
use Rattle.cc_arith.specs.declared.unary_operator.IntUnary.{IntUnary}
use Rattle.cc_arith.specs.Conversions.{converted, is_zero}
use Rattle.cc_program.specs.declared.function.FuncId.{FuncId}
use Rattle.cc_meaning.specs.declared.end.Undef.{Undef}
use Rattle.cc_meaning.specs.declared.end.Undef.TheVariants.{NullAccess, NoValue, NullArithmetic, Ended, PastEnd, OutOfArray, OtherArray}
use Rattle.cc_meaning.specs.declared.event.Cell.{Cell}
use Rattle.cc_meaning.specs.declared.event.Event.{Event}
use Rattle.cc_meaning.specs.declared.event.Event.TheVariants.{Use, Def, Gone, Enter, Pass, Leave, Ask}
use Rattle.cc_store.specs.declared.value.Pointer.{Pointer}
use Rattle.cc_store.specs.declared.value.Value.{Value}
use Rattle.cc_store.specs.declared.value.Value.TheVariants.{Unwritten, Int, Null, Function, Points}
use Rattle.cc_store.specs.Objects.{read_cell, refused, write_cell, missing, put_cell, made, next_pointer, live_cells, ended, last_object, object_of}
use Rattle.cc_store.specs.Stacks.{first, rest}
use Rattle.cc_acts.specs.declared.acts.Acts.{Acts}
use Rattle.cc_acts.specs.declared.acts.Filler.{Filler}
use Rattle.cc_acts.specs.declared.acts.Filler.TheVariants.{Cells as SameCells, Operand}
use Rattle.cc_acts.specs.declared.frame.Entry.{Entry}
use Rattle.cc_acts.specs.declared.frame.Frame.{Frame}
use Rattle.cc_acts.specs.declared.state.State.{State}
use Rattle.cc_acts.specs.declared.stop.Stop.{Stop}
use Rattle.cc_acts.specs.declared.stop.Stop.TheVariants.{Undefined, TurnsOut, CellsOut, EnvDry, Lost}
use Rattle.cc_acts.specs.declared.value_act.Conversion.{Conversion}
use Rattle.cc_acts.specs.declared.value_act.Gives.{Gives}
use Rattle.cc_acts.specs.declared.value_act.Gives.TheVariants.{Place, Value as ItsValue, Both, Array, Cells as ItsCells}
use Rattle.cc_acts.specs.declared.value_act.Operator.{Operator}
use Rattle.cc_acts.specs.declared.value_act.Operator.TheVariants.{Integers, Plus, Minus, Elements, Equality}
use Rattle.cc_acts.specs.Runs.{Run, Then, Goes, Stops, Part, ◌>>=◌, ◌>>◌, give, stop, tell}
use Rattle.cc_acts.specs.Values.{applied, unary_applied, moved, moved_back, part_of, cell_on, is_one_array, is_equal_to, null_for, truth, of_truth, change}

-- Reading and writing

-- the cell that a pointer to a scalar points to
abbrev pub cell_of : Pointer → Cell
cell_of p = record { object = p.object; instance = p.instance; index = p.base + p.index }

-- whether the object that it points into still lives
abbrev pub lives : Pointer → State → Bool
lives p s = is_some (object_of p.instance s.store.objects)

abbrev pub read_as : ℕ → ℕ → Pointer → Result Value Undef → Part Value
read_as occ act p (Ok v) = tell (Use occ (cell_of p) act) >> give v
read_as occ act p (Err why) = stop (Undefined occ why)

-- what the lvalue reads, which designates what this value points to
abbrev pub read : ℕ → ℕ → Value → Part Value
read occ act (Points p) s = read_as occ act p (read_cell p s.store) s
read occ act Null s = Stops (Undefined occ NullAccess)
read occ act _ s = Stops Lost

abbrev pub write_as : ℕ → ℕ → Pointer → Value → Option Undef → Part (Unit {0})
write_as occ act p v None s = Then (Def occ (cell_of p) act) (Goes tt (record s { store = write_cell p v s.store }))
write_as occ act p v (Some why) s = Stops (Undefined occ why)

-- writes the value by the lvalue, which designates what the first value points to
abbrev pub write : ℕ → ℕ → Value → Value → Part (Unit {0})
write occ act (Points p) v s = write_as occ act p v (refused p s.store) s
write occ act Null v s = Stops (Undefined occ NullAccess)
write occ act _ v s = Stops Lost

abbrev pub fill_as : ℕ → ℕ → Pointer → Value → Option Undef → Part (Unit {0})
fill_as occ act p v None s = Then (Def occ (cell_of p) act) (Goes tt (record s { store = put_cell p v s.store }))
fill_as occ act p v (Some why) s = Stops (Undefined occ why)

-- gives a cell of a new object its first value, also one that is read only
abbrev pub fill : ℕ → ℕ → Pointer → Value → Part (Unit {0})
fill occ act p v s = fill_as occ act p v (missing p s.store) s

-- Places

abbrev pub inner_if : Bool → ℕ → Pointer → Part Value
inner_if true occ p = give (Points p)
inner_if false occ p = stop (Undefined occ PastEnd)

-- A pointer to a part of the element that the value points to: its member, or its own first element. The lvalue that
-- designates the element is this one.
abbrev pub inner : ℕ → ℕ → ℕ → ℕ → Value → Part Value
inner occ cells offset count (Points p) = inner_if (nat_lt p.index p.length) occ (part_of p cells offset count)
inner occ cells offset count Null = stop (Undefined occ NullAccess)
inner occ cells offset count _ = stop Lost

abbrev pub reach_if : Bool → ℕ → ℕ → Pointer → Part Value
reach_if true occ cells p = inner occ cells 0 1 (Points p)
reach_if false occ cells p = stop (Undefined occ Ended)

-- a pointer to the struct that the value points to, which is to be read or written
abbrev pub reach : ℕ → ℕ → Value → Part Value
reach occ cells (Points p) s = reach_if (lives p s) occ cells p s
reach occ cells Null s = Stops (Undefined occ NullAccess)
reach occ cells _ s = Stops Lost

-- the occurrence has the value
abbrev pub with : ℕ → Value → List Entry → List Entry
with occ v ops = record { occ = occ; value = v } ∷ ops

-- reads this many cells from number k on of what the value points to
abbrev pub read_cells : ℕ → ℕ → Pointer → ℕ → ℕ → List Entry → Part (List Entry)
read_cells occ act p k zero ops = give ops
read_cells occ act p k (suc n) ops = do
  v ← read occ act (Points (cell_on p k))
  read_cells occ act p (k + 1) n (with occ v ops)

abbrev pub read_struct : ℕ → ℕ → ℕ → List Entry → Value → Part (List Entry)
read_struct occ act n ops (Points p) = read_cells occ act p 0 n ops
read_struct occ act n ops _ = stop Lost

-- what the lvalue gives that designates what the value points to
abbrev pub taken : ℕ → Gives → ℕ → List Entry → Value → Part (List Entry)
taken occ Place act ops p = give (with occ p ops)
taken occ ItsValue act ops p = do
  v ← read occ act p
  give (with occ v ops)
taken occ Both act ops p = do
  v ← read occ act p
  give (with occ v (with occ p ops))
taken occ (Array count cells) act ops p = do
  v ← inner occ cells 0 count p
  give (with occ v ops)
taken occ (ItsCells count) act ops p = do
  q ← reach occ count p
  read_struct occ act count ops q

-- writes the values into the cells from number k on of what the value points to
abbrev pub write_cells : ℕ → ℕ → Pointer → ℕ → List Entry → Part (Unit {0})
write_cells occ act p k [] = give tt
write_cells occ act p k (e ∷ es) = do
  write occ act (Points (cell_on p k)) e.value
  write_cells occ act p (k + 1) es

abbrev pub write_struct : ℕ → ℕ → List Entry → Value → Part (Unit {0})
write_struct occ act es (Points p) = write_cells occ act p 0 es
write_struct occ act es _ = stop Lost

-- writes the values into the cells of the struct that the value points to
abbrev pub copy : ℕ → ℕ → ℕ → Value → List Entry → Part (Unit {0})
copy occ act count p es = do
  q ← reach occ count p
  write_struct occ act es q

-- Operators

abbrev pub int_or_stop : ℕ → Result ℤ Undef → Part Value
int_or_stop occ (Ok z) = give (Int z)
int_or_stop occ (Err why) = stop (Undefined occ why)

abbrev pub integers : ℕ → IntOp → IntKind → IntKind → Value → Value → Part Value
integers occ op left right (Int a) (Int b) = int_or_stop occ (applied op left right a b)
integers occ op left right _ _ = stop Lost

abbrev pub moved_if : Bool → ℕ → Option Pointer → Part Value
moved_if false occ o = stop (Undefined occ Ended)
moved_if true occ None = stop (Undefined occ OutOfArray)
moved_if true occ (Some p) = give (Points p)

abbrev pub null_by : Bool → ℕ → Part Value
null_by true occ = give Null
null_by false occ = stop (Undefined occ NullArithmetic)

-- the pointer this many elements on; only 0 may be added to a null pointer
abbrev pub offset : ℕ → ℤ → Value → Part Value
offset occ z (Points p) s = moved_if (lives p s) occ (moved p z) s
offset occ z Null s = null_by (is_zero z) occ s
offset occ z _ s = Stops Lost

-- the pointer this many elements back
abbrev pub offset_back : ℕ → ℤ → Value → Part Value
offset_back occ z (Points p) s = moved_if (lives p s) occ (moved_back p z) s
offset_back occ z Null s = Stops (Undefined occ NullArithmetic)
offset_back occ z _ s = Stops Lost

abbrev pub plus_by : ℕ → Value → Value → Part Value
plus_by occ a (Int z) = offset occ z a
plus_by occ a _ = stop Lost

abbrev pub plus : ℕ → Value → Value → Part Value
plus occ (Int z) b = offset occ z b
plus occ a b = plus_by occ a b

abbrev pub minus : ℕ → Value → Value → Part Value
minus occ a (Int z) = offset_back occ z a
minus occ a _ = stop Lost

abbrev pub elements_if : Bool → Bool → ℕ → IntOp → ℕ → ℕ → Part Value
elements_if false one occ op i j = stop (Undefined occ Ended)
elements_if true false occ op i j = stop (Undefined occ OtherArray)
elements_if true true occ op i j = int_or_stop occ (applied op Long Long (pos i) (pos j))

abbrev pub null_with : Bool → ℕ → Part Value
null_with true occ = stop (Undefined occ NullArithmetic)
null_with false occ = stop (Undefined occ Ended)

-- the difference or the order of two pointers
abbrev pub elements : ℕ → IntOp → Value → Value → Part Value
elements occ op (Points p) (Points q) s = elements_if (lives p s && lives q s) (is_one_array p q) occ op p.index q.index s
elements occ op (Points p) Null s = null_with (lives p s) occ s
elements occ op Null (Points q) s = null_with (lives q s) occ s
elements occ op Null Null s = null_with true occ s
elements occ op _ _ s = Stops Lost

abbrev pub equality : Bool → ℕ → Value → Value → Value
equality true cells a b = of_truth (is_equal_to cells (null_for a) (null_for b))
equality false cells a b = of_truth (cond (is_equal_to cells (null_for a) (null_for b)) false true)

-- a binary operator
abbrev pub operate : ℕ → Operator → Value → Value → Part Value
operate occ (Integers op left right) a b = integers occ op left right a b
operate occ Plus a b = plus occ a b
operate occ Minus a b = minus occ a b
operate occ (Elements op) a b = elements occ op a b
operate occ (Equality is_equal cells) a b = give (equality is_equal cells a b)

-- `+`, `-`, `~` of an integer
abbrev pub unary : ℕ → IntUnary → IntKind → Value → Part Value
unary occ op kind (Int a) = int_or_stop occ (unary_applied op kind a)
unary occ op kind _ = stop Lost

abbrev pub or_lost : {A : Type 0} → Option A → Part A
or_lost (Some x) = give x
or_lost None = stop Lost

-- the value as one of another type
abbrev pub convert : Conversion → Value → Part Value
convert to v = or_lost (change to v)

-- Turns

abbrev pub turn_of : {A : Type 0} → ℕ → Part A → Part A
turn_of zero m s = Stops TurnsOut
turn_of (suc t) m s = m (record s { turns = t })

-- takes a turn, or stops where none is left
abbrev pub takes_turn : {A : Type 0} → Part A → Part A
takes_turn m s = turn_of s.turns m s

-- Objects

-- whether this many cells more may live
abbrev pub has_room : ℕ → State → Bool
has_room more s = nat_le (live_cells s.store.objects + more) s.cells

-- the object of a name is made
abbrev pub with_object : ℕ → ℕ → ℕ → State → State
with_object declarator count name s = record s {
  store = made declarator count false s.store;
  names = slice_set s.names name (Points (next_pointer declarator s.store));
}

abbrev pub make_if : Bool → ℕ → ℕ → ℕ → Part (Unit {0})
make_if true declarator count name s = Goes tt (with_object declarator count name s)
make_if false declarator count name s = Stops CellsOut

abbrev pub make : ℕ → ℕ → ℕ → Part (Unit {0})
make declarator count name s = make_if (has_room count s) declarator count name s

-- gives the value to this many cells from number k on
abbrev pub fill_same : ℕ → ℕ → Pointer → ℕ → ℕ → Value → Part (Unit {0})
fill_same occ act p k zero v = give tt
fill_same occ act p k (suc n) v = do
  fill occ act (cell_on p k) v
  fill_same occ act p (k + 1) n v

-- gives a cell the operand, converted, as its first value
abbrev pub fill_operand : ℕ → ℕ → Pointer → Conversion → Option Entry → Part (Unit {0})
fill_operand occ act p to None = stop Lost
fill_operand occ act p to (Some e) = do
  v ← convert to e.value
  fill occ act p v

-- gives first values to the cells from number k on, by the fillers, which take the operands from number i on
abbrev pub fill_all : ℕ → ℕ → Pointer → List Entry → ℕ → ℕ → List Filler → Part (Unit {0})
fill_all occ act p es k i [] = give tt
fill_all occ act p es k i (SameCells n v ∷ fs) = fill_same occ act p k n v >> fill_all occ act p es (k + n) i fs
fill_all occ act p es k i (Operand to ∷ fs) = fill_operand occ act (cell_on p k) to (slice_get es i) >> fill_all occ act p es (k + 1) (i + 1) fs

-- ends the object of a name, which was made last
abbrev pub end_if : Bool → ℕ → ℕ → Part (Unit {0})
end_if true instance name s = Then (Gone instance) (Goes tt (record s { store = ended s.store; names = slice_set s.names name Unwritten }))
end_if false instance name s = Stops Lost

abbrev pub is_last : ℕ → Option (ℕ × ℕ) → Bool
is_last instance None = false
is_last instance (Some (d, i)) = i == instance

abbrev pub end_of_name : ℕ → Option Value → Part (Unit {0})
end_of_name name (Some (Points p)) s = end_if (is_last p.instance (last_object s.store.objects)) p.instance name s
end_of_name name (Some Unwritten) s = Goes tt s
end_of_name name _ s = Stops Lost

abbrev pub end_name : ℕ → Part (Unit {0})
end_name name s = end_of_name name (slice_get s.names name) s

-- ends the objects of this many names from number base on, the last one first
abbrev pub end_names : ℕ → ℕ → Part (Unit {0})
end_names base zero = give tt
end_names base (suc n) = do
  end_name (base + n)
  end_names base n

-- Calls

-- the declarator of formal k; past the last one 0
abbrev pub declarator_by : Option ℕ → ℕ
declarator_by None = 0
declarator_by (Some d) = d

-- the formal's object is made, and gets the argument
abbrev pub passed : ℕ → ℕ → Value → State → State
passed declarator name v s = record s {
  store = write_cell (next_pointer declarator s.store) v (made declarator 1 false s.store);
  names = slice_set s.names name (Points (next_pointer declarator s.store));
}

-- argument k, counted from 0, comes from a site, or from the test
abbrev pub passing : Option ℕ → ℕ → ℕ → Cell → ℕ → Event
passing None declarator k cell act = Def declarator cell act
passing (Some site) declarator k cell act = Pass site (k + 1) cell act

-- passes argument k, counted from 0
abbrev pub pass : Option ℕ → ℕ → ℕ → ℕ → ℕ → Value → Part (Unit {0})
pass site act declarator name k v s = Then (passing site declarator k (cell_of (next_pointer declarator s.store)) act) (Goes tt (passed declarator name v s))

-- passes the arguments from number k on, to the formals whose declarators are counted from first and whose names from base
abbrev pub pass_all : List ℕ → Option ℕ → ℕ → ℕ → ℕ → ℕ → List Entry → Part (Unit {0})
pass_all formals site act first base k [] = give tt
pass_all formals site act first base k (e ∷ es) = do
  pass site act (declarator_by (slice_get formals (first + k))) (base + k) k e.value
  pass_all formals site act first base (k + 1) es

-- a new activation with this many names
abbrev pub begun : ℕ → State → State
begun names s = record s { names = s.names ++ replicate names Unwritten; next_act = s.next_act + 1 }

abbrev pub enter_if : Bool → List ℕ → Option ℕ → FuncId → ℕ → ℕ → List Entry → Part Frame
enter_if false formals site callee first names args s = Stops CellsOut
enter_if true formals site callee first names args s =
    Then (Enter site callee s.next_act) ((pass_all formals site s.next_act first (length s.names) 0 args >> give (record { act = s.next_act; base = length s.names; returned = None })) (begun names s))

-- a function is entered with these arguments
abbrev pub enter : List ℕ → Option ℕ → FuncId → ℕ → ℕ → List Entry → Part Frame
enter formals site callee first names args s = enter_if (has_room (length args) s) formals site callee first names args s

abbrev pub return_of : Option Entry → Option ℕ
return_of None = None
return_of (Some e) = Some e.occ

-- the activation ends, when its objects have ended
abbrev pub leave : Frame → Part (Unit {0})
leave frame s = Then (Leave (return_of frame.returned) frame.act) (Goes tt (record s { names = take frame.base s.names }))

-- a call's value
abbrev pub result_of : ℕ → Bool → Option Entry → Part Value
result_of site is_used (Some e) = give e.value
result_of site true None = stop (Undefined site NoValue)
result_of site false None = give Unwritten

abbrev pub answer : ℕ → FuncId → ℕ → IntKind → Option ℤ → Part Value
answer occ callee act kind None s = Stops (EnvDry occ)
answer occ callee act kind (Some z) s = Then (Ask occ callee act) (Goes (Int (converted kind z)) (record s { answers = rest s.answers }))

-- a call of a function of the environment
abbrev pub ask : ℕ → FuncId → ℕ → Option IntKind → Part Value
ask occ callee act None s = Then (Ask occ callee act) (Goes Unwritten s)
ask occ callee act (Some kind) s = answer occ callee act kind (first s.answers) s
