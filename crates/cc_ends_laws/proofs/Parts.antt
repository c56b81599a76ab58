-- The parts of a step take no turn.
use Rattle.std.proofs.Common.{ℕ, zero, suc, ◌+◌, ◌≤◌, ℤ, pos, List, [], ◌∷◌, length, Option, Some, None, Result, Ok, Err, Bool, true, false}
use Rattle.std.specs.Prelude.{slice_get, ◌&&◌, nat_lt}
use Rattle.cc_arith.specs.declared.kind.IntKind.{IntKind}
use Rattle.cc_arith.specs.declared.kind.IntKind.TheVariants.{Long}
use Rattle.cc_arith.specs.declared.binary_operator.IntOp.{IntOp}
use Rattle.cc_arith.specs.declared.unary_operator.IntUnary.{IntUnary}
use Rattle.cc_arith.specs.Conversions.{is_zero}
use Rattle.cc_program.specs.declared.function.FuncId.{FuncId}
use Rattle.cc_meaning.specs.declared.end.Undef.{Undef}
use Rattle.cc_store.specs.declared.value.Pointer.{Pointer}
use Rattle.cc_store.specs.declared.value.Value.{Value}
use Rattle.cc_store.specs.declared.value.Value.TheVariants.{Unwritten, Int, Null, Function, Points}
use Rattle.cc_store.specs.Objects.{read_cell, refused, missing, last_object}
use Rattle.cc_store.specs.Stacks.{first}
use Rattle.cc_acts.specs.declared.acts.Filler.{Filler}
use Rattle.cc_acts.specs.declared.acts.Filler.TheVariants.{Cells as SameCells, Operand}
use Rattle.cc_acts.specs.declared.frame.Entry.{Entry}
use Rattle.cc_acts.specs.declared.frame.Frame.{Frame}
use Rattle.cc_acts.specs.declared.state.State.{State}
use Rattle.cc_acts.specs.declared.stop.Stop.{Stop}
use Rattle.cc_acts.specs.declared.value_act.Conversion.{Conversion}
use Rattle.cc_acts.specs.declared.value_act.Gives.{Gives}
use Rattle.cc_acts.specs.declared.value_act.Gives.TheVariants.{Place, Value as ItsValue, Both, Array, Cells as ItsCells}
use Rattle.cc_acts.specs.declared.value_act.Operator.{Operator}
use Rattle.cc_acts.specs.declared.value_act.Operator.TheVariants.{Integers, Plus, Minus, Elements, Equality}
use Rattle.cc_acts.specs.Runs.{Part, ◌>>=◌, ◌>>◌, give, stop}
use Rattle.cc_acts.specs.Values.{applied, unary_applied, moved, moved_back, part_of, cell_on, is_one_array, change}
use Rattle.cc_acts.specs.Parts
use Rattle.cc_ends_laws.proofs.Holding.{Holds, holds_on}

-- what the activation does
module _ (act : ℕ) where
  -- The part takes no turn, and its run is not cut off.
  abbrev pub Still : {A : Type 0} → Part A → Type 0
  Still m = (most : ℕ) (s : State) → s.turns ≤ most → Holds (λ x t. t.turns ≤ most) (m s)

  pub still_then : {A B : Type 0} (m : Part A) (f : A → Part B) → Still m → ((x : A) → Still (f x)) → Still (m >>= f)
  still_then m f c d most s o = holds_on (λ x t. t.turns ≤ most) (λ x t. t.turns ≤ most) f (λ x t q. d x most t q) (m s) (c most s o)

  pub still_both : {A B : Type 0} (m : Part A) (n : Part B) → Still m → Still n → Still (m >> n)
  still_both m f c d most s o = holds_on (λ x t. t.turns ≤ most) (λ x t. t.turns ≤ most) (λ _. f) (λ x t q. d most t q) (m s) (c most s o)

  pub still_give : {A : Type 0} (x : A) → Still (give x)
  still_give x most s o = o

  pub still_stop : (A : Type 0) (why : Stop) → Still {A = A} (stop why)
  still_stop A why most s o = tt

  -- Reading and writing

  pub still_read : (occ : ℕ) (v : Value) → Still (Parts.read occ act v)
  still_read occ (Points p) most s o = by (read_cell p s.store)
    where
      by : (r : Result Value Undef) → Holds (λ x t. t.turns ≤ most) (Parts.read_as occ act p r s)
      by (Ok v) = o
      by (Err why) = tt
  still_read occ Null most s o = tt
  still_read occ Unwritten most s o = tt
  still_read occ (Int z) most s o = tt
  still_read occ (Function g) most s o = tt

  still_write_as : (occ : ℕ) (p : Pointer) (v : Value) (why : Option Undef) → Still (Parts.write_as occ act p v why)
  still_write_as occ p v None most s o = o
  still_write_as occ p v (Some why) most s o = tt

  pub still_write : (occ : ℕ) (place v : Value) → Still (Parts.write occ act place v)
  still_write occ (Points p) v most s o = still_write_as occ p v (refused p s.store) most s o
  still_write occ Null v most s o = tt
  still_write occ Unwritten v most s o = tt
  still_write occ (Int z) v most s o = tt
  still_write occ (Function g) v most s o = tt

  still_fill_as : (occ : ℕ) (p : Pointer) (v : Value) (why : Option Undef) → Still (Parts.fill_as occ act p v why)
  still_fill_as occ p v None most s o = o
  still_fill_as occ p v (Some why) most s o = tt

  pub still_fill : (occ : ℕ) (p : Pointer) (v : Value) → Still (Parts.fill occ act p v)
  still_fill occ p v most s o = still_fill_as occ p v (missing p s.store) most s o

  -- Places

  still_inner_if : (b : Bool) (occ : ℕ) (p : Pointer) → Still (Parts.inner_if b occ p)
  still_inner_if true occ p most s o = o
  still_inner_if false occ p most s o = tt

  pub still_inner : (occ cells offset count : ℕ) (v : Value) → Still (Parts.inner occ cells offset count v)
  still_inner occ cells offset count (Points p) most s o = still_inner_if (nat_lt p.index p.length) occ (part_of p cells offset count) most s o
  still_inner occ cells offset count Null most s o = tt
  still_inner occ cells offset count Unwritten most s o = tt
  still_inner occ cells offset count (Int z) most s o = tt
  still_inner occ cells offset count (Function g) most s o = tt

  still_reach_if : (b : Bool) (occ cells : ℕ) (p : Pointer) → Still (Parts.reach_if b occ cells p)
  still_reach_if true occ cells p most s o = still_inner occ cells 0 1 (Points p) most s o
  still_reach_if false occ cells p most s o = tt

  pub still_reach : (occ cells : ℕ) (v : Value) → Still (Parts.reach occ cells v)
  still_reach occ cells (Points p) most s o = still_reach_if (Parts.lives p s) occ cells p most s o
  still_reach occ cells Null most s o = tt
  still_reach occ cells Unwritten most s o = tt
  still_reach occ cells (Int z) most s o = tt
  still_reach occ cells (Function g) most s o = tt

  still_read_cells : (occ : ℕ) (p : Pointer) (k n : ℕ) (ops : List Entry) → Still (Parts.read_cells occ act p k n ops)
  still_read_cells occ p k zero ops most s o = o
  still_read_cells occ p k (suc n) ops most s o =
      still_then (Parts.read occ act (Points (cell_on p k))) (λ v. Parts.read_cells occ act p (k + 1) n (Parts.with occ v ops)) (still_read occ (Points (cell_on p k))) (λ v. still_read_cells occ p (k + 1) n (Parts.with occ v ops)) most s o

  still_read_struct : (occ n : ℕ) (ops : List Entry) (v : Value) → Still (Parts.read_struct occ act n ops v)
  still_read_struct occ n ops (Points p) most s o = still_read_cells occ p 0 n ops most s o
  still_read_struct occ n ops Null most s o = tt
  still_read_struct occ n ops Unwritten most s o = tt
  still_read_struct occ n ops (Int z) most s o = tt
  still_read_struct occ n ops (Function g) most s o = tt

  pub still_taken : (occ : ℕ) (gives : Gives) (ops : List Entry) (p : Value) → Still (Parts.taken occ gives act ops p)
  still_taken occ Place ops p most s o = o
  still_taken occ ItsValue ops p most s o = still_then (Parts.read occ act p) (λ v. give (Parts.with occ v ops)) (still_read occ p) (λ v. still_give (Parts.with occ v ops)) most s o
  still_taken occ Both ops p most s o = still_then (Parts.read occ act p) (λ v. give (Parts.with occ v (Parts.with occ p ops))) (still_read occ p) (λ v. still_give (Parts.with occ v (Parts.with occ p ops))) most s o
  still_taken occ (Array count cells) ops p most s o = still_then (Parts.inner occ cells 0 count p) (λ v. give (Parts.with occ v ops)) (still_inner occ cells 0 count p) (λ v. still_give (Parts.with occ v ops)) most s o
  still_taken occ (ItsCells count) ops p most s o = still_then (Parts.reach occ count p) (λ q. Parts.read_struct occ act count ops q) (still_reach occ count p) (λ q. still_read_struct occ count ops q) most s o

  still_write_cells : (occ : ℕ) (p : Pointer) (k : ℕ) (es : List Entry) → Still (Parts.write_cells occ act p k es)
  still_write_cells occ p k [] most s o = o
  still_write_cells occ p k (e ∷ es) most s o =
      still_both (Parts.write occ act (Points (cell_on p k)) e.value) (Parts.write_cells occ act p (k + 1) es) (still_write occ (Points (cell_on p k)) e.value) (still_write_cells occ p (k + 1) es) most s o

  still_write_struct : (occ : ℕ) (es : List Entry) (v : Value) → Still (Parts.write_struct occ act es v)
  still_write_struct occ es (Points p) most s o = still_write_cells occ p 0 es most s o
  still_write_struct occ es Null most s o = tt
  still_write_struct occ es Unwritten most s o = tt
  still_write_struct occ es (Int z) most s o = tt
  still_write_struct occ es (Function g) most s o = tt

  pub still_copy : (occ count : ℕ) (p : Value) (es : List Entry) → Still (Parts.copy occ act count p es)
  still_copy occ count p es most s o = still_then (Parts.reach occ count p) (λ q. Parts.write_struct occ act es q) (still_reach occ count p) (λ q. still_write_struct occ es q) most s o

  -- Operators

  still_int : (occ : ℕ) (r : Result ℤ Undef) → Still (Parts.int_or_stop occ r)
  still_int occ (Ok z) most s o = o
  still_int occ (Err why) most s o = tt

  still_integers : (occ : ℕ) (op : IntOp) (left right : IntKind) (a b : Value) → Still (Parts.integers occ op left right a b)
  still_integers occ op left right (Int a) (Int b) most s o = still_int occ (applied op left right a b) most s o
  still_integers occ op left right _ _ most s o = tt

  still_moved_if : (b : Bool) (occ : ℕ) (q : Option Pointer) → Still (Parts.moved_if b occ q)
  still_moved_if false occ q most s o = tt
  still_moved_if true occ None most s o = tt
  still_moved_if true occ (Some p) most s o = o

  still_null_by : (b : Bool) (occ : ℕ) → Still (Parts.null_by b occ)
  still_null_by true occ most s o = o
  still_null_by false occ most s o = tt

  still_offset : (occ : ℕ) (z : ℤ) (v : Value) → Still (Parts.offset occ z v)
  still_offset occ z (Points p) most s o = still_moved_if (Parts.lives p s) occ (moved p z) most s o
  still_offset occ z Null most s o = still_null_by (is_zero z) occ most s o
  still_offset occ z _ most s o = tt

  still_offset_back : (occ : ℕ) (z : ℤ) (v : Value) → Still (Parts.offset_back occ z v)
  still_offset_back occ z (Points p) most s o = still_moved_if (Parts.lives p s) occ (moved_back p z) most s o
  still_offset_back occ z Null most s o = tt
  still_offset_back occ z _ most s o = tt

  still_plus_by : (occ : ℕ) (a b : Value) → Still (Parts.plus_by occ a b)
  still_plus_by occ a (Int z) most s o = still_offset occ z a most s o
  still_plus_by occ a _ most s o = tt

  still_plus : (occ : ℕ) (a b : Value) → Still (Parts.plus occ a b)
  still_plus occ (Int z) b most s o = still_offset occ z b most s o
  still_plus occ Null b most s o = still_plus_by occ Null b most s o
  still_plus occ Unwritten b most s o = still_plus_by occ Unwritten b most s o
  still_plus occ (Function g) b most s o = still_plus_by occ (Function g) b most s o
  still_plus occ (Points p) b most s o = still_plus_by occ (Points p) b most s o

  still_minus : (occ : ℕ) (a b : Value) → Still (Parts.minus occ a b)
  still_minus occ a (Int z) most s o = still_offset_back occ z a most s o
  still_minus occ a _ most s o = tt

  still_elements_if : (live one : Bool) (occ : ℕ) (op : IntOp) (i j : ℕ) → Still (Parts.elements_if live one occ op i j)
  still_elements_if false one occ op i j most s o = tt
  still_elements_if true false occ op i j most s o = tt
  still_elements_if true true occ op i j most s o = still_int occ (applied op Long Long (pos i) (pos j)) most s o

  still_null_with : (b : Bool) (occ : ℕ) → Still (Parts.null_with b occ)
  still_null_with true occ most s o = tt
  still_null_with false occ most s o = tt

  still_elements : (occ : ℕ) (op : IntOp) (a b : Value) → Still (Parts.elements occ op a b)
  still_elements occ op (Points p) (Points q) most s o = still_elements_if (Parts.lives p s && Parts.lives q s) (is_one_array p q) occ op p.index q.index most s o
  still_elements occ op (Points p) Null most s o = still_null_with (Parts.lives p s) occ most s o
  still_elements occ op Null (Points q) most s o = still_null_with (Parts.lives q s) occ most s o
  still_elements occ op Null Null most s o = tt
  still_elements occ op _ _ most s o = tt

  pub still_operate : (occ : ℕ) (operator : Operator) (a b : Value) → Still (Parts.operate occ operator a b)
  still_operate occ (Integers op left right) a b most s o = still_integers occ op left right a b most s o
  still_operate occ Plus a b most s o = still_plus occ a b most s o
  still_operate occ Minus a b most s o = still_minus occ a b most s o
  still_operate occ (Elements op) a b most s o = still_elements occ op a b most s o
  still_operate occ (Equality is_equal cells) a b most s o = o

  pub still_unary : (occ : ℕ) (op : IntUnary) (kind : IntKind) (v : Value) → Still (Parts.unary occ op kind v)
  still_unary occ op kind (Int a) most s o = still_int occ (unary_applied op kind a) most s o
  still_unary occ op kind _ most s o = tt

  still_or_lost : {A : Type 0} (x : Option A) → Still (Parts.or_lost x)
  still_or_lost (Some x) most s o = o
  still_or_lost None most s o = tt

  pub still_convert : (to : Conversion) (v : Value) → Still (Parts.convert to v)
  still_convert to v most s o = still_or_lost (change to v) most s o

  -- Objects

  still_make_if : (b : Bool) (declarator count name : ℕ) → Still (Parts.make_if b declarator count name)
  still_make_if true declarator count name most s o = o
  still_make_if false declarator count name most s o = tt

  pub still_make : (declarator count name : ℕ) → Still (Parts.make declarator count name)
  still_make declarator count name most s o = still_make_if (Parts.has_room count s) declarator count name most s o

  still_fill_same : (occ : ℕ) (p : Pointer) (k n : ℕ) (v : Value) → Still (Parts.fill_same occ act p k n v)
  still_fill_same occ p k zero v most s o = o
  still_fill_same occ p k (suc n) v most s o = still_both (Parts.fill occ act (cell_on p k) v) (Parts.fill_same occ act p (k + 1) n v) (still_fill occ (cell_on p k) v) (still_fill_same occ p (k + 1) n v) most s o

  still_fill_operand : (occ : ℕ) (p : Pointer) (to : Conversion) (e : Option Entry) → Still (Parts.fill_operand occ act p to e)
  still_fill_operand occ p to None most s o = tt
  still_fill_operand occ p to (Some e) most s o = still_then (Parts.convert to e.value) (λ v. Parts.fill occ act p v) (still_convert to e.value) (λ v. still_fill occ p v) most s o

  pub still_fill_all : (occ : ℕ) (p : Pointer) (es : List Entry) (k i : ℕ) (fs : List Filler) → Still (Parts.fill_all occ act p es k i fs)
  still_fill_all occ p es k i [] most s o = o
  still_fill_all occ p es k i (SameCells n v ∷ fs) most s o =
      still_both (Parts.fill_same occ act p k n v) (Parts.fill_all occ act p es (k + n) i fs) (still_fill_same occ p k n v) (still_fill_all occ p es (k + n) i fs) most s o
  still_fill_all occ p es k i (Operand to ∷ fs) most s o =
      still_both (Parts.fill_operand occ act (cell_on p k) to (slice_get es i)) (Parts.fill_all occ act p es (k + 1) (i + 1) fs) (still_fill_operand occ (cell_on p k) to (slice_get es i)) (still_fill_all occ p es (k + 1) (i + 1) fs) most s o

  still_end_if : (b : Bool) (i name : ℕ) → Still (Parts.end_if b i name)
  still_end_if true i name most s o = o
  still_end_if false i name most s o = tt

  still_end_of_name : (name : ℕ) (v : Option Value) → Still (Parts.end_of_name name v)
  still_end_of_name name (Some (Points p)) most s o = still_end_if (Parts.is_last p.instance (last_object s.store.objects)) p.instance name most s o
  still_end_of_name name (Some Unwritten) most s o = o
  still_end_of_name name (Some Null) most s o = tt
  still_end_of_name name (Some (Int z)) most s o = tt
  still_end_of_name name (Some (Function g)) most s o = tt
  still_end_of_name name None most s o = tt

  still_end_name : (name : ℕ) → Still (Parts.end_name name)
  still_end_name name most s o = still_end_of_name name (slice_get s.names name) most s o

  pub still_end_names : (base n : ℕ) → Still (Parts.end_names base n)
  still_end_names base zero most s o = o
  still_end_names base (suc n) most s o = still_both (Parts.end_name (base + n)) (Parts.end_names base n) (still_end_name (base + n)) (still_end_names base n) most s o

  -- Calls

  still_pass : (site : Option ℕ) (declarator name k : ℕ) (v : Value) → Still (Parts.pass site act declarator name k v)
  still_pass site declarator name k v most s o = o

  pub still_pass_all : (formals : List ℕ) (site : Option ℕ) (from base k : ℕ) (es : List Entry) → Still (Parts.pass_all formals site act from base k es)
  still_pass_all formals site from base k [] most s o = o
  still_pass_all formals site from base k (e ∷ es) most s o =
      let d = Parts.declarator_by (slice_get formals (from + k)) in
      still_both (Parts.pass site act d (base + k) k e.value) (Parts.pass_all formals site act from base (k + 1) es) (still_pass site d (base + k) k e.value) (still_pass_all formals site from base (k + 1) es) most s o

  still_answer : (occ : ℕ) (callee : FuncId) (kind : IntKind) (z : Option ℤ) → Still (Parts.answer occ callee act kind z)
  still_answer occ callee kind None most s o = tt
  still_answer occ callee kind (Some z) most s o = o

  pub still_ask : (occ : ℕ) (callee : FuncId) (result : Option IntKind) → Still (Parts.ask occ callee act result)
  still_ask occ callee None most s o = o
  still_ask occ callee (Some kind) most s o = still_answer occ callee kind (first s.answers) most s o

  pub still_result : (site : ℕ) (is_used : Bool) (e : Option Entry) → Still (Parts.result_of site is_used e)
  still_result site is_used (Some e) most s o = o
  still_result site true None most s o = tt
  still_result site false None most s o = o

-- a function is entered
pub still_enter : (formals : List ℕ) (site : Option ℕ) (callee : FuncId) (from names : ℕ) (args : List Entry) (most : ℕ) (s : State) → s.turns ≤ most → Holds (λ x t. t.turns ≤ most) (Parts.enter formals site callee from names args s)
still_enter formals site callee from names args most s o = by (Parts.has_room (length args) s)
  where
    frame : Frame
    frame = record { act = s.next_act; base = length s.names; returned = None }

    by : (b : Bool) → Holds (λ x t. t.turns ≤ most) (Parts.enter_if b formals site callee from names args s)
    by true =
        holds_on (λ x t. t.turns ≤ most) (λ x t. t.turns ≤ most) (λ _. give frame) (λ x t q. q) (Parts.pass_all formals site s.next_act from (length s.names) 0 args (Parts.begun names s))
        (still_pass_all s.next_act formals site from (length s.names) 0 args most (Parts.begun names s) o)
    by false = tt

-- the last activation is left
pub still_leave : (frame : Frame) (most : ℕ) (s : State) → s.turns ≤ most → Holds (λ x t. t.turns ≤ most) (Parts.leave frame s)
still_leave frame most s o = o
