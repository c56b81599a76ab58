-- The parts of a step keep the order.
use Rattle.std.proofs.Common.{◌≡◌, ℕ, zero, suc, ◌+◌, ℤ, pos, List, [], ◌∷◌, length, Option, Some, None, Result, Ok, Err, Bool, true, false, refl, ◌∙◌, subst, arith}
use Rattle.std.specs.Prelude.{slice_get, ◌==◌, ◌&&◌, is_some, nat_lt}
use Rattle.cc_arith.specs.declared.kind.IntKind.{IntKind}
use Rattle.cc_arith.specs.declared.kind.IntKind.TheVariants.{Long}
use Rattle.cc_arith.specs.declared.binary_operator.IntOp.{IntOp}
use Rattle.cc_arith.specs.declared.unary_operator.IntUnary.{IntUnary}
use Rattle.cc_arith.specs.Conversions.{is_zero}
use Rattle.cc_program.specs.declared.function.FuncId.{FuncId}
use Rattle.cc_meaning.specs.declared.end.Undef.{Undef}
use Rattle.cc_meaning.specs.declared.event.Event.{Event}
use Rattle.cc_store.specs.declared.value.Pointer.{Pointer}
use Rattle.cc_store.specs.declared.value.Value.{Value}
use Rattle.cc_store.specs.declared.value.Value.TheVariants.{Unwritten, Int, Null, Function, Points}
use Rattle.cc_store.specs.Objects.{Object, object_of, read_in, read_cell, write_cell, refused, missing, made, next_pointer, last_object}
use Rattle.cc_store.specs.Stacks.{if_so, first}
use Rattle.cc_acts.specs.declared.acts.Filler.{Filler}
use Rattle.cc_acts.specs.declared.acts.Filler.TheVariants.{Cells as SameCells, Operand}
use Rattle.cc_acts.specs.declared.frame.Entry.{Entry}
use Rattle.cc_acts.specs.declared.frame.Frame.{Frame}
use Rattle.cc_acts.specs.declared.state.State.{State}
use Rattle.cc_acts.specs.declared.stop.Stop.{Stop}
use Rattle.cc_acts.specs.declared.value_act.Conversion.{Conversion}
use Rattle.cc_acts.specs.declared.value_act.Gives.{Gives}
use Rattle.cc_acts.specs.declared.value_act.Gives.TheVariants.{Place, Value as ItsValue, Both, Array, Cells as ItsCells}
use Rattle.cc_acts.specs.declared.value_act.Operator.{Operator}
use Rattle.cc_acts.specs.declared.value_act.Operator.TheVariants.{Integers, Plus, Minus, Elements, Equality}
use Rattle.cc_acts.specs.Runs.{Part, ◌>>=◌, ◌>>◌, give, stop}
use Rattle.cc_acts.specs.Values.{applied, unary_applied, moved, moved_back, part_of, cell_on, is_one_array, change}
use Rattle.cc_acts.specs.Parts
use Rattle.cc_record_laws.specs.Orderly.{some_of}
use Rattle.cc_record_laws.proofs.Exact.{eqb_is}
use Rattle.cc_orderly_laws.proofs.Numbers.{AllHeld}
use Rattle.cc_orderly_laws.proofs.Order.{Ordered, InOrder, enter_on, leave_on, Keeps, keeps_on, ends, cell_ended, instances, def_on, use_on, pass_on, ask_on, gone_on, made_in, put_in}

-- what is found among the live objects has not ended
not_ended : (past : List Event) (i : ℕ) (os : List Object) → is_some (object_of i os) ≡ true → AllHeld ends past (instances os) → some_of (ends i) past ≡ false
not_ended past i [] h held = absurd (let z = h in cc)
not_ended past i (o ∷ os) h held = by (λ f. not_ended past i os f held.1) (o.instance == i) refl h
  where
    by : (is_some (object_of i os) ≡ true → some_of (ends i) past ≡ false) → (b : Bool) → (o.instance == i) ≡ b → is_some (if_so b o (object_of i os)) ≡ true → some_of (ends i) past ≡ false
    by below true e f = subst (λ n. some_of (ends n) past ≡ false) (eqb_is o.instance i e) held.0
    by below false e f = below f

found_in : (p : Pointer) (v : Value) (o : Option Object) → read_in p o ≡ Ok v → is_some o ≡ true
found_in p v None h = absurd (let z = h in cc)
found_in p v (Some o) h = refl

-- the activation is the last one that is running
module _ (act : ℕ) (others : List ℕ) where
  -- The part tells events that are in order, and the same activations are running after it.
  abbrev pub Calm : {A : Type 0} → Part A → Type 0
  Calm m = (past : List Event) (s : State) → InOrder past (act ∷ others) s → Keeps (λ later x t. InOrder later (act ∷ others) t) past (m s)

  pub calm_then : {A B : Type 0} (m : Part A) (f : A → Part B) → Calm m → ((x : A) → Calm (f x)) → Calm (m >>= f)
  calm_then m f c d past s o = keeps_on (λ later x t. InOrder later (act ∷ others) t) (λ later x t. InOrder later (act ∷ others) t) f (λ later x t q. d x later t q) past (m s) (c past s o)

  pub calm_both : {A B : Type 0} (m : Part A) (n : Part B) → Calm m → Calm n → Calm (m >> n)
  calm_both m n c d past s o = keeps_on (λ later x t. InOrder later (act ∷ others) t) (λ later x t. InOrder later (act ∷ others) t) (λ _. n) (λ later x t q. d later t q) past (m s) (c past s o)

  pub calm_give : {A : Type 0} (x : A) → Calm (give x)
  calm_give x past s o = o

  pub calm_stop : (A : Type 0) (why : Stop) → Calm {A = A} (stop why)
  calm_stop A why past s o = tt

  -- Reading and writing

  pub calm_read : (occ : ℕ) (v : Value) → Calm (Parts.read occ act v)
  calm_read occ (Points p) past s o = by (read_cell p s.store) refl
    where
      by : (r : Result Value Undef) → read_cell p s.store ≡ r → Keeps (λ later x t. InOrder later (act ∷ others) t) past (Parts.read_as occ act p r s)
      by (Ok v) e = (
        (
          cell_ended (Parts.cell_of p) past ∙ not_ended past p.instance s.store.objects (found_in p v (object_of p.instance s.store.objects) e) o.living.held,
          o.running.held.0,
        ),
        use_on past (act ∷ others) s.next_act s.store occ (Parts.cell_of p) act o,
      )
      by (Err why) e = tt
  calm_read occ Null past s o = tt
  calm_read occ Unwritten past s o = tt
  calm_read occ (Int z) past s o = tt
  calm_read occ (Function g) past s o = tt

  calm_write_as : (occ : ℕ) (p : Pointer) (v : Value) (why : Option Undef) → Calm (Parts.write_as occ act p v why)
  calm_write_as occ p v None past s o = (tt, def_on past (act ∷ others) s.next_act _ occ (Parts.cell_of p) act (put_in past (act ∷ others) s.next_act s.store (refused p s.store) p v o))
  calm_write_as occ p v (Some why) past s o = tt

  pub calm_write : (occ : ℕ) (place v : Value) → Calm (Parts.write occ act place v)
  calm_write occ (Points p) v past s o = calm_write_as occ p v (refused p s.store) past s o
  calm_write occ Null v past s o = tt
  calm_write occ Unwritten v past s o = tt
  calm_write occ (Int z) v past s o = tt
  calm_write occ (Function g) v past s o = tt

  calm_fill_as : (occ : ℕ) (p : Pointer) (v : Value) (why : Option Undef) → Calm (Parts.fill_as occ act p v why)
  calm_fill_as occ p v None past s o = (tt, def_on past (act ∷ others) s.next_act _ occ (Parts.cell_of p) act (put_in past (act ∷ others) s.next_act s.store (missing p s.store) p v o))
  calm_fill_as occ p v (Some why) past s o = tt

  pub calm_fill : (occ : ℕ) (p : Pointer) (v : Value) → Calm (Parts.fill occ act p v)
  calm_fill occ p v past s o = calm_fill_as occ p v (missing p s.store) past s o

  -- Places

  calm_inner_if : (b : Bool) (occ : ℕ) (p : Pointer) → Calm (Parts.inner_if b occ p)
  calm_inner_if true occ p past s o = o
  calm_inner_if false occ p past s o = tt

  pub calm_inner : (occ cells offset count : ℕ) (v : Value) → Calm (Parts.inner occ cells offset count v)
  calm_inner occ cells offset count (Points p) past s o = calm_inner_if (nat_lt p.index p.length) occ (part_of p cells offset count) past s o
  calm_inner occ cells offset count Null past s o = tt
  calm_inner occ cells offset count Unwritten past s o = tt
  calm_inner occ cells offset count (Int z) past s o = tt
  calm_inner occ cells offset count (Function g) past s o = tt

  calm_reach_if : (b : Bool) (occ cells : ℕ) (p : Pointer) → Calm (Parts.reach_if b occ cells p)
  calm_reach_if true occ cells p past s o = calm_inner occ cells 0 1 (Points p) past s o
  calm_reach_if false occ cells p past s o = tt

  pub calm_reach : (occ cells : ℕ) (v : Value) → Calm (Parts.reach occ cells v)
  calm_reach occ cells (Points p) past s o = calm_reach_if (Parts.lives p s) occ cells p past s o
  calm_reach occ cells Null past s o = tt
  calm_reach occ cells Unwritten past s o = tt
  calm_reach occ cells (Int z) past s o = tt
  calm_reach occ cells (Function g) past s o = tt

  calm_read_cells : (occ : ℕ) (p : Pointer) (k n : ℕ) (ops : List Entry) → Calm (Parts.read_cells occ act p k n ops)
  calm_read_cells occ p k zero ops past s o = o
  calm_read_cells occ p k (suc n) ops past s o =
      calm_then (Parts.read occ act (Points (cell_on p k))) (λ v. Parts.read_cells occ act p (k + 1) n (Parts.with occ v ops)) (calm_read occ (Points (cell_on p k))) (λ v. calm_read_cells occ p (k + 1) n (Parts.with occ v ops)) past s o

  calm_read_struct : (occ n : ℕ) (ops : List Entry) (v : Value) → Calm (Parts.read_struct occ act n ops v)
  calm_read_struct occ n ops (Points p) past s o = calm_read_cells occ p 0 n ops past s o
  calm_read_struct occ n ops Null past s o = tt
  calm_read_struct occ n ops Unwritten past s o = tt
  calm_read_struct occ n ops (Int z) past s o = tt
  calm_read_struct occ n ops (Function g) past s o = tt

  pub calm_taken : (occ : ℕ) (gives : Gives) (ops : List Entry) (p : Value) → Calm (Parts.taken occ gives act ops p)
  calm_taken occ Place ops p past s o = o
  calm_taken occ ItsValue ops p past s o = calm_then (Parts.read occ act p) (λ v. give (Parts.with occ v ops)) (calm_read occ p) (λ v. calm_give (Parts.with occ v ops)) past s o
  calm_taken occ Both ops p past s o = calm_then (Parts.read occ act p) (λ v. give (Parts.with occ v (Parts.with occ p ops))) (calm_read occ p) (λ v. calm_give (Parts.with occ v (Parts.with occ p ops))) past s o
  calm_taken occ (Array count cells) ops p past s o = calm_then (Parts.inner occ cells 0 count p) (λ v. give (Parts.with occ v ops)) (calm_inner occ cells 0 count p) (λ v. calm_give (Parts.with occ v ops)) past s o
  calm_taken occ (ItsCells count) ops p past s o = calm_then (Parts.reach occ count p) (λ q. Parts.read_struct occ act count ops q) (calm_reach occ count p) (λ q. calm_read_struct occ count ops q) past s o

  calm_write_cells : (occ : ℕ) (p : Pointer) (k : ℕ) (es : List Entry) → Calm (Parts.write_cells occ act p k es)
  calm_write_cells occ p k [] past s o = o
  calm_write_cells occ p k (e ∷ es) past s o =
      calm_both (Parts.write occ act (Points (cell_on p k)) e.value) (Parts.write_cells occ act p (k + 1) es) (calm_write occ (Points (cell_on p k)) e.value) (calm_write_cells occ p (k + 1) es) past s o

  calm_write_struct : (occ : ℕ) (es : List Entry) (v : Value) → Calm (Parts.write_struct occ act es v)
  calm_write_struct occ es (Points p) past s o = calm_write_cells occ p 0 es past s o
  calm_write_struct occ es Null past s o = tt
  calm_write_struct occ es Unwritten past s o = tt
  calm_write_struct occ es (Int z) past s o = tt
  calm_write_struct occ es (Function g) past s o = tt

  pub calm_copy : (occ count : ℕ) (p : Value) (es : List Entry) → Calm (Parts.copy occ act count p es)
  calm_copy occ count p es past s o = calm_then (Parts.reach occ count p) (λ q. Parts.write_struct occ act es q) (calm_reach occ count p) (λ q. calm_write_struct occ es q) past s o

  -- Operators

  calm_int : (occ : ℕ) (r : Result ℤ Undef) → Calm (Parts.int_or_stop occ r)
  calm_int occ (Ok z) past s o = o
  calm_int occ (Err why) past s o = tt

  calm_integers : (occ : ℕ) (op : IntOp) (left right : IntKind) (a b : Value) → Calm (Parts.integers occ op left right a b)
  calm_integers occ op left right (Int a) (Int b) past s o = calm_int occ (applied op left right a b) past s o
  calm_integers occ op left right _ _ past s o = tt

  calm_moved_if : (b : Bool) (occ : ℕ) (q : Option Pointer) → Calm (Parts.moved_if b occ q)
  calm_moved_if false occ q past s o = tt
  calm_moved_if true occ None past s o = tt
  calm_moved_if true occ (Some p) past s o = o

  calm_null_by : (b : Bool) (occ : ℕ) → Calm (Parts.null_by b occ)
  calm_null_by true occ past s o = o
  calm_null_by false occ past s o = tt

  calm_offset : (occ : ℕ) (z : ℤ) (v : Value) → Calm (Parts.offset occ z v)
  calm_offset occ z (Points p) past s o = calm_moved_if (Parts.lives p s) occ (moved p z) past s o
  calm_offset occ z Null past s o = calm_null_by (is_zero z) occ past s o
  calm_offset occ z _ past s o = tt

  calm_offset_back : (occ : ℕ) (z : ℤ) (v : Value) → Calm (Parts.offset_back occ z v)
  calm_offset_back occ z (Points p) past s o = calm_moved_if (Parts.lives p s) occ (moved_back p z) past s o
  calm_offset_back occ z Null past s o = tt
  calm_offset_back occ z _ past s o = tt

  calm_plus_by : (occ : ℕ) (a b : Value) → Calm (Parts.plus_by occ a b)
  calm_plus_by occ a (Int z) past s o = calm_offset occ z a past s o
  calm_plus_by occ a _ past s o = tt

  calm_plus : (occ : ℕ) (a b : Value) → Calm (Parts.plus occ a b)
  calm_plus occ (Int z) b past s o = calm_offset occ z b past s o
  calm_plus occ Null b past s o = calm_plus_by occ Null b past s o
  calm_plus occ Unwritten b past s o = calm_plus_by occ Unwritten b past s o
  calm_plus occ (Function g) b past s o = calm_plus_by occ (Function g) b past s o
  calm_plus occ (Points p) b past s o = calm_plus_by occ (Points p) b past s o

  calm_minus : (occ : ℕ) (a b : Value) → Calm (Parts.minus occ a b)
  calm_minus occ a (Int z) past s o = calm_offset_back occ z a past s o
  calm_minus occ a _ past s o = tt

  calm_elements_if : (live one : Bool) (occ : ℕ) (op : IntOp) (i j : ℕ) → Calm (Parts.elements_if live one occ op i j)
  calm_elements_if false one occ op i j past s o = tt
  calm_elements_if true false occ op i j past s o = tt
  calm_elements_if true true occ op i j past s o = calm_int occ (applied op Long Long (pos i) (pos j)) past s o

  calm_null_with : (b : Bool) (occ : ℕ) → Calm (Parts.null_with b occ)
  calm_null_with true occ past s o = tt
  calm_null_with false occ past s o = tt

  calm_elements : (occ : ℕ) (op : IntOp) (a b : Value) → Calm (Parts.elements occ op a b)
  calm_elements occ op (Points p) (Points q) past s o = calm_elements_if (Parts.lives p s && Parts.lives q s) (is_one_array p q) occ op p.index q.index past s o
  calm_elements occ op (Points p) Null past s o = calm_null_with (Parts.lives p s) occ past s o
  calm_elements occ op Null (Points q) past s o = calm_null_with (Parts.lives q s) occ past s o
  calm_elements occ op Null Null past s o = tt
  calm_elements occ op _ _ past s o = tt

  pub calm_operate : (occ : ℕ) (operator : Operator) (a b : Value) → Calm (Parts.operate occ operator a b)
  calm_operate occ (Integers op left right) a b past s o = calm_integers occ op left right a b past s o
  calm_operate occ Plus a b past s o = calm_plus occ a b past s o
  calm_operate occ Minus a b past s o = calm_minus occ a b past s o
  calm_operate occ (Elements op) a b past s o = calm_elements occ op a b past s o
  calm_operate occ (Equality is_equal cells) a b past s o = o

  pub calm_unary : (occ : ℕ) (op : IntUnary) (kind : IntKind) (v : Value) → Calm (Parts.unary occ op kind v)
  calm_unary occ op kind (Int a) past s o = calm_int occ (unary_applied op kind a) past s o
  calm_unary occ op kind _ past s o = tt

  calm_or_lost : {A : Type 0} (x : Option A) → Calm (Parts.or_lost x)
  calm_or_lost (Some x) past s o = o
  calm_or_lost None past s o = tt

  pub calm_convert : (to : Conversion) (v : Value) → Calm (Parts.convert to v)
  calm_convert to v past s o = calm_or_lost (change to v) past s o

  -- Objects

  calm_make_if : (b : Bool) (declarator count name : ℕ) → Calm (Parts.make_if b declarator count name)
  calm_make_if true declarator count name past s o = made_in past (act ∷ others) s.next_act s.store declarator count false o
  calm_make_if false declarator count name past s o = tt

  pub calm_make : (declarator count name : ℕ) → Calm (Parts.make declarator count name)
  calm_make declarator count name past s o = calm_make_if (Parts.has_room count s) declarator count name past s o

  calm_fill_same : (occ : ℕ) (p : Pointer) (k n : ℕ) (v : Value) → Calm (Parts.fill_same occ act p k n v)
  calm_fill_same occ p k zero v past s o = o
  calm_fill_same occ p k (suc n) v past s o = calm_both (Parts.fill occ act (cell_on p k) v) (Parts.fill_same occ act p (k + 1) n v) (calm_fill occ (cell_on p k) v) (calm_fill_same occ p (k + 1) n v) past s o

  calm_fill_operand : (occ : ℕ) (p : Pointer) (to : Conversion) (e : Option Entry) → Calm (Parts.fill_operand occ act p to e)
  calm_fill_operand occ p to None past s o = tt
  calm_fill_operand occ p to (Some e) past s o = calm_then (Parts.convert to e.value) (λ v. Parts.fill occ act p v) (calm_convert to e.value) (λ v. calm_fill occ p v) past s o

  pub calm_fill_all : (occ : ℕ) (p : Pointer) (es : List Entry) (k i : ℕ) (fs : List Filler) → Calm (Parts.fill_all occ act p es k i fs)
  calm_fill_all occ p es k i [] past s o = o
  calm_fill_all occ p es k i (SameCells n v ∷ fs) past s o =
      calm_both (Parts.fill_same occ act p k n v) (Parts.fill_all occ act p es (k + n) i fs) (calm_fill_same occ p k n v) (calm_fill_all occ p es (k + n) i fs) past s o
  calm_fill_all occ p es k i (Operand to ∷ fs) past s o =
      calm_both (Parts.fill_operand occ act (cell_on p k) to (slice_get es i)) (Parts.fill_all occ act p es (k + 1) (i + 1) fs) (calm_fill_operand occ (cell_on p k) to (slice_get es i)) (calm_fill_all occ p es (k + 1) (i + 1) fs) past s o

  calm_end_if : (b : Bool) (i name : ℕ) (past : List Event) (s : State) → Parts.is_last i (last_object s.store.objects) ≡ b → InOrder past (act ∷ others) s → Keeps (λ later x t. InOrder later (act ∷ others) t) past (Parts.end_if b i name s)
  calm_end_if true i name past s e o = (tt, gone_on past (act ∷ others) s.next_act s.store i e o)
  calm_end_if false i name past s e o = tt

  calm_end_of_name : (name : ℕ) (v : Option Value) → Calm (Parts.end_of_name name v)
  calm_end_of_name name (Some (Points p)) past s o = calm_end_if (Parts.is_last p.instance (last_object s.store.objects)) p.instance name past s refl o
  calm_end_of_name name (Some Unwritten) past s o = o
  calm_end_of_name name (Some Null) past s o = tt
  calm_end_of_name name (Some (Int z)) past s o = tt
  calm_end_of_name name (Some (Function g)) past s o = tt
  calm_end_of_name name None past s o = tt

  calm_end_name : (name : ℕ) → Calm (Parts.end_name name)
  calm_end_name name past s o = calm_end_of_name name (slice_get s.names name) past s o

  pub calm_end_names : (base n : ℕ) → Calm (Parts.end_names base n)
  calm_end_names base zero past s o = o
  calm_end_names base (suc n) past s o = calm_both (Parts.end_name (base + n)) (Parts.end_names base n) (calm_end_name (base + n)) (calm_end_names base n) past s o

  -- Calls

  -- the formal's object, made and written
  passed_in : (past : List Event) (s : State) (declarator : ℕ) (v : Value) → InOrder past (act ∷ others) s → Ordered past (act ∷ others) s.next_act (write_cell (next_pointer declarator s.store) v (made declarator 1 false s.store))
  passed_in past s declarator v o =
      let m = made declarator 1 false s.store in
      let p = next_pointer declarator s.store in
      put_in past (act ∷ others) s.next_act m (refused p m) p v (made_in past (act ∷ others) s.next_act s.store declarator 1 false o)

  calm_pass : (site : Option ℕ) (declarator name k : ℕ) (v : Value) → Calm (Parts.pass site act declarator name k v)
  calm_pass None declarator name k v past s o =
      let c = Parts.cell_of (next_pointer declarator s.store) in
      (tt, def_on past (act ∷ others) s.next_act _ declarator c act (passed_in past s declarator v o))
  calm_pass (Some site) declarator name k v past s o =
      let c = Parts.cell_of (next_pointer declarator s.store) in
      (o.running.held.0, pass_on past (act ∷ others) s.next_act _ site (k + 1) c act (passed_in past s declarator v o))

  pub calm_pass_all : (formals : List ℕ) (site : Option ℕ) (from base k : ℕ) (es : List Entry) → Calm (Parts.pass_all formals site act from base k es)
  calm_pass_all formals site from base k [] past s o = o
  calm_pass_all formals site from base k (e ∷ es) past s o =
      let d = Parts.declarator_by (slice_get formals (from + k)) in
      calm_both (Parts.pass site act d (base + k) k e.value) (Parts.pass_all formals site act from base (k + 1) es) (calm_pass site d (base + k) k e.value) (calm_pass_all formals site from base (k + 1) es) past s o

  calm_answer : (occ : ℕ) (callee : FuncId) (kind : IntKind) (z : Option ℤ) → Calm (Parts.answer occ callee act kind z)
  calm_answer occ callee kind None past s o = tt
  calm_answer occ callee kind (Some z) past s o = (tt, ask_on past (act ∷ others) s.next_act s.store occ callee act o)

  pub calm_ask : (occ : ℕ) (callee : FuncId) (result : Option IntKind) → Calm (Parts.ask occ callee act result)
  calm_ask occ callee None past s o = (tt, ask_on past (act ∷ others) s.next_act s.store occ callee act o)
  calm_ask occ callee (Some kind) past s o = calm_answer occ callee kind (first s.answers) past s o

  pub calm_result : (site : ℕ) (is_used : Bool) (e : Option Entry) → Calm (Parts.result_of site is_used e)
  calm_result site is_used (Some e) past s o = o
  calm_result site true None past s o = tt
  calm_result site false None past s o = o

-- a new activation is running when its function was entered
pub entered : (acts : List ℕ) (formals : List ℕ) (site : Option ℕ) (callee : FuncId) (from names : ℕ) (args : List Entry) (past : List Event) (s : State) → InOrder past acts s → Keeps (λ later frame t. InOrder later (frame.act ∷ acts) t) past (Parts.enter formals site callee from names args s)
entered acts formals site callee from names args past s o = by (Parts.has_room (length args) s)
  where
    a : ℕ
    a = s.next_act

    frame : Frame
    frame = record { act = a; base = length s.names; returned = None }

    by : (b : Bool) → Keeps (λ later frame t. InOrder later (frame.act ∷ acts) t) past (Parts.enter_if b formals site callee from names args s)
    by true = (
      (o.running.later a (omega arith), o.entered a (omega arith)),
      keeps_on (λ later x t. InOrder later (a ∷ acts) t) (λ later frame t. InOrder later (frame.act ∷ acts) t) (λ _. give frame) (λ later x t q. q) _ (Parts.pass_all formals site a from (length s.names) 0 args (Parts.begun names s))
          (calm_pass_all a acts formals site from (length s.names) 0 args _ (Parts.begun names s) (enter_on past acts a s.store site callee o)),
    )
    by false = tt

-- the last activation is not running any more when it has been left
pub left : (acts : List ℕ) (frame : Frame) (past : List Event) (s : State) → InOrder past (frame.act ∷ acts) s → Keeps (λ later x t. InOrder later acts t) past (Parts.leave frame s)
left acts frame past s o = (o.running.held.0, leave_on past acts s.next_act s.store (Parts.return_of frame.returned) frame.act o)
