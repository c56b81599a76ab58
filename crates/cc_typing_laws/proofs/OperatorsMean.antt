-- What the rules of operators mean in terms of types.
use Rattle.std.proofs.Common.{◌≡◌, refl, ap, sym, ◌∙◌, ℕ, Bool, true, false, ◌&&◌, ◌||◌, List, if◌then◌else◌}
use Rattle.std.specs.Prelude.{Option, Some, None, IfSome, option_map}
use Rattle.cc_arith.specs.declared.kind.IntKind.{IntKind}
use Rattle.cc_arith.specs.declared.kind.IntKind.TheVariants.{Int, Long}
use Rattle.cc_arith.specs.declared.binary_operator.IntOp.{IntOp}
use Rattle.cc_arith.specs.declared.binary_operator.IntOp.TheVariants as o
use Rattle.cc_arith.specs.declared.unary_operator.IntUnary.{IntUnary}
use Rattle.cc_arith.specs.declared.unary_operator.IntUnary.TheVariants as iu
use Rattle.cc_tree.specs.declared.operator.UnaryOp.{UnaryOp}
use Rattle.cc_tree.specs.declared.operator.UnaryOp.TheVariants as u
use Rattle.cc_tree.specs.declared.operator.BinaryOp.{BinaryOp}
use Rattle.cc_tree.specs.declared.operator.BinaryOp.TheVariants as b
use Rattle.cc_tree.specs.declared.operator.AssignOp.{AssignOp}
use Rattle.cc_tree.specs.declared.operator.AssignOp.TheVariants as a
use Rattle.cc_types.specs.CTypes.{CTypeTree, pointer_to, void}
use Rattle.cc_types.specs.Questions.{value_type, pointee_of, point_at_one, point_alike}
use Rattle.cc_types.specs.Questions as types
use Rattle.cc_types.specs.Structs as structs
use Rattle.cc_types.specs.Asked as asked
use Rattle.cc_types.specs.Asked.{value_in, pointee_in}
use Rattle.cc_types.specs.declared.structs.StructEntry.{StructEntry}
use Rattle.cc_types.specs.declared.shape.Shape.{Shape}
use Rattle.cc_types.specs.declared.shape.Shape.TheVariants as s
use Rattle.cc_types.specs.declared.expr_type.ExprType.{ExprType}
use Rattle.cc_types.specs.declared.expr_type.ExprType.TheVariants.{Plain, Address}
use Rattle.cc_types.specs.Shapes.{built, types_of, IsTable, IsSound}
use Rattle.cc_types.specs.ExprTypes.{expr_type, HasSound}
use Rattle.cc_types.specs.Interning.{is_function}
use Rattle.cc_types.proofs.AskedTypes.{pointee_asked, pointee_sound, one_pointee, alike_asked, fits_asked}
use Rattle.cc_types.proofs.MadeShapes.{function_of}
use Rattle.cc_judging.specs.declared.judged.Judged.{Judged}
use Rattle.cc_judging.specs.declared.judged.Judged.TheVariants as j
use Rattle.cc_judging.specs.declared.judged.Part.TheVariants.{Whole, First, Second}
use Rattle.cc_judging.specs.Judging as numbers
use Rattle.cc_judging.specs.Asking as asking
use Rattle.cc_judging.specs.Prefixes as prefixes
use Rattle.cc_judging.specs.Comparisons as comparisons
use Rattle.cc_judging.specs.Arithmetic as arithmetic
use Rattle.cc_judging.specs.Assignments as assignments
use Rattle.cc_judging.specs.Choices as choices
use Rattle.cc_typing_laws.specs.Judgements.{Judgement, typed, breaks, misfits, untyped, or_breaks, int_or_breaks, meant, JudgedSound, IsPlain}
use Rattle.cc_typing_laws.specs.Operators as operators
use Rattle.cc_typing_laws.proofs.Values.{contra, or_is, or_sound, if_is, if_sound, value_is, value_sound}

module _ (ss : List Shape) (table : IsTable ss) (es : List StructEntry) where
  -- the types of the table, and the type of an expression
  abbrev ts : List CTypeTree
  ts = types_of ss

  abbrev T : ExprType → CTypeTree
  T t = expr_type (types_of ss) t

  -- ---- Prefix operators

  address_is : (place : Bool) (t : ExprType) → (place ≡ true → IsPlain t) → meant ts (prefixes.address_judged place t) ≡ operators.address place (T t)
  address_is place (Plain a) h = or_is ts (place || is_function a) (Address a) 42 First ∙ ap (λ x. or_breaks (place || x) (pointer_to false (built ts a)) 42 First) (sym (function_of ts a))
  address_is true (Address a) h = contra (h refl)
  address_is false (Address a) h = refl

  address_sound : (place : Bool) (t : ExprType) → HasSound ts t → JudgedSound ts (prefixes.address_judged place t)
  address_sound place (Plain a) h = or_sound ts (place || is_function a) (Address a) 42 First h
  address_sound place (Address a) h = tt

  pointed_is : (m : Option Shape) → meant ts (prefixes.pointed_at_some ss es m) ≡ operators.pointed_at es (option_map (built ts) m)
  pointed_is (Some a) = or_is ts (is_function a || asking.is_complete ss es a) (Plain a) 41 First ∙ ap (λ x. or_breaks (x || operators.is_complete es (built ts a)) (built ts a) 41 First) (sym (function_of ts a))
  pointed_is None = refl

  pointed_sound : (m : Option Shape) → IfSome m (IsSound ts) → JudgedSound ts (prefixes.pointed_at_some ss es m)
  pointed_sound (Some a) h = or_sound ts (is_function a || asking.is_complete ss es a) (Plain a) 41 First h
  pointed_sound None h = tt

  deref_is : (t : ExprType) → meant ts (prefixes.dereferenced ss es t) ≡ operators.pointed_at es (pointee_of (T t))
  deref_is t = pointed_is (pointee_in ss t) ∙ ap (operators.pointed_at es) (pointee_asked ss table t)

  promoted_is : (m : Option IntKind) → meant ts (prefixes.of_promoted m) ≡ operators.of_promoted m
  promoted_is (Some k) = refl
  promoted_is None = refl

  promoted_sound : (m : Option IntKind) → JudgedSound ts (prefixes.of_promoted m)
  promoted_sound (Some k) = refl
  promoted_sound None = tt

  int_unary_is : (op : IntUnary) (t : ExprType) → meant ts (prefixes.int_unary_judged ss op t) ≡ operators.int_unary op (T t)
  int_unary_is iu.Not t = or_is ts (asking.is_scalar ss t) (numbers.an_integer Int) 40 First
  int_unary_is iu.Plus t = promoted_is (asking.promoted_in ss t)
  int_unary_is iu.Minus t = promoted_is (asking.promoted_in ss t)
  int_unary_is iu.Invert t = promoted_is (asking.promoted_in ss t)

  int_unary_sound : (op : IntUnary) (t : ExprType) → JudgedSound ts (prefixes.int_unary_judged ss op t)
  int_unary_sound iu.Not t = or_sound ts (asking.is_scalar ss t) (numbers.an_integer Int) 40 First refl
  int_unary_sound iu.Plus t = promoted_sound (asking.promoted_in ss t)
  int_unary_sound iu.Minus t = promoted_sound (asking.promoted_in ss t)
  int_unary_sound iu.Invert t = promoted_sound (asking.promoted_in ss t)

  pub unary_is : (op : UnaryOp) (place : Bool) (t : Option ExprType) → (place ≡ true → IfSome t IsPlain) → meant ts (prefixes.unary_judged ss es op place t) ≡ operators.unary es op place (option_map (expr_type ts) t)
  unary_is u.Address place (Some t) h = address_is place t h
  unary_is u.Deref place (Some t) h = deref_is (value_in ss t) ∙ ap (λ x. operators.pointed_at es (pointee_of x)) (value_is ss table t)
  unary_is (u.Int op) place (Some t) h = int_unary_is op (value_in ss t) ∙ ap (operators.int_unary op) (value_is ss table t)
  unary_is op place None h = refl

  pub unary_sound : (op : UnaryOp) (place : Bool) (t : Option ExprType) → IfSome t (HasSound ts) → JudgedSound ts (prefixes.unary_judged ss es op place t)
  unary_sound u.Address place (Some t) h = address_sound place t h
  unary_sound u.Deref place (Some t) h = pointed_sound (pointee_in ss (value_in ss t)) (pointee_sound ss table (value_in ss t) (value_sound ss table t h))
  unary_sound (u.Int op) place (Some t) h = int_unary_sound op (value_in ss t)
  unary_sound op place None h = tt

  -- ---- Operators with two operands

  order_is : (s t : ExprType) → HasSound ts s → HasSound ts t → meant ts (comparisons.order_judged ss s t) ≡ operators.order (T s) (T t)
  order_is s t hs ht = or_is ts _ (numbers.an_integer Int) 44 Whole ∙ ap (λ x. int_or_breaks (types.points_to_object (T s) && x) 44 Whole) (alike_asked ss table s t hs ht)

  equality_is : (s : ExprType) (m : Bool) (t : ExprType) (n : Bool) → HasSound ts s → HasSound ts t → meant ts (comparisons.equality_judged ss s m t n) ≡ operators.equality (T s) m (T t) n
  equality_is s m t n hs ht = or_is ts _ (numbers.an_integer Int) 44 Whole ∙ ap (λ x. int_or_breaks (types.is_pointer (T s) && n || m && types.is_pointer (T t) || x) 44 Whole) (alike_asked ss table s t hs ht)

  logical_is : (s t : ExprType) → meant ts (comparisons.logical_judged ss s t) ≡ operators.logical (T s) (T t)
  logical_is s t = if_is ts (asking.is_scalar ss s) _ _ _ _ (or_is ts (asking.is_scalar ss t) (numbers.an_integer Int) 45 Second) refl

  sum_is : (s t : ExprType) → meant ts (arithmetic.sum_judged ss s t) ≡ operators.sum (T s) (T t)
  sum_is s t = if_is ts (asking.points_to_object ss s && asking.is_integer ss t) _ _ _ _ refl (or_is ts (asking.is_integer ss s && asking.points_to_object ss t) t 43 Whole)

  difference_is : (s t : ExprType) → HasSound ts s → HasSound ts t → meant ts (arithmetic.difference_judged ss s t) ≡ operators.difference (T s) (T t)
  difference_is s t hs ht = if_is ts (asking.points_to_object ss s && asking.is_integer ss t) _ _ _ _ refl
      (or_is ts _ (numbers.an_integer Long) 43 Whole ∙ ap (λ x. or_breaks (types.points_to_object (T s) && x) (T (numbers.an_integer Long)) 43 Whole) (one_pointee ss table s t hs ht))

  pointers_is : (op : IntOp) (s : ExprType) (m : Bool) (t : ExprType) (n : Bool) → HasSound ts s → HasSound ts t → meant ts (arithmetic.pointers_judged ss op s m t n) ≡ operators.pointers op (T s) m (T t) n
  pointers_is o.Add s m t n hs ht = sum_is s t
  pointers_is o.Sub s m t n hs ht = difference_is s t hs ht
  pointers_is o.Lt s m t n hs ht = order_is s t hs ht
  pointers_is o.Le s m t n hs ht = order_is s t hs ht
  pointers_is o.Gt s m t n hs ht = order_is s t hs ht
  pointers_is o.Ge s m t n hs ht = order_is s t hs ht
  pointers_is o.Eq s m t n hs ht = equality_is s m t n hs ht
  pointers_is o.Ne s m t n hs ht = equality_is s m t n hs ht
  pointers_is op s m t n hs ht = refl

  pointers_sound : (op : IntOp) (s : ExprType) (m : Bool) (t : ExprType) (n : Bool) → HasSound ts s → HasSound ts t → JudgedSound ts (arithmetic.pointers_judged ss op s m t n)
  pointers_sound o.Add s m t n hs ht = if_sound ts (asking.points_to_object ss s && asking.is_integer ss t) _ _ hs (or_sound ts (asking.is_integer ss s && asking.points_to_object ss t) t 43 Whole ht)
  pointers_sound o.Sub s m t n hs ht = if_sound ts (asking.points_to_object ss s && asking.is_integer ss t) _ _ hs (or_sound ts (asking.points_to_object ss s && asked.point_at_one ss s t) (numbers.an_integer Long) 43 Whole refl)
  pointers_sound o.Lt s m t n hs ht = or_sound ts _ (numbers.an_integer Int) 44 Whole refl
  pointers_sound o.Le s m t n hs ht = or_sound ts _ (numbers.an_integer Int) 44 Whole refl
  pointers_sound o.Gt s m t n hs ht = or_sound ts _ (numbers.an_integer Int) 44 Whole refl
  pointers_sound o.Ge s m t n hs ht = or_sound ts _ (numbers.an_integer Int) 44 Whole refl
  pointers_sound o.Eq s m t n hs ht = or_sound ts _ (numbers.an_integer Int) 44 Whole refl
  pointers_sound o.Ne s m t n hs ht = or_sound ts _ (numbers.an_integer Int) 44 Whole refl
  pointers_sound op s m t n hs ht = tt

  kinds_is : (op : IntOp) (m n : Option IntKind) (x : Judged) (y : Judgement) → meant ts x ≡ y → meant ts (arithmetic.of_kinds op m n x) ≡ operators.of_kinds op m n y
  kinds_is op (Some j) (Some k) x y e = refl
  kinds_is op (Some j) None x y e = e
  kinds_is op None (Some k) x y e = e
  kinds_is op None None x y e = e

  kinds_sound : (op : IntOp) (m n : Option IntKind) (x : Judged) → JudgedSound ts x → JudgedSound ts (arithmetic.of_kinds op m n x)
  kinds_sound op (Some j) (Some k) x h = refl
  kinds_sound op (Some j) None x h = h
  kinds_sound op None (Some k) x h = h
  kinds_sound op None None x h = h

  values_is : (op : BinaryOp) (s : ExprType) (m : Bool) (t : ExprType) (n : Bool) → HasSound ts s → HasSound ts t → meant ts (arithmetic.values_judged ss op s m t n) ≡ operators.values op (T s) m (T t) n
  values_is (b.Int op) s m t n hs ht = kinds_is op (asking.kind_in ss s) (asking.kind_in ss t) _ _ (pointers_is op s m t n hs ht)
  values_is b.AndAnd s m t n hs ht = logical_is s t
  values_is b.OrOr s m t n hs ht = logical_is s t

  values_sound : (op : BinaryOp) (s : ExprType) (m : Bool) (t : ExprType) (n : Bool) → HasSound ts s → HasSound ts t → JudgedSound ts (arithmetic.values_judged ss op s m t n)
  values_sound (b.Int op) s m t n hs ht = kinds_sound op (asking.kind_in ss s) (asking.kind_in ss t) _ (pointers_sound op s m t n hs ht)
  values_sound b.AndAnd s m t n hs ht = if_sound ts (asking.is_scalar ss s) _ _ (or_sound ts (asking.is_scalar ss t) (numbers.an_integer Int) 45 Second refl) tt
  values_sound b.OrOr s m t n hs ht = if_sound ts (asking.is_scalar ss s) _ _ (or_sound ts (asking.is_scalar ss t) (numbers.an_integer Int) 45 Second refl) tt

  pub binary_is : (op : BinaryOp) (s : Option ExprType) (m : Bool) (t : Option ExprType) (n : Bool) → IfSome s (HasSound ts) → IfSome t (HasSound ts)
      → meant ts (arithmetic.binary_judged ss op s m t n) ≡ operators.binary op (option_map (expr_type ts) s) m (option_map (expr_type ts) t) n
  binary_is op (Some s) m (Some t) n hs ht =
      values_is op (value_in ss s) m (value_in ss t) n (value_sound ss table s hs) (value_sound ss table t ht)
      ∙ ap (λ x. operators.values op x m (T (value_in ss t)) n) (value_is ss table s)
      ∙ ap (λ x. operators.values op (value_type (T s)) m x n) (value_is ss table t)
  binary_is op (Some s) m None n hs ht = refl
  binary_is op None m (Some t) n hs ht = refl
  binary_is op None m None n hs ht = refl

  pub binary_sound : (op : BinaryOp) (s : Option ExprType) (m : Bool) (t : Option ExprType) (n : Bool) → IfSome s (HasSound ts) → IfSome t (HasSound ts) → JudgedSound ts (arithmetic.binary_judged ss op s m t n)
  binary_sound op (Some s) m (Some t) n hs ht = values_sound op (value_in ss s) m (value_in ss t) n (value_sound ss table s hs) (value_sound ss table t ht)
  binary_sound op (Some s) m None n hs ht = tt
  binary_sound op None m (Some t) n hs ht = tt
  binary_sound op None m None n hs ht = tt

  -- ---- Assignments and steps

  assignable_is : (place : Bool) (t : ExprType) → (place ≡ true → IsPlain t) → (place && assignments.is_assignable t) ≡ (place && operators.is_assignable (T t))
  assignable_is false t h = refl
  assignable_is true (Address a) h = contra (h refl)
  assignable_is true (Plain (s.Void k)) h = refl
  assignable_is true (Plain (s.Integer k kind)) h = refl
  assignable_is true (Plain (s.Pointer k t)) h = refl
  assignable_is true (Plain (s.Array k t n)) h = refl
  assignable_is true (Plain (s.Function t)) h = refl
  assignable_is true (Plain (s.Takes t f)) h = refl
  assignable_is true (Plain (s.Struct k id)) h = refl

  plain_by : (x : Bool) (s : ExprType) → meant ts (if x then j.Typed s else j.Misfits s) ≡ (if x then typed (T s) else misfits (T s))
  plain_by true s = refl
  plain_by false s = refl

  plain_is : (s t : ExprType) (n : Bool) → HasSound ts s → HasSound ts t → meant ts (assignments.plain_judged ss es s t n) ≡ operators.plain es (T s) (T t) n
  plain_is s t n hs ht = plain_by (structs.fits_in ss es t n s) s ∙ ap (λ x. if x || structs.are_one_struct es (T t) (T s) then typed (T s) else misfits (T s)) (fits_asked ss table t n s ht hs)

  stored_is : (op : AssignOp) (s t : ExprType) (n : Bool) → HasSound ts s → HasSound ts t → meant ts (assignments.stored ss es op s t n) ≡ operators.stored es op (T s) (T t) n
  stored_is a.Plain s t n hs ht = plain_is s t n hs ht
  stored_is a.Add s t n hs ht = or_is ts _ s 51 Whole
  stored_is a.Sub s t n hs ht = or_is ts _ s 51 Whole
  stored_is op s t n hs ht = or_is ts _ s 51 Whole

  stored_sound : (op : AssignOp) (s t : ExprType) (n : Bool) → HasSound ts s → JudgedSound ts (assignments.stored ss es op s t n)
  stored_sound a.Plain s t n hs = if_sound ts (structs.fits_in ss es t n s) (j.Typed s) (j.Misfits s) hs hs
  stored_sound a.Add s t n hs = or_sound ts _ s 51 Whole hs
  stored_sound a.Sub s t n hs = or_sound ts _ s 51 Whole hs
  stored_sound op s t n hs = or_sound ts _ s 51 Whole hs

  pub assign_is : (op : AssignOp) (place : Bool) (s t : Option ExprType) (n : Bool) → (place ≡ true → IfSome s IsPlain) → IfSome s (HasSound ts) → IfSome t (HasSound ts)
      → meant ts (assignments.assign_judged ss es op place s t n) ≡ operators.assign es op place (option_map (expr_type ts) s) (option_map (expr_type ts) t) n
  assign_is op place (Some s) (Some t) n h hs ht =
      if_is ts (place && assignments.is_assignable s) _ _ _ _
      (stored_is op (value_in ss s) (value_in ss t) n (value_sound ss table s hs) (value_sound ss table t ht)
      ∙ ap (λ x. operators.stored es op x (T (value_in ss t)) n) (value_is ss table s)
      ∙ ap (λ x. operators.stored es op (value_type (T s)) x n) (value_is ss table t))
      refl
      ∙ ap (λ x. if x then operators.stored es op (value_type (T s)) (value_type (T t)) n else breaks 39 Whole) (assignable_is place s h)
  assign_is op place (Some s) None n h hs ht = refl
  assign_is op place None (Some t) n h hs ht = refl
  assign_is op place None None n h hs ht = refl

  pub assign_sound : (op : AssignOp) (place : Bool) (s t : Option ExprType) (n : Bool) → IfSome s (HasSound ts) → JudgedSound ts (assignments.assign_judged ss es op place s t n)
  assign_sound op place (Some s) (Some t) n hs = if_sound ts (place && assignments.is_assignable s) _ _ (stored_sound op (value_in ss s) (value_in ss t) n (value_sound ss table s hs)) tt
  assign_sound op place (Some s) None n hs = tt
  assign_sound op place None (Some t) n hs = tt
  assign_sound op place None None n hs = tt

  pub step_is : (place : Bool) (t : Option ExprType) → (place ≡ true → IfSome t IsPlain) → meant ts (assignments.step_judged ss place t) ≡ operators.step place (option_map (expr_type ts) t)
  step_is place (Some t) h =
      if_is ts (place && assignments.is_assignable t) _ _ _ _ (or_is ts _ (value_in ss t) 51 Whole ∙ ap operators.step_value (value_is ss table t)) refl
      ∙ ap (λ x. if x then operators.step_value (value_type (T t)) else breaks 39 Whole) (assignable_is place t h)
  step_is place None h = refl

  pub step_sound : (place : Bool) (t : Option ExprType) → IfSome t (HasSound ts) → JudgedSound ts (assignments.step_judged ss place t)
  step_sound place (Some t) h = if_sound ts (place && assignments.is_assignable t) _ _ (or_sound ts _ (value_in ss t) 51 Whole (value_sound ss table t h)) tt
  step_sound place None h = tt

  -- ---- `?:` and the comma

  others_is : (s : ExprType) (m : Bool) (t : ExprType) (n : Bool) → HasSound ts s → HasSound ts t → meant ts (choices.others_judged ss s m t n) ≡ operators.others (T s) m (T t) n
  others_is s m t n hs ht =
      if_is ts (asking.is_void ss s && asking.is_void ss t) _ _ _ _ refl
      (if_is ts (asked.point_at_one ss s t || asking.is_pointer ss s && n) _ _ _ _ refl (or_is ts (m && asking.is_pointer ss t) t 48 Whole)
      ∙ ap (λ x. if x || types.is_pointer (T s) && n then typed (T s) else or_breaks (m && types.is_pointer (T t)) (T t) 48 Whole) (one_pointee ss table s t hs ht))

  others_sound : (s : ExprType) (m : Bool) (t : ExprType) (n : Bool) → HasSound ts s → HasSound ts t → JudgedSound ts (choices.others_judged ss s m t n)
  others_sound s m t n hs ht =
      if_sound ts (asking.is_void ss s && asking.is_void ss t) _ _ refl
      (if_sound ts (asked.point_at_one ss s t || asking.is_pointer ss s && n) _ _ hs (or_sound ts (m && asking.is_pointer ss t) t 48 Whole ht))

  branches_is : (m n : Option IntKind) (x : Judged) (y : Judgement) → meant ts x ≡ y → meant ts (choices.of_kinds m n x) ≡ operators.of_branches m n y
  branches_is (Some j) (Some k) x y e = refl
  branches_is (Some j) None x y e = e
  branches_is None (Some k) x y e = e
  branches_is None None x y e = e

  branches_sound : (m n : Option IntKind) (x : Judged) → JudgedSound ts x → JudgedSound ts (choices.of_kinds m n x)
  branches_sound (Some j) (Some k) x h = refl
  branches_sound (Some j) None x h = h
  branches_sound None (Some k) x h = h
  branches_sound None None x h = h

  pub choice_is : (c s : Option ExprType) (m : Bool) (t : Option ExprType) (n : Bool) → IfSome s (HasSound ts) → IfSome t (HasSound ts)
      → meant ts (choices.choice_judged ss c s m t n) ≡ operators.choice (option_map (expr_type ts) c) (option_map (expr_type ts) s) m (option_map (expr_type ts) t) n
  choice_is (Some c) (Some s) m (Some t) n hs ht =
      if_is ts (asking.is_scalar ss (value_in ss c)) _ _ _ _
      (branches_is (asking.kind_in ss (value_in ss s)) (asking.kind_in ss (value_in ss t)) _ _ (others_is (value_in ss s) m (value_in ss t) n (value_sound ss table s hs) (value_sound ss table t ht))
      ∙ ap (λ x. operators.branches x m (T (value_in ss t)) n) (value_is ss table s)
      ∙ ap (λ x. operators.branches (value_type (T s)) m x n) (value_is ss table t))
      refl
      ∙ ap (λ x. if types.is_scalar x then operators.branches (value_type (T s)) m (value_type (T t)) n else breaks 32 First) (value_is ss table c)
  choice_is (Some c) (Some s) m None n hs ht = refl
  choice_is (Some c) None m (Some t) n hs ht = refl
  choice_is (Some c) None m None n hs ht = refl
  choice_is None (Some s) m (Some t) n hs ht = refl
  choice_is None (Some s) m None n hs ht = refl
  choice_is None None m (Some t) n hs ht = refl
  choice_is None None m None n hs ht = refl

  pub choice_sound : (c s : Option ExprType) (m : Bool) (t : Option ExprType) (n : Bool) → IfSome s (HasSound ts) → IfSome t (HasSound ts) → JudgedSound ts (choices.choice_judged ss c s m t n)
  choice_sound (Some c) (Some s) m (Some t) n hs ht =
      if_sound ts (asking.is_scalar ss (value_in ss c)) _ _
      (branches_sound (asking.kind_in ss (value_in ss s)) (asking.kind_in ss (value_in ss t)) _ (others_sound (value_in ss s) m (value_in ss t) n (value_sound ss table s hs) (value_sound ss table t ht)))
      tt
  choice_sound (Some c) (Some s) m None n hs ht = tt
  choice_sound (Some c) None m (Some t) n hs ht = tt
  choice_sound (Some c) None m None n hs ht = tt
  choice_sound None (Some s) m (Some t) n hs ht = tt
  choice_sound None (Some s) m None n hs ht = tt
  choice_sound None None m (Some t) n hs ht = tt
  choice_sound None None m None n hs ht = tt

  pub comma_is : (s t : Option ExprType) → meant ts (choices.comma_judged ss s t) ≡ operators.comma (option_map (expr_type ts) s) (option_map (expr_type ts) t)
  comma_is (Some s) (Some t) = ap typed (value_is ss table t)
  comma_is (Some s) None = refl
  comma_is None (Some t) = refl
  comma_is None None = refl

  pub comma_sound : (s t : Option ExprType) → IfSome t (HasSound ts) → JudgedSound ts (choices.comma_judged ss s t)
  comma_sound (Some s) (Some t) h = value_sound ss table t h
  comma_sound (Some s) None h = tt
  comma_sound None (Some t) h = tt
  comma_sound None None h = tt
