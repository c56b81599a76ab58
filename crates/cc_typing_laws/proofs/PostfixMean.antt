-- What the rules of names, calls, members, subscripts, casts and sizes mean in terms of types.
use Rattle.std.proofs.Common.{◌≡◌, refl, ap, sym, ◌∙◌, ℕ, Bool, true, false, ◌&&◌, ◌||◌, List, if◌then◌else◌}
use Rattle.std.specs.Prelude.{Option, Some, None, IfSome, option_map, length, nat_lt, not}
use Rattle.cc_arith.specs.declared.kind.IntKind.TheVariants.{Char, ULong}
use Rattle.cc_symbols.specs.declared.declared.Declared.{Declared}
use Rattle.cc_symbols.specs.declared.declared.Form.{Form}
use Rattle.cc_symbols.specs.declared.declared.Form.TheVariants as form
use Rattle.cc_types.specs.CTypes as types
use Rattle.cc_types.specs.CTypes.{CTypeTree, array_of}
use Rattle.cc_types.specs.Questions.{value_type, pointee_of, is_integer}
use Rattle.cc_types.specs.Asked as asked
use Rattle.cc_types.specs.Asked.{value_in, pointee_in}
use Rattle.cc_types.specs.Structs.{member_named}
use Rattle.cc_types.specs.declared.structs.StructEntry.{StructEntry}
use Rattle.cc_types.specs.declared.shape.Shape.{Shape}
use Rattle.cc_types.specs.declared.shape.Shape.TheVariants as s
use Rattle.cc_types.specs.declared.shape.TypeId.{TypeId}
use Rattle.cc_types.specs.declared.expr_type.ExprType.{ExprType}
use Rattle.cc_types.specs.declared.expr_type.ExprType.TheVariants.{Plain, Address}
use Rattle.cc_types.specs.Shapes.{built, type_at, types_of, IsTable, IsSound}
use Rattle.cc_types.specs.ExprTypes.{expr_type, HasSound}
use Rattle.cc_types.specs.Interning.{is_function, is_const, shape_of, with_const}
use Rattle.cc_types.proofs.AskedTypes.{const_type, const_sound, pointee_asked, pointee_sound}
use Rattle.cc_types.proofs.MadeShapes.{const_of, function_of, type_is, shape_sound}
use Rattle.cc_judging.specs.declared.judged.Judged.{Judged}
use Rattle.cc_judging.specs.declared.judged.Part.TheVariants.{Whole}
use Rattle.cc_judging.specs.declared.calls.Passing.{Passing}
use Rattle.cc_judging.specs.declared.calls.Passing.TheVariants as p
use Rattle.cc_judging.specs.declared.members.Selection.{Selection}
use Rattle.cc_judging.specs.Judging as numbers
use Rattle.cc_judging.specs.Asking as asking
use Rattle.cc_judging.specs.Leaves as leaves
use Rattle.cc_judging.specs.Calls as calls
use Rattle.cc_judging.specs.Members as members
use Rattle.cc_judging.specs.Casts as casts
use Rattle.cc_typing_laws.specs.Judgements.{Judgement, typed, breaks, untyped, or_breaks, meant, JudgedSound}
use Rattle.cc_typing_laws.specs.Operators as operators
use Rattle.cc_typing_laws.specs.Postfix as postfix
use Rattle.cc_typing_laws.specs.Postfix.{Passed, unknown, no_function, left, beyond}
use Rattle.cc_typing_laws.proofs.Values.{or_is, or_sound, if_is, if_sound, value_is, value_sound}

-- how far a call is judged, in terms of types
abbrev pub passing : List CTypeTree → Passing → Passed
passing ts p.Unknown = unknown
passing ts p.NoFunction = no_function
passing ts (p.Left a) = left (built ts a)
passing ts p.Beyond = beyond

module _ (ss : List Shape) (table : IsTable ss) (es : List StructEntry) where
  abbrev ts : List CTypeTree
  ts = types_of ss

  -- ---- Names

  of_kind_is : (t : Option TypeId) → meant ts (leaves.of_kind ss t) ≡ postfix.of_type (option_map (type_at ts) t)
  of_kind_is (Some id) = ap typed (type_is ss table id)
  of_kind_is None = refl

  of_kind_sound : (t : Option TypeId) → JudgedSound ts (leaves.of_kind ss t)
  of_kind_sound (Some id) = shape_sound ss table id
  of_kind_sound None = tt

  named_is : (f : Form) (t : Option TypeId) → meant ts (leaves.named_judged ss f t) ≡ postfix.named f (option_map (type_at ts) t)
  named_is (form.Constant v) t = refl
  named_is (form.Object life) t = of_kind_is t
  named_is form.Function t = of_kind_is t
  named_is form.Typedef t = refl

  named_sound : (f : Form) (t : Option TypeId) → JudgedSound ts (leaves.named_judged ss f t)
  named_sound (form.Constant v) t = refl
  named_sound (form.Object life) t = of_kind_sound t
  named_sound form.Function t = of_kind_sound t
  named_sound form.Typedef t = tt

  pub name_is : (d : Option Declared) → meant ts (leaves.name_judged ss d) ≡ postfix.name (option_map (λ d. (d.form, option_map (type_at ts) d.kind)) d)
  name_is (Some d) = named_is d.form d.kind
  name_is None = refl

  pub name_sound : (d : Option Declared) → JudgedSound ts (leaves.name_judged ss d)
  name_sound (Some d) = named_sound d.form d.kind
  name_sound None = tt

  pub paren_is : (t : Option ExprType) → meant ts (leaves.paren_judged t) ≡ postfix.of_type (option_map (expr_type ts) t)
  paren_is (Some t) = refl
  paren_is None = refl

  pub paren_sound : (t : Option ExprType) → IfSome t (HasSound ts) → JudgedSound ts (leaves.paren_judged t)
  paren_sound (Some t) h = h
  paren_sound None h = tt

  -- ---- Calls

  left_by : (x : Bool) (a : Shape) → passing ts (if x then p.Left a else p.NoFunction) ≡ (if x then left (built ts a) else no_function)
  left_by true a = refl
  left_by false a = refl

  left_is : (m : Option Shape) → passing ts (calls.left_of_some m) ≡ postfix.left_of (option_map (built ts) m)
  left_is (Some a) = left_by (is_function a) a ∙ ap (λ x. if x then left (built ts a) else no_function) (sym (function_of ts a))
  left_is None = refl

  pub called_is : (t : Option ExprType) → passing ts (calls.called ss t) ≡ postfix.called (option_map (expr_type ts) t)
  called_is (Some t) = left_is (pointee_in ss (value_in ss t)) ∙ ap postfix.left_of (pointee_asked ss table (value_in ss t) ∙ ap pointee_of (value_is ss table t))
  called_is None = refl

  passed_is : (state : Passing) → passing ts (calls.passed_one ss state) ≡ postfix.passed_one (passing ts state)
  passed_is (p.Left (s.Takes t f)) = ap left (type_is ss table f)
  passed_is (p.Left (s.Void k)) = refl
  passed_is (p.Left (s.Integer k kind)) = refl
  passed_is (p.Left (s.Pointer k t)) = refl
  passed_is (p.Left (s.Array k t n)) = refl
  passed_is (p.Left (s.Function t)) = refl
  passed_is (p.Left (s.Struct k id)) = refl
  passed_is p.Unknown = refl
  passed_is p.NoFunction = refl
  passed_is p.Beyond = refl

  pub pass_is : (state : Passing) (t : Option ExprType) → passing ts (calls.pass_one ss state t) ≡ postfix.pass_one (passing ts state) (option_map (expr_type ts) t)
  pass_is state (Some t) = passed_is state
  pass_is state None = refl

  pub call_is : (state : Passing) → meant ts (calls.call_judged ss state) ≡ postfix.call (passing ts state)
  call_is (p.Left (s.Function t)) = ap typed (type_is ss table t)
  call_is (p.Left (s.Void k)) = refl
  call_is (p.Left (s.Integer k kind)) = refl
  call_is (p.Left (s.Pointer k t)) = refl
  call_is (p.Left (s.Array k t n)) = refl
  call_is (p.Left (s.Takes t f)) = refl
  call_is (p.Left (s.Struct k id)) = refl
  call_is p.Unknown = refl
  call_is p.NoFunction = refl
  call_is p.Beyond = refl

  pub call_sound : (state : Passing) → JudgedSound ts (calls.call_judged ss state)
  call_sound (p.Left (s.Function t)) = shape_sound ss table t
  call_sound (p.Left (s.Void k)) = tt
  call_sound (p.Left (s.Integer k kind)) = tt
  call_sound (p.Left (s.Pointer k t)) = tt
  call_sound (p.Left (s.Array k t n)) = tt
  call_sound (p.Left (s.Takes t f)) = tt
  call_sound (p.Left (s.Struct k id)) = tt
  call_sound p.Unknown = tt
  call_sound p.NoFunction = tt
  call_sound p.Beyond = tt

  -- ---- Members and subscripts

  -- a selection in terms of types
  abbrev chosen : Selection → postfix.Selected
  chosen x = (meant ts x.judged, x.place)

  also_is : (k : Bool) (id : TypeId) → built ts (asked.also_const k (shape_of ss id)) ≡ types.with_const (k || types.has_const (type_at ts id)) (type_at ts id)
  also_is k id =
      const_type ts (k || is_const (shape_of ss id)) (shape_of ss id)
      ∙ ap (λ x. types.with_const (k || x) (built ts (shape_of ss id))) (sym (const_of ts (shape_of ss id)))
      ∙ ap (λ x. types.with_const (k || types.has_const x) x) (type_is ss table id)

  found_is : (k : Bool) (m : Option (ℕ × TypeId)) → chosen (members.found ss k m) ≡ postfix.found ts k m
  found_is k (Some m) = ap (λ x. (typed x, members.narrowed m.0)) (also_is k m.1)
  found_is k None = refl

  found_sound : (k : Bool) (m : Option (ℕ × TypeId)) → JudgedSound ts (members.found ss k m).judged
  found_sound k (Some m) = const_sound ts (k || is_const (shape_of ss m.1)) (shape_of ss m.1) (shape_sound ss table m.1)
  found_sound k None = tt

  selected_is : (a : Shape) (x : List ℕ) → chosen (members.selected ss es a x) ≡ postfix.selected ts es (Some (built ts a)) x
  selected_is (s.Struct k id) x = found_is k (member_named es id x)
  selected_is (s.Void k) x = refl
  selected_is (s.Integer k kind) x = refl
  selected_is (s.Pointer k t) x = refl
  selected_is (s.Array k t n) x = refl
  selected_is (s.Function t) x = refl
  selected_is (s.Takes t f) x = refl

  selected_sound : (a : Shape) (x : List ℕ) → JudgedSound ts (members.selected ss es a x).judged
  selected_sound (s.Struct k id) x = found_sound k (member_named es id x)
  selected_sound (s.Void k) x = tt
  selected_sound (s.Integer k kind) x = tt
  selected_sound (s.Pointer k t) x = tt
  selected_sound (s.Array k t n) x = tt
  selected_sound (s.Function t) x = tt
  selected_sound (s.Takes t f) x = tt

  pub member_is : (t : Option ExprType) (x : List ℕ) → chosen (members.member_judged ss es t x) ≡ postfix.member ts es (option_map (expr_type ts) t) x
  member_is (Some (Plain a)) x = selected_is a x
  member_is (Some (Address a)) x = refl
  member_is None x = refl

  pub member_sound : (t : Option ExprType) (x : List ℕ) → JudgedSound ts (members.member_judged ss es t x).judged
  member_sound (Some (Plain a)) x = selected_sound a x
  member_sound (Some (Address a)) x = tt
  member_sound None x = tt

  at_is : (m : Option Shape) (x : List ℕ) → chosen (members.selected_at ss es m x) ≡ postfix.selected ts es (option_map (built ts) m) x
  at_is (Some a) x = selected_is a x
  at_is None x = refl

  at_sound : (m : Option Shape) (x : List ℕ) → JudgedSound ts (members.selected_at ss es m x).judged
  at_sound (Some a) x = selected_sound a x
  at_sound None x = tt

  pub arrow_is : (t : Option ExprType) (x : List ℕ) → chosen (members.arrow_judged ss es t x) ≡ postfix.arrow ts es (option_map (expr_type ts) t) x
  arrow_is (Some t) x = at_is (pointee_in ss (value_in ss t)) x ∙ ap (λ m. postfix.selected ts es m x) (pointee_asked ss table (value_in ss t) ∙ ap pointee_of (value_is ss table t))
  arrow_is None x = refl

  pub arrow_sound : (t : Option ExprType) (x : List ℕ) → JudgedSound ts (members.arrow_judged ss es t x).judged
  arrow_sound (Some t) x = at_sound (pointee_in ss (value_in ss t)) x
  arrow_sound None x = tt

  subscript_is : (m : Option Shape) (t : ExprType) → meant ts (members.subscript_at ss es m t) ≡ postfix.subscript es (option_map (built ts) m) (expr_type ts t)
  subscript_is (Some a) t = or_is ts (asking.is_complete ss es a && asking.is_integer ss t) (Plain a) 46 Whole
  subscript_is None t = refl

  subscript_sound : (m : Option Shape) (t : ExprType) → IfSome m (IsSound ts) → JudgedSound ts (members.subscript_at ss es m t)
  subscript_sound (Some a) t h = or_sound ts (asking.is_complete ss es a && asking.is_integer ss t) (Plain a) 46 Whole h
  subscript_sound None t h = tt

  pub index_is : (x y : Option ExprType) → meant ts (members.index_judged ss es x y) ≡ postfix.index es (option_map (expr_type ts) x) (option_map (expr_type ts) y)
  index_is (Some x) (Some y) =
      subscript_is (pointee_in ss (value_in ss x)) (value_in ss y)
      ∙ ap (λ m. postfix.subscript es m (expr_type ts (value_in ss y))) (pointee_asked ss table (value_in ss x) ∙ ap pointee_of (value_is ss table x))
      ∙ ap (postfix.subscript es (pointee_of (value_type (expr_type ts x)))) (value_is ss table y)
  index_is (Some x) None = refl
  index_is None (Some y) = refl
  index_is None None = refl

  pub index_sound : (x y : Option ExprType) → IfSome x (HasSound ts) → JudgedSound ts (members.index_judged ss es x y)
  index_sound (Some x) (Some y) h = subscript_sound (pointee_in ss (value_in ss x)) (value_in ss y) (pointee_sound ss table (value_in ss x) (value_sound ss table x h))
  index_sound (Some x) None h = tt
  index_sound None (Some y) h = tt
  index_sound None None h = tt

  -- ---- Casts and sizes

  may_be_is : (a : Shape) (t : ExprType) → casts.may_be_cast ss a t ≡ postfix.may_be_cast (built ts a) (expr_type ts t)
  may_be_is (s.Void k) t = refl
  may_be_is (s.Integer k kind) t = refl
  may_be_is (s.Pointer k u) t = refl
  may_be_is (s.Array k u n) t = refl
  may_be_is (s.Function u) t = refl
  may_be_is (s.Takes u f) t = refl
  may_be_is (s.Struct k id) t = refl

  -- a cast to a type, in terms of types
  abbrev cast_by : CTypeTree → Bool → CTypeTree → Judgement
  cast_by u is_null t = or_breaks (is_null || postfix.may_be_cast u t) (types.with_const false u) 49 Whole

  cast_to_is : (a : Shape) (is_null : Bool) (t : ExprType) → meant ts (casts.cast_to ss a is_null t) ≡ cast_by (built ts a) is_null (expr_type ts t)
  cast_to_is a is_null t =
      or_is ts (is_null || casts.may_be_cast ss a t) (Plain (with_const false a)) 49 Whole
      ∙ ap (λ x. or_breaks (is_null || x) (built ts (with_const false a)) 49 Whole) (may_be_is a t)
      ∙ ap (λ x. or_breaks (is_null || postfix.may_be_cast (built ts a) (expr_type ts t)) x 49 Whole) (const_type ts false a)

  pub cast_is : (u : Option TypeId) (is_null : Bool) (t : Option ExprType) → meant ts (casts.cast_judged ss u is_null t) ≡ postfix.cast (option_map (type_at ts) u) is_null (option_map (expr_type ts) t)
  cast_is (Some id) is_null (Some t) =
      cast_to_is (shape_of ss id) is_null (value_in ss t)
      ∙ ap (λ x. cast_by x is_null (expr_type ts (value_in ss t))) (type_is ss table id)
      ∙ ap (cast_by (type_at ts id) is_null) (value_is ss table t)
  cast_is (Some id) is_null None = refl
  cast_is None is_null (Some t) = refl
  cast_is None is_null None = refl

  pub cast_sound : (u : Option TypeId) (is_null : Bool) (t : Option ExprType) → JudgedSound ts (casts.cast_judged ss u is_null t)
  cast_sound (Some id) is_null (Some t) = or_sound ts (is_null || casts.may_be_cast ss (shape_of ss id) (value_in ss t)) (Plain (with_const false (shape_of ss id))) 49 Whole (const_sound ts false (shape_of ss id) (shape_sound ss table id))
  cast_sound (Some id) is_null None = tt
  cast_sound None is_null (Some t) = tt
  cast_sound None is_null None = tt

  pub size_is : (t : Option ExprType) → meant ts (casts.size_judged ss es t) ≡ postfix.size es (option_map (expr_type ts) t)
  size_is (Some (Plain a)) = or_is ts (asking.is_complete ss es a) (numbers.an_integer ULong) 50 Whole
  size_is (Some (Address a)) = refl
  size_is None = refl

  pub size_sound : (t : Option ExprType) → JudgedSound ts (casts.size_judged ss es t)
  size_sound (Some (Plain a)) = or_sound ts (asking.is_complete ss es a) (numbers.an_integer ULong) 50 Whole refl
  size_sound (Some (Address a)) = refl
  size_sound None = tt
