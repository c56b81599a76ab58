-- What is said of an expression by shapes and numbers means what is said of it by types.
use Rattle.std.proofs.Common.{◌≡◌, refl, ap, sym, ◌∙◌, ℕ, Bool, true, false, ◌&&◌, not, nat_lt, List, [], length, arith}
use Rattle.std.specs.Prelude.{Option, Some, None, IfSome, option_map}
use Rattle.std.proofs.lemmas.Bool.{ltb-false}
use Rattle.cc_arith.specs.declared.kind.IntKind.TheVariants.{Char}
use Rattle.cc_symbols.specs.declared.declared.Declared.{Declared}
use Rattle.cc_symbols.specs.declared.declared.Form.{Form}
use Rattle.cc_symbols.specs.declared.declared.Form.TheVariants as form
use Rattle.cc_symbols.specs.declared.symbols.Symbols.{Symbols}
use Rattle.cc_tree.specs.declared.operator.UnaryOp.{UnaryOp}
use Rattle.cc_tree.specs.declared.operator.UnaryOp.TheVariants as u
use Rattle.cc_tree.specs.Trees.{ExprTree, name, integer, character, string, paren, unary, binary, assign, step, choice, comma, call, member, arrow, index, cast, size_expr, size_type, ExprTrees, no_exprs, more_exprs}
use Rattle.cc_tree_notes.specs.declared.note.Counted.{Counted}
use Rattle.cc_tree_walks.specs.Notes.{type_note}
use Rattle.cc_types.specs.CTypes.{CTypeTree, void, integer_of, array_of, has_const}
use Rattle.cc_types.specs.Asked.{value_in, pointee_in}
use Rattle.cc_types.specs.Structs.{member_named}
use Rattle.cc_types.specs.declared.structs.StructEntry.{StructEntry}
use Rattle.cc_types.specs.declared.shape.Shape.{Shape}
use Rattle.cc_types.specs.declared.shape.Shape.TheVariants as s
use Rattle.cc_types.specs.declared.shape.TypeId.{TypeId}
use Rattle.cc_types.specs.declared.expr_type.ExprType.{ExprType}
use Rattle.cc_types.specs.declared.expr_type.ExprType.TheVariants.{Plain, Address}
use Rattle.cc_types.specs.Shapes.{built, type_at, is_bare}
use Rattle.cc_types.specs.ExprTypes.{expr_type}
use Rattle.cc_types.specs.Interning.{numbered}
use Rattle.cc_types.proofs.GrowingTables.{length_from}
use Rattle.cc_types.proofs.MadeShapes.{type_is, void_past}
use Rattle.cc_judging.specs.declared.judged.Part.{Part}
use Rattle.cc_judging.specs.declared.judged.Part.TheVariants.{Whole, First}
use Rattle.cc_judging.specs.declared.calls.Passing.{Passing}
use Rattle.cc_judging.specs.Judging.{kind_of, or_breaks}
use Rattle.cc_judging.specs.Leaves as leaves
use Rattle.cc_judging.specs.Prefixes as prefixes
use Rattle.cc_judging.specs.Calls as calls
use Rattle.cc_judging.specs.Members as members
use Rattle.cc_typing.specs.LookUps.{declaration_at, kind_at, type_of_kind}
use Rattle.cc_typing.specs.Forms.{is_null, is_place, is_dereference, makes_null}
use Rattle.cc_typing.specs.Typing as numbers
use Rattle.cc_typing.specs.Typing.{string_length, type_of}
use Rattle.cc_typing_laws.specs.Judgements.{typed, type_part, meant, JudgedSound, IsPlain}
use Rattle.cc_typing_laws.specs.Operators as operators
use Rattle.cc_typing_laws.specs.Postfix as postfix
use Rattle.cc_typing_laws.specs.Typing.{all_types, judged, passed}
use Rattle.cc_typing_laws.specs.Laws.{IsReady}
use Rattle.cc_typing_laws.proofs.Values.{contra, part_is}
use Rattle.cc_typing_laws.proofs.OperatorsMean as o
use Rattle.cc_typing_laws.proofs.PostfixMean as p
use Rattle.cc_typing_laws.proofs.PostfixMean.{passing}

-- ---- An lvalue's type is no address alone

or_plain : (x : Bool) (t : ExprType) (r : ℕ) (q : Part) → IsPlain t → IfSome (kind_of (or_breaks x t r q)) IsPlain
or_plain true t r q h = h
or_plain false t r q h = tt

kind_plain : (ss : List Shape) (t : Option TypeId) → IfSome (kind_of (leaves.of_kind ss t)) IsPlain
kind_plain ss (Some id) = refl
kind_plain ss None = tt

named_plain : (ss : List Shape) (f : Form) (t : Option TypeId) → IfSome (kind_of (leaves.named_judged ss f t)) IsPlain
named_plain ss (form.Constant v) t = refl
named_plain ss (form.Object life) t = kind_plain ss t
named_plain ss form.Function t = kind_plain ss t
named_plain ss form.Typedef t = tt

name_plain : (ss : List Shape) (d : Option Declared) → IfSome (kind_of (leaves.name_judged ss d)) IsPlain
name_plain ss (Some d) = named_plain ss d.form d.kind
name_plain ss None = tt

paren_plain : (t : Option ExprType) → IfSome t IsPlain → IfSome (kind_of (leaves.paren_judged t)) IsPlain
paren_plain (Some t) h = h
paren_plain None h = tt

module _ (ss : List Shape) (es : List StructEntry) where
  pointed_plain : (m : Option Shape) → IfSome (kind_of (prefixes.pointed_at_some ss es m)) IsPlain
  pointed_plain (Some a) = or_plain _ (Plain a) 41 First refl
  pointed_plain None = tt

  deref_plain : (place : Bool) (t : Option ExprType) → IfSome (kind_of (prefixes.unary_judged ss es u.Deref place t)) IsPlain
  deref_plain place (Some t) = pointed_plain (pointee_in ss (value_in ss t))
  deref_plain place None = tt

  found_plain : (k : Bool) (m : Option (ℕ × TypeId)) → IfSome (kind_of (members.found ss k m).judged) IsPlain
  found_plain k (Some m) = refl
  found_plain k None = tt

  selected_plain : (a : Shape) (x : List ℕ) → IfSome (kind_of (members.selected ss es a x).judged) IsPlain
  selected_plain (s.Struct k id) x = found_plain k (member_named es id x)
  selected_plain a x = tt

  member_plain : (t : Option ExprType) (x : List ℕ) → IfSome (kind_of (members.member_judged ss es t x).judged) IsPlain
  member_plain (Some (Plain a)) x = selected_plain a x
  member_plain (Some (Address a)) x = tt
  member_plain None x = tt

  at_plain : (m : Option Shape) (x : List ℕ) → IfSome (kind_of (members.selected_at ss es m x).judged) IsPlain
  at_plain (Some a) x = selected_plain a x
  at_plain None x = tt

  arrow_plain : (t : Option ExprType) (x : List ℕ) → IfSome (kind_of (members.arrow_judged ss es t x).judged) IsPlain
  arrow_plain (Some t) x = at_plain (pointee_in ss (value_in ss t)) x
  arrow_plain None x = tt

  subscript_plain : (m : Option Shape) (t : ExprType) → IfSome (kind_of (members.subscript_at ss es m t)) IsPlain
  subscript_plain (Some a) t = or_plain _ (Plain a) 46 Whole refl
  subscript_plain None t = tt

  index_plain : (x y : Option ExprType) → IfSome (kind_of (members.index_judged ss es x y)) IsPlain
  index_plain (Some x) (Some y) = subscript_plain (pointee_in ss (value_in ss x)) (value_in ss y)
  index_plain (Some x) None = tt
  index_plain None (Some y) = tt
  index_plain None None = tt

unary_plain : (ss : List Shape) (es : List StructEntry) (op : UnaryOp) (place : Bool) (t : Option ExprType) → is_dereference op ≡ true → IfSome (kind_of (prefixes.unary_judged ss es op place t)) IsPlain
unary_plain ss es u.Deref place t h = deref_plain ss es place t
unary_plain ss es u.Address place t h = contra h
unary_plain ss es (u.Int op) place t h = contra h

place_plain : (s : Symbols) (e : ExprTree Counted) → is_place s e ≡ true → IfSome (type_of s e) IsPlain
place_plain s (name n x) h = name_plain s.types (declaration_at s n.number)
place_plain s (string n bs) h = refl
place_plain s (paren n e) h = paren_plain (type_of s e) (place_plain s e h)
place_plain s (unary n op e) h = unary_plain s.types s.structs op (is_place s e) (type_of s e) h
place_plain s (member n e x) h = member_plain s.types s.structs (type_of s e) x
place_plain s (arrow n e x) h = arrow_plain s.types s.structs (type_of s e) x
place_plain s (index n a i) h = index_plain s.types s.structs (type_of s a) (type_of s i)
place_plain s e h = contra h

-- ---- `char`

char_is : (s : Symbols) → IsReady s → type_at (all_types s) (numbered 0) ≡ integer_of false Char
char_is s r = sym (type_is s.types r.table (numbered 0)) ∙ ap (built (all_types s)) r.char

char_bare : (s : Symbols) → IsReady s → is_bare (all_types s) (numbered 0) ≡ true
char_bare s r = by (nat_lt 0 (length (all_types s))) refl
  where
    by : (x : Bool) → nat_lt 0 (length (all_types s)) ≡ x → (x && not (has_const (type_at (all_types s) (numbered 0)))) ≡ true
    by true e = ap (λ t. not (has_const t)) (char_is s r)
    by false e = let f : void false ≡ integer_of false Char = void_past s.types r.table (numbered 0) (omega (arith, ltb-false _ _ e, length_from [] s.types)) ∙ char_is s r in cc

-- ---- All expressions

target_is : (s : Symbols) → IsReady s → (m : Option TypeId) → option_map (expr_type (all_types s)) (type_of_kind s.types m) ≡ option_map (type_at (all_types s)) m
target_is s r (Some id) = ap Some (type_is s.types r.table id)
target_is s r None = refl

-- the type of a part of which this is known
part : (s : Symbols) (e : ExprTree Counted) → meant (all_types s) (numbers.judged s e) ≡ judged s e → option_map (expr_type (all_types s)) (type_of s e) ≡ type_part (judged s e)
part s e h = part_is (all_types s) (numbers.judged s e) ∙ ap type_part h

mutual
  pub means : (s : Symbols) → IsReady s → (e : ExprTree Counted) → meant (all_types s) (numbers.judged s e) ≡ judged s e
  means s r (name n x) = p.name_is s.types r.table s.structs (declaration_at s n.number)
  means s r (integer n v k) = refl
  means s r (character n v) = refl
  means s r (string n bs) = ap (λ t. typed (array_of false t (Some (string_length bs)))) (char_is s r)
  means s r (paren n e) = p.paren_is s.types r.table s.structs (type_of s e) ∙ ap postfix.of_type (part s e (means s r e))
  means s r (unary n op e) = o.unary_is s.types r.table s.structs op (is_place s e) (type_of s e) (place_plain s e) ∙ ap (operators.unary s.structs op (is_place s e)) (part s e (means s r e))
  means s r (binary n op a b) =
      o.binary_is s.types r.table s.structs op (type_of s a) (is_null s a) (type_of s b) (is_null s b) (sound s r a) (sound s r b)
      ∙ ap (λ x. operators.binary op x (is_null s a) (option_map (expr_type (all_types s)) (type_of s b)) (is_null s b)) (part s a (means s r a))
      ∙ ap (λ x. operators.binary op (type_part (judged s a)) (is_null s a) x (is_null s b)) (part s b (means s r b))
  means s r (assign n op a b) =
      o.assign_is s.types r.table s.structs op (is_place s a) (type_of s a) (type_of s b) (is_null s b) (place_plain s a) (sound s r a) (sound s r b)
      ∙ ap (λ x. operators.assign s.structs op (is_place s a) x (option_map (expr_type (all_types s)) (type_of s b)) (is_null s b)) (part s a (means s r a))
      ∙ ap (λ x. operators.assign s.structs op (is_place s a) (type_part (judged s a)) x (is_null s b)) (part s b (means s r b))
  means s r (step n op side e) = o.step_is s.types r.table s.structs (is_place s e) (type_of s e) (place_plain s e) ∙ ap (operators.step (is_place s e)) (part s e (means s r e))
  means s r (choice n c a b) =
      o.choice_is s.types r.table s.structs (type_of s c) (type_of s a) (is_null s a) (type_of s b) (is_null s b) (sound s r a) (sound s r b)
      ∙ ap (λ x. operators.choice x (option_map (expr_type (all_types s)) (type_of s a)) (is_null s a) (option_map (expr_type (all_types s)) (type_of s b)) (is_null s b)) (part s c (means s r c))
      ∙ ap (λ x. operators.choice (type_part (judged s c)) x (is_null s a) (option_map (expr_type (all_types s)) (type_of s b)) (is_null s b)) (part s a (means s r a))
      ∙ ap (λ x. operators.choice (type_part (judged s c)) (type_part (judged s a)) (is_null s a) x (is_null s b)) (part s b (means s r b))
  means s r (comma n a b) =
      o.comma_is s.types r.table s.structs (type_of s a) (type_of s b)
      ∙ ap (λ x. operators.comma x (option_map (expr_type (all_types s)) (type_of s b))) (part s a (means s r a))
      ∙ ap (operators.comma (type_part (judged s a))) (part s b (means s r b))
  means s r (call n f es) =
      p.call_is s.types r.table s.structs (numbers.passed s (calls.called s.types (type_of s f)) es)
      ∙ ap postfix.call (passed_means s r (calls.called s.types (type_of s f)) es ∙ ap (λ x. passed s x es) (p.called_is s.types r.table s.structs (type_of s f) ∙ ap postfix.called (part s f (means s r f))))
  means s r (member n e x) = ap (λ y. y.0) (p.member_is s.types r.table s.structs (type_of s e) x) ∙ ap (λ t. (postfix.member (all_types s) s.structs t x).0) (part s e (means s r e))
  means s r (arrow n e x) = ap (λ y. y.0) (p.arrow_is s.types r.table s.structs (type_of s e) x) ∙ ap (λ t. (postfix.arrow (all_types s) s.structs t x).0) (part s e (means s r e))
  means s r (index n a i) =
      p.index_is s.types r.table s.structs (type_of s a) (type_of s i)
      ∙ ap (λ x. postfix.index s.structs x (option_map (expr_type (all_types s)) (type_of s i))) (part s a (means s r a))
      ∙ ap (postfix.index s.structs (type_part (judged s a))) (part s i (means s r i))
  means s r (cast n t e) =
      p.cast_is s.types r.table s.structs (kind_at s (type_note t).number) (makes_null s (type_note t).number e) (type_of s e)
      ∙ ap (postfix.cast (option_map (type_at (all_types s)) (kind_at s (type_note t).number)) (makes_null s (type_note t).number e)) (part s e (means s r e))
  means s r (size_expr n e) = p.size_is s.types r.table s.structs (type_of s e) ∙ ap (postfix.size s.structs) (part s e (means s r e))
  means s r (size_type n t) = p.size_is s.types r.table s.structs (type_of_kind s.types (kind_at s (type_note t).number)) ∙ ap (postfix.size s.structs) (target_is s r (kind_at s (type_note t).number))

  passed_means : (s : Symbols) → IsReady s → (state : Passing) (es : ExprTrees Counted) → passing (all_types s) (numbers.passed s state es) ≡ passed s (passing (all_types s) state) es
  passed_means s r state no_exprs = refl
  passed_means s r state (more_exprs e es) =
      passed_means s r (calls.pass_one s.types state (type_of s e)) es
      ∙ ap (λ x. passed s x es) (p.pass_is s.types r.table s.structs state (type_of s e) ∙ ap (postfix.pass_one (passing (all_types s) state)) (part s e (means s r e)))

  pub sound : (s : Symbols) → IsReady s → (e : ExprTree Counted) → JudgedSound (all_types s) (numbers.judged s e)
  sound s r (name n x) = p.name_sound s.types r.table s.structs (declaration_at s n.number)
  sound s r (integer n v k) = refl
  sound s r (character n v) = refl
  sound s r (string n bs) = char_bare s r
  sound s r (paren n e) = p.paren_sound s.types r.table s.structs (type_of s e) (sound s r e)
  sound s r (unary n op e) = o.unary_sound s.types r.table s.structs op (is_place s e) (type_of s e) (sound s r e)
  sound s r (binary n op a b) = o.binary_sound s.types r.table s.structs op (type_of s a) (is_null s a) (type_of s b) (is_null s b) (sound s r a) (sound s r b)
  sound s r (assign n op a b) = o.assign_sound s.types r.table s.structs op (is_place s a) (type_of s a) (type_of s b) (is_null s b) (sound s r a)
  sound s r (step n op side e) = o.step_sound s.types r.table s.structs (is_place s e) (type_of s e) (sound s r e)
  sound s r (choice n c a b) = o.choice_sound s.types r.table s.structs (type_of s c) (type_of s a) (is_null s a) (type_of s b) (is_null s b) (sound s r a) (sound s r b)
  sound s r (comma n a b) = o.comma_sound s.types r.table s.structs (type_of s a) (type_of s b) (sound s r b)
  sound s r (call n f es) = p.call_sound s.types r.table s.structs (numbers.passed s (calls.called s.types (type_of s f)) es)
  sound s r (member n e x) = p.member_sound s.types r.table s.structs (type_of s e) x
  sound s r (arrow n e x) = p.arrow_sound s.types r.table s.structs (type_of s e) x
  sound s r (index n a i) = p.index_sound s.types r.table s.structs (type_of s a) (type_of s i) (sound s r a)
  sound s r (cast n t e) = p.cast_sound s.types r.table s.structs (kind_at s (type_note t).number) (makes_null s (type_note t).number e) (type_of s e)
  sound s r (size_expr n e) = p.size_sound s.types r.table s.structs (type_of s e)
  sound s r (size_type n t) = p.size_sound s.types r.table s.structs (type_of_kind s.types (kind_at s (type_note t).number))
