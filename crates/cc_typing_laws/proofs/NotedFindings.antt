-- What is noted of an expression is its offences and its types, as lists.
use Rattle.std.proofs.Common.{◌≡◌, refl, ap, sym, ◌∙◌, List, [], ◌∷◌, ◌++◌, ℕ}
use Rattle.std.specs.Prelude.{Option, Some, None, slice_set}
use Rattle.cc_tree.specs.Trees.{ExprTree, name, integer, character, string, paren, unary, binary, assign, step, choice, comma, call, member, arrow, index, cast, size_expr, size_type, ExprTrees, no_exprs, more_exprs}
use Rattle.cc_tree_notes.specs.declared.note.Counted.{Counted}
use Rattle.cc_symbols.specs.declared.findings.Findings.{Findings}
use Rattle.cc_symbols.specs.declared.offence.Offence.{Offence}
use Rattle.cc_symbols.specs.declared.symbols.Symbols.{Symbols}
use Rattle.cc_symbols.specs.Offences.{lesser}
use Rattle.cc_types.specs.declared.expr_type.ExprType.{ExprType}
use Rattle.cc_judging.specs.declared.calls.Passing.{Passing}
use Rattle.cc_judging.specs.Calls.{called, parameter, pass_one}
use Rattle.cc_typing.specs.Checks.{fit_checked}
use Rattle.cc_typing.specs.Typing.{type_of, noted, all_noted}
use Rattle.cc_typing_laws.specs.Findings.{listed, misfits, offences, all_offences, least_of, Typed, typings, all_typings, types_put}

-- ---- Offences

least_append : (o : Option Offence) (xs ys : List Offence) → least_of o (xs ++ ys) ≡ least_of (least_of o xs) ys
least_append o [] ys = refl
least_append o (x ∷ xs) ys = least_append (lesser o (Some x)) xs ys

least_listed : (o p : Option Offence) → lesser o p ≡ least_of o (listed p)
least_listed o (Some p) = refl
least_listed (Some o) None = refl
least_listed None None = refl

-- what is kept after these offences, and then one node more
module _ (q : Option Offence) where
  after_none : (o : Option Offence) → lesser o q ≡ least_of o (listed q)
  after_none o = least_listed o q

  after_one : (o p : Option Offence) (xs : List Offence) → p ≡ least_of o xs → lesser p q ≡ least_of o (xs ++ listed q)
  after_one o p xs e = after_none p ∙ ap (λ z. least_of z (listed q)) e ∙ sym (least_append o xs (listed q))

  after_two : (o p r : Option Offence) (xs ys : List Offence) → p ≡ least_of o xs → r ≡ least_of p ys → lesser r q ≡ least_of o (xs ++ ys ++ listed q)
  after_two o p r xs ys e f = after_one o r (xs ++ ys) (f ∙ ap (λ z. least_of z ys) e ∙ sym (least_append o xs ys))

  after_three : (o p r t : Option Offence) (xs ys zs : List Offence) → p ≡ least_of o xs → r ≡ least_of p ys → t ≡ least_of r zs → lesser t q ≡ least_of o (xs ++ ys ++ zs ++ listed q)
  after_three o p r t xs ys zs e f g = after_two o r t (xs ++ ys) zs (f ∙ ap (λ z. least_of z ys) e ∙ sym (least_append o xs ys)) g

misfit_kept : (s : Symbols) (target : Option ExprType) (e : ExprTree Counted) (t : Option ExprType) (f : Findings) → (fit_checked s target e t f).least ≡ least_of f.least (misfits s target e t)
misfit_kept s (Some target) e (Some t) f = least_listed f.least _
misfit_kept s (Some target) e None f = refl
misfit_kept s None e (Some t) f = refl
misfit_kept s None e None f = refl

mutual
  pub least_kept : (s : Symbols) (e : ExprTree Counted) (f : Findings) → (noted s e f).least ≡ least_of f.least (offences s e)
  least_kept s (name n x) f = after_none _ f.least
  least_kept s (integer n v k) f = after_none _ f.least
  least_kept s (character n v) f = after_none _ f.least
  least_kept s (string n bs) f = after_none _ f.least
  least_kept s (size_type n t) f = after_none _ f.least
  least_kept s (paren n e) f = after_one _ f.least _ (offences s e) (least_kept s e f)
  least_kept s (unary n op e) f = after_one _ f.least _ (offences s e) (least_kept s e f)
  least_kept s (step n op side e) f = after_one _ f.least _ (offences s e) (least_kept s e f)
  least_kept s (member n e x) f = after_one _ f.least _ (offences s e) (least_kept s e f)
  least_kept s (arrow n e x) f = after_one _ f.least _ (offences s e) (least_kept s e f)
  least_kept s (cast n t e) f = after_one _ f.least _ (offences s e) (least_kept s e f)
  least_kept s (size_expr n e) f = after_one _ f.least _ (offences s e) (least_kept s e f)
  least_kept s (binary n op a b) f = after_two _ f.least _ _ (offences s a) (offences s b) (least_kept s a f) (least_kept s b (noted s a f))
  least_kept s (assign n op a b) f = after_two _ f.least _ _ (offences s a) (offences s b) (least_kept s a f) (least_kept s b (noted s a f))
  least_kept s (comma n a b) f = after_two _ f.least _ _ (offences s a) (offences s b) (least_kept s a f) (least_kept s b (noted s a f))
  least_kept s (index n a b) f = after_two _ f.least _ _ (offences s a) (offences s b) (least_kept s a f) (least_kept s b (noted s a f))
  least_kept s (choice n c a b) f = after_three _ f.least _ _ _ (offences s c) (offences s a) (offences s b) (least_kept s c f) (least_kept s a (noted s c f)) (least_kept s b (noted s a (noted s c f)))
  least_kept s (call n g es) f = after_two _ f.least _ _ (offences s g) (all_offences s (called s.types (type_of s g)) es) (least_kept s g f) (all_least_kept s (called s.types (type_of s g)) es (noted s g f))

  all_least_kept : (s : Symbols) (state : Passing) (es : ExprTrees Counted) (f : Findings) → (all_noted s state es f).least ≡ least_of f.least (all_offences s state es)
  all_least_kept s state no_exprs f = refl
  all_least_kept s state (more_exprs e es) f =
      let target = parameter s.types state in
      let next = pass_one s.types state (type_of s e) in
      all_least_kept s next es (fit_checked s target e (type_of s e) (noted s e f))
      ∙ ap (λ z. least_of z (all_offences s next es)) (misfit_kept s target e (type_of s e) (noted s e f) ∙ ap (λ z. least_of z (misfits s target e (type_of s e))) (least_kept s e f) ∙ sym (least_append f.least (offences s e) (misfits s target e (type_of s e))))
      ∙ sym (least_append f.least (offences s e ++ misfits s target e (type_of s e)) (all_offences s next es))

-- ---- Types

put_append : (ts : List (Option ExprType)) (xs ys : List Typed) → types_put ts (xs ++ ys) ≡ types_put (types_put ts xs) ys
put_append ts [] ys = refl
put_append ts (x ∷ xs) ys = put_append (slice_set ts x.0 x.1) xs ys

-- what the table is after these types are put, and then one more
module _ (n : ℕ) (t : Option ExprType) where
  put_one : (ts us : List (Option ExprType)) (xs : List Typed) → us ≡ types_put ts xs → slice_set us n t ≡ types_put ts (xs ++ (n, t) ∷ [])
  put_one ts us xs e = ap (λ z. slice_set z n t) e ∙ sym (put_append ts xs ((n, t) ∷ []))

  put_two : (ts us vs : List (Option ExprType)) (xs ys : List Typed) → us ≡ types_put ts xs → vs ≡ types_put us ys → slice_set vs n t ≡ types_put ts (xs ++ ys ++ (n, t) ∷ [])
  put_two ts us vs xs ys e f = put_one ts vs (xs ++ ys) (f ∙ ap (λ z. types_put z ys) e ∙ sym (put_append ts xs ys))

  put_three : (ts us vs ws : List (Option ExprType)) (xs ys zs : List Typed) → us ≡ types_put ts xs → vs ≡ types_put us ys → ws ≡ types_put vs zs → slice_set ws n t ≡ types_put ts (xs ++ ys ++ zs ++ (n, t) ∷ [])
  put_three ts us vs ws xs ys zs e f g = put_two ts vs ws (xs ++ ys) zs (f ∙ ap (λ z. types_put z ys) e ∙ sym (put_append ts xs ys)) g

misfit_types : (s : Symbols) (target : Option ExprType) (e : ExprTree Counted) (t : Option ExprType) (f : Findings) → (fit_checked s target e t f).types ≡ f.types
misfit_types s (Some target) e (Some t) f = refl
misfit_types s (Some target) e None f = refl
misfit_types s None e (Some t) f = refl
misfit_types s None e None f = refl

mutual
  pub types_kept : (s : Symbols) (e : ExprTree Counted) (f : Findings) → (noted s e f).types ≡ types_put f.types (typings s e)
  types_kept s (name n x) f = refl
  types_kept s (integer n v k) f = refl
  types_kept s (character n v) f = refl
  types_kept s (string n bs) f = refl
  types_kept s (size_type n t) f = refl
  types_kept s (paren n e) f = put_one _ _ f.types _ (typings s e) (types_kept s e f)
  types_kept s (unary n op e) f = put_one _ _ f.types _ (typings s e) (types_kept s e f)
  types_kept s (step n op side e) f = put_one _ _ f.types _ (typings s e) (types_kept s e f)
  types_kept s (member n e x) f = put_one _ _ f.types _ (typings s e) (types_kept s e f)
  types_kept s (arrow n e x) f = put_one _ _ f.types _ (typings s e) (types_kept s e f)
  types_kept s (cast n t e) f = put_one _ _ f.types _ (typings s e) (types_kept s e f)
  types_kept s (size_expr n e) f = put_one _ _ f.types _ (typings s e) (types_kept s e f)
  types_kept s (binary n op a b) f = put_two _ _ f.types _ _ (typings s a) (typings s b) (types_kept s a f) (types_kept s b (noted s a f))
  types_kept s (assign n op a b) f = put_two _ _ f.types _ _ (typings s a) (typings s b) (types_kept s a f) (types_kept s b (noted s a f))
  types_kept s (comma n a b) f = put_two _ _ f.types _ _ (typings s a) (typings s b) (types_kept s a f) (types_kept s b (noted s a f))
  types_kept s (index n a b) f = put_two _ _ f.types _ _ (typings s a) (typings s b) (types_kept s a f) (types_kept s b (noted s a f))
  types_kept s (choice n c a b) f = put_three _ _ f.types _ _ _ (typings s c) (typings s a) (typings s b) (types_kept s c f) (types_kept s a (noted s c f)) (types_kept s b (noted s a (noted s c f)))
  types_kept s (call n g es) f = put_two _ _ f.types _ _ (typings s g) (all_typings s es) (types_kept s g f) (all_types_kept s (called s.types (type_of s g)) es (noted s g f))

  all_types_kept : (s : Symbols) (state : Passing) (es : ExprTrees Counted) (f : Findings) → (all_noted s state es f).types ≡ types_put f.types (all_typings s es)
  all_types_kept s state no_exprs f = refl
  all_types_kept s state (more_exprs e es) f =
      let target = parameter s.types state in
      let next = pass_one s.types state (type_of s e) in
      all_types_kept s next es (fit_checked s target e (type_of s e) (noted s e f))
      ∙ ap (λ z. types_put z (all_typings s es)) (misfit_types s target e (type_of s e) (noted s e f) ∙ types_kept s e f)
      ∙ sym (put_append f.types (typings s e) (all_typings s es))
