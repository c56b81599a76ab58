-- Bytes spell the parts of at most one file of the first form.
use Rattle.std.proofs.Common.{◌≡◌, ℕ, true, false, List, [], ◌∷◌, ◌++◌, refl, sym, ap, subst, ◌∙◌}
use Rattle.std.specs.Prelude.{codes}
use Rattle.cc_base.specs.declared.place.Spot.{Spot}
use Rattle.cc_base.specs.Spots.{start}
use Rattle.cc_first_runs.specs.Program.{Name}
use Rattle.cc_first.specs.Names.{is_free_name}
use Rattle.cc_first.specs.Cut.{Spelled}
use Rattle.cc_first.specs.Unit.{Part, Declaration, Definition, unit_tokens}
use Rattle.cc_first.specs.UnitReads.{AreFree, AreFreeParts, body_tokens}
use Rattle.cc_first_list.specs.Laws.{OneUnit}
use Rattle.cc_first_list.proofs.OneCut.{Agree, cuts_agree}
use Rattle.cc_first.proofs.UnitJoin.{form_unit, unit_free}

same_name : (a b : Name) → a.text ≡ b.text → a.spot ≡ b.spot → a ≡ b
same_name a b p q =
    let f : List ℕ → Name = λ (t : List ℕ). record { text = t; spot = a.spot } in
    let g : Spot → Name = λ (s : Spot). record { text = b.text; spot = s } in
    ap f p ∙ ap g q

brace_not_free : (text : List ℕ) → text ≡ codes "}" → is_free_name text ≡ true → ⊥
brace_not_free text e f =
    let g : is_free_name (codes "}") ≡ true = subst (λ (w : List ℕ). is_free_name w ≡ true) e f in
    let no : false ≡ true = g in
    cc

marks_apart : codes ";" ≡ codes "{" → ⊥
marks_apart e = cc

-- bodies that agree call the same names
same_calls : (xs ys : List Name) (ts us : List Spelled) → AreFree xs → AreFree ys → Agree (body_tokens xs ++ ts) (body_tokens ys ++ us) → (xs ≡ ys) × Agree ts us
same_calls [] [] ts us f g a = (refl, a.2)
same_calls [] (y ∷ ys) ts us f g a = absurd (brace_not_free y.text (sym a.0) g.0)
same_calls (x ∷ xs) [] ts us f g a = absurd (brace_not_free x.text a.0 f.0)
same_calls (x ∷ xs) (y ∷ ys) ts us f g a =
    let r = same_calls xs ys ts us f.1 g.1 a.2.2.2.2 in
    (ap (λ (n : Name). n ∷ xs) (same_name x y a.0 a.1) ∙ ap (λ (ns : List Name). y ∷ ns) r.0, r.1)

-- files that agree have the same parts
same_parts : (p q : List Part) → AreFreeParts p → AreFreeParts q → Agree (unit_tokens p) (unit_tokens q) → p ≡ q
same_parts [] [] f g a = refl
same_parts [] (Declaration n ∷ q) f g a = absurd a
same_parts [] (Definition n ys ∷ q) f g a = absurd a
same_parts (Declaration m ∷ p) [] f g a = absurd a
same_parts (Definition m xs ∷ p) [] f g a = absurd a
same_parts (Declaration m ∷ p) (Declaration n ∷ q) f g a =
    ap (λ (x : Name). Declaration x ∷ p) (same_name m n a.2.0 a.2.1)
    ∙ ap (λ (ps : List Part). Declaration n ∷ ps) (same_parts p q f.1 g.1 a.2.2.2.2.2.2)
same_parts (Declaration m ∷ p) (Definition n ys ∷ q) f g a = absurd (marks_apart a.2.2.2.2.2.0)
same_parts (Definition m xs ∷ p) (Declaration n ∷ q) f g a = absurd (marks_apart (sym a.2.2.2.2.2.0))
same_parts (Definition m xs ∷ p) (Definition n ys ∷ q) f g a =
    let r = same_calls xs ys (unit_tokens p) (unit_tokens q) f.0.1 g.0.1 a.2.2.2.2.2.2 in
    ap (λ (x : Name). Definition x xs ∷ p) (same_name m n a.2.0 a.2.1)
    ∙ ap (λ (ns : List Name). Definition n ns ∷ p) r.0
    ∙ ap (λ (ps : List Part). Definition n ys ∷ ps) (same_parts p q f.1 g.1 r.1)

pub one_unit : OneUnit
one_unit bytes p q u v =
    let f = unit_free bytes p u in
    let g = unit_free bytes q v in
    same_parts p q f g (cuts_agree (unit_tokens p) (unit_tokens q) start bytes (form_unit p f) (form_unit q g) u.spelled v.spelled)
