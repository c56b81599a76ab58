-- A program has at most one table.
use Rattle.std.proofs.Common.{◌≡◌, ◌⊎◌, ◌+◌, ◌++◌, ℕ, zero, suc, List, [], ◌∷◌, inl, inr, ⊎_elim, refl, sym, ap, ◌∙◌, arith, subst}
use Rattle.std.specs.Prelude.{Contains, slice_get}
use Rattle.std.proofs.lemmas.Option.{same_Some}
use Rattle.std.proofs.lemmas.List.Elements.{All-contains}
use Rattle.cc_first_runs.specs.Program.{Name, Function, Program, IsSite}
use Rattle.cc_first_runs.specs.Couplings.{Row, IsBefore, IsOrdered}
use Rattle.cc_first.specs.Project.{Project}
use Rattle.cc_first.specs.Listing.{IsListing, AreLines, header, line}

first_or_later : (x : Row) (xs : List Row) (y : Row) → Contains (x ∷ xs) y → (x ≡ y) ⊎ Contains xs y
first_or_later x xs y (zero, lt, e) = inl e
first_or_later x xs y (suc k, lt, e) = inr (k, omega (arith, lt), e)

later : (x : Row) (xs : List Row) (y : Row) → Contains xs y → Contains (x ∷ xs) y
later x xs y (k, lt, e) = (suc k, omega (arith, lt), e)

first : (x : Row) (xs : List Row) → Contains (x ∷ xs) x
first x xs = (0, omega arith, refl)

not_before_itself : (x : Row) → IsBefore x x → ⊥
not_before_itself x (inl h) = omega (arith, h)
not_before_itself x (inr h) = omega (arith, h.1)

not_both_before : (x y : Row) → IsBefore x y → IsBefore y x → ⊥
not_both_before x y (inl h) (inl k) = omega (arith, h, k)
not_both_before x y (inl h) (inr k) = omega (arith, h, k.0)
not_both_before x y (inr h) (inl k) = omega (arith, h.0, k)
not_both_before x y (inr h) (inr k) = omega (arith, h.1, k.1)

-- two lists in order with the same members are one
same_rows : (xs ys : List Row) → IsOrdered xs → IsOrdered ys → ((r : Row) → Contains xs r → Contains ys r) → ((r : Row) → Contains ys r → Contains xs r) → xs ≡ ys
same_rows [] [] o p f g = refl
same_rows [] (y ∷ ys) o p f g = absurd (let h = (g y (first y ys)).1 in omega (arith, h))
same_rows (x ∷ xs) [] o p f g = absurd (let h = (f x (first x xs)).1 in omega (arith, h))
same_rows (x ∷ xs) (y ∷ ys) o p f g =
    let heads : x ≡ y = ⊎_elim (λ e. sym e) (λ x_in. ⊎_elim (λ e. e) (λ y_in. absurd (not_both_before x y (All-contains (IsBefore x) xs y o.0 y_in) (All-contains (IsBefore y) ys x p.0 x_in)))
    (first_or_later x xs y (g y (first y ys)))) (first_or_later y ys x (f x (first x xs))) in
    let f' : (r : Row) → Contains xs r → Contains ys r = λ r c. ⊎_elim (λ e. absurd (not_before_itself x (subst (IsBefore x) (sym (heads ∙ e)) (All-contains (IsBefore x) xs r o.0 c)))) (λ h. h) (first_or_later y ys r (f r (later x xs r c))) in
    let g' : (r : Row) → Contains ys r → Contains xs r = λ r c. ⊎_elim (λ e. absurd (not_before_itself y (subst (IsBefore y) (sym (sym heads ∙ e)) (All-contains (IsBefore y) ys r p.0 c)))) (λ h. h) (first_or_later x xs r (g r (later y ys r c))) in
    let tails : xs ≡ ys = same_rows xs ys o.1 p.1 f' g' in
    ap (λ r. r ∷ xs) heads ∙ ap (λ rs. y ∷ rs) tails

same_site_text : (project : Project) (program : Program) (number f i g : ℕ) (s t : IsSite program f i g)
    → line project number s.caller s.call s.callee ≡ line project number t.caller t.call t.callee
same_site_text project program number f i g s t =
    let callers : s.caller ≡ t.caller = same_Some _ _ (sym s.is_caller ∙ t.is_caller) in
    let callees : s.callee ≡ t.callee = same_Some _ _ (sym s.is_callee ∙ t.is_callee) in
    let calls : s.call ≡ t.call = same_Some _ _ (sym s.is_call ∙ ap (λ (c : Function). slice_get c.calls i) callers ∙ t.is_call) in
    ap (λ (c : Function). line project number c s.call s.callee) callers ∙ ap (λ (c : Name). line project number t.caller c s.callee) calls ∙ ap (λ (c : Function). line project number t.caller t.call c) callees

same_lines : (project : Project) (program : Program) (number : ℕ) (rows : List Row) (a b : List ℕ) → AreLines project program number rows a → AreLines project program number rows b → a ≡ b
same_lines project program number [] a b p q = p ∙ sym q
same_lines project program number (row ∷ rows) a b p q =
    let rest : p.1 ≡ q.1 = same_lines project program (number + 1) rows p.1 q.1 p.3 q.3 in
    p.2 ∙ ap (λ l. l ++ p.1) (same_site_text project program number row.f row.i row.g p.0 q.0) ∙ ap (λ l. line project number q.0.caller q.0.call q.0.callee ++ l) rest ∙ sym q.2

-- a program has at most one table
pub one_listing : (project : Project) (program : Program) (entry : ℕ) (a b : List ℕ) → IsListing project program entry a → IsListing project program entry b → a ≡ b
one_listing project program entry a b p q =
    let rows : p.0 ≡ q.0 = same_rows p.0 q.0 p.1.ordered q.1.ordered (λ r c. q.1.complete r (p.1.sound r c)) (λ r c. p.1.complete r (q.1.sound r c)) in
    let lines : p.2 ≡ q.2 = same_lines project program 1 q.0 p.2 q.2 (subst (λ rs. AreLines project program 1 rs p.2) rows p.3) q.3 in
    p.4 ∙ ap (λ l. header ++ l) lines ∙ sym q.4
