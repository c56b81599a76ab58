-- The edges that the code makes.
use Rattle.std.proofs.Common.{◌≡◌, ◌≢◌, ◌⊎◌, ℕ, ◌+◌, ◌*◌, ◌<◌, ◌≤◌, inl, inr, ⊎_elim, List, [], ◌∷◌, ◌++◌, length, map, take, Some, Bool, true, false, cond, not, refl, sym, ap, ◌∙◌, subst, arith, Contains, slice_get, append-nil, replicate}
use Rattle.std.specs.Prelude.{◌↔◌, slice_set}
use Rattle.std.proofs.lemmas.Bool.{cases_eq, cases_Bool}
use Rattle.std.proofs.lemmas.List.{take_all}
use Rattle.std.proofs.lemmas.List.Elements.{Contains-push, Contains-push_cases, Contains-append_left}
use Rattle.std.proofs.lemmas.Option.{slice_get_within, same_Some}
use Rattle.cc_base.specs.declared.reach.Edge.{Edge}
use Rattle.cc_base.specs.Edges.{IsMarked}
use Rattle.cc_base.proofs.Marks.{IsMarked-replicate}
use Rattle.cc_base.proofs.Lists.{Contains-nil, slice_get-set_same, slice_get-set_other}
use Rattle.cc_first.specs.Numbers.{before_of, is_last_call, IsEdgeOf, IsThrough, HasCall}
use Rattle.cc_first.specs.declared.program.Call.{Call}

-- the edge from the caller to the called function
abbrev pub call_edge : Call → Edge
call_edge call = record { from = call.caller; to = call.callee }

pub call_edges_whole : (calls items : List Call) (passed edges : List Edge) (i : ℕ) → items ≡ calls → passed ≡ edges → length items ≤ i → edges ≡ map call_edge (take i calls) → passed ≡ map call_edge calls
call_edges_whole calls items passed edges i same handed end known =
    handed ∙ known ∙ ap (map call_edge) (take_all i calls (subst (λ (cs : List Call). length cs ≤ i) same end))

-- what is in a list after a push that may be left out
if_cases : (b : Bool) (xs : List Edge) (x y : Edge) → Contains (xs ++ cond b (x ∷ []) []) y → Contains xs y ⊎ ((b ≡ true) × (y ≡ x))
if_cases true xs x y has = ⊎_elim inl (λ e. inr (refl, sym e)) (Contains-push_cases xs x y has)
if_cases false xs x y has = inl (subst (λ l. Contains l y) (append-nil xs) has)

if_kept : (b : Bool) (xs : List Edge) (x y : Edge) → Contains xs y → Contains (xs ++ cond b (x ∷ []) []) y
if_kept b xs x y has = Contains-append_left xs (cond b (x ∷ []) []) y has

if_new : (b : Bool) (xs : List Edge) (x y : Edge) → b ≡ true → y ≡ x → Contains (xs ++ cond b (x ∷ []) []) y
if_new true xs x y e is = subst (Contains (xs ++ x ∷ [])) (sym is) (Contains-push xs x)
if_new false xs x y e is = absurd (let h = e in cc)

-- the edges of a call are added
pub edges_added : (functions : ℕ) (calls : List Call) (live : List Bool) (k : ℕ) (call : Call) (old one two new : List Edge) (last wanted : Bool) → slice_get calls k ≡ Some call
    → one ≡ old ++ record { from = before_of functions calls k; to = call.callee } ∷ []
    → last ≡ is_last_call calls k → two ≡ one ++ cond last (record { from = 2 * functions + k; to = functions + call.caller } ∷ []) []
    → slice_get live call.caller ≡ Some wanted → new ≡ two ++ cond wanted (record { from = functions + call.callee; to = 2 * functions + k } ∷ []) []
    → (edge : Edge) → Contains new edge ↔ (Contains old edge ⊎ IsEdgeOf functions calls live k edge)
edges_added functions calls live k call old one two new last wanted at one_is last_is two_is wanted_is new_is edge = (forth, back)
  where
    forth : Contains new edge → Contains old edge ⊎ IsEdgeOf functions calls live k edge
    forth has = ⊎_elim
        (λ in_two. ⊎_elim
        (λ in_one. ⊎_elim inl (λ e. inr (call, at, inl (sym e))) (Contains-push_cases old (record { from = before_of functions calls k; to = call.callee }) edge (subst (λ l. Contains l edge) one_is in_one)))
        (λ new_one. inr (call, at, inr (inl (sym last_is ∙ new_one.0, new_one.1))))
        (if_cases last one (record { from = 2 * functions + k; to = functions + call.caller }) edge (subst (λ l. Contains l edge) two_is in_two)))
        (λ new_one. inr (call, at, inr (inr (wanted_is ∙ ap Some new_one.0, new_one.1))))
        (if_cases wanted two (record { from = functions + call.callee; to = 2 * functions + k }) edge (subst (λ l. Contains l edge) new_is has))

    from_two : Contains two edge → Contains new edge
    from_two has = subst (λ l. Contains l edge) (sym new_is) (if_kept wanted two (record { from = functions + call.callee; to = 2 * functions + k }) edge has)

    from_one : Contains one edge → Contains new edge
    from_one has = from_two (subst (λ l. Contains l edge) (sym two_is) (if_kept last one (record { from = 2 * functions + k; to = functions + call.caller }) edge has))

    of_call : (c : Call) → c ≡ call → (edge ≡ record { from = before_of functions calls k; to = c.callee })
        ⊎ (((is_last_call calls k ≡ true) × (edge ≡ record { from = 2 * functions + k; to = functions + c.caller }))
        ⊎ (IsMarked live c.caller × (edge ≡ record { from = functions + c.callee; to = 2 * functions + k }))) → Contains new edge
    of_call c same cases = ⊎_elim
        (λ e. from_one (subst (λ l. Contains l edge) (sym one_is) (subst (Contains (old ++ record { from = before_of functions calls k; to = call.callee } ∷ [])) (sym (e ∙ ap (λ (d : Call). record { from = before_of functions calls k; to = d.callee }) same)) (Contains-push old (record { from = before_of functions calls k; to = call.callee })))))
        (λ others. ⊎_elim
        (λ p. from_two (subst (λ l. Contains l edge) (sym two_is) (if_new last one (record { from = 2 * functions + k; to = functions + call.caller }) edge (last_is ∙ p.0) (p.1 ∙ ap (λ (d : Call). record { from = 2 * functions + k; to = functions + d.caller }) same))))
        (λ p. subst (λ l. Contains l edge) (sym new_is) (if_new wanted two (record { from = functions + call.callee; to = 2 * functions + k }) edge
        (same_Some wanted true (sym wanted_is ∙ ap (λ (d : Call). slice_get live d.caller) (sym same) ∙ p.0))
        (p.1 ∙ ap (λ (d : Call). record { from = functions + d.callee; to = 2 * functions + k }) same)))
        others)
        cases

    back : Contains old edge ⊎ IsEdgeOf functions calls live k edge → Contains new edge
    back cases = ⊎_elim
        (λ has. from_one (subst (λ l. Contains l edge) (sym one_is) (Contains-append_left old (record { from = before_of functions calls k; to = call.callee } ∷ []) edge has)))
        (λ own. of_call own.0 (same_Some own.0 call (sym own.1 ∙ at)) own.2)
        cases

-- edges of the first calls, and of one more
abbrev pub OfCalls : ℕ → List Call → List Bool → ℕ → Edge → Type 0
OfCalls functions calls live n edge = (k : ℕ) × (k < n) × IsEdgeOf functions calls live k edge

pub calls_none : (functions : ℕ) (calls : List Call) (live : List Bool) (edges : List Edge) → edges ≡ [] → (edge : Edge) → Contains edges edge ↔ OfCalls functions calls live 0 edge
calls_none functions calls live edges empty edge = (λ has. absurd (Contains-nil edge (subst (λ l. Contains l edge) empty has)), λ of. absurd (let lt = of.1 in omega arith))

pub calls_more : (functions : ℕ) (calls : List Call) (live : List Bool) (n : ℕ) (old new : List Edge) → ((edge : Edge) → Contains old edge ↔ OfCalls functions calls live n edge) → ((edge : Edge) → Contains new edge ↔ (Contains old edge ⊎ IsEdgeOf functions calls live n edge)) → (edge : Edge) → Contains new edge ↔ OfCalls functions calls live (n + 1) edge
calls_more functions calls live n old new known added edge = (
  λ has. ⊎_elim
      (λ in_old. (let of = (known edge).0 in_old in let lt = of.1 in (of.0, omega arith, of.2)))
      (λ own. (n, omega arith, own))
      ((added edge).0 has),
  λ of. (added edge).1 (⊎_elim
      (λ same. inr (subst (λ k. IsEdgeOf functions calls live k edge) same of.2))
      (λ differ. inl ((known edge).1 (of.0, (let lt = of.1 in omega arith), of.2)))
      (cases_eq of.0 n)),
)

-- edges of all calls, and of the first functions without calls
abbrev pub OfFunctions : ℕ → List Call → List Bool → ℕ → Edge → Type 0
OfFunctions functions calls live n edge = ((k : ℕ) × IsEdgeOf functions calls live k edge) ⊎ ((f : ℕ) × (f < n) × IsThrough functions calls f edge)

pub functions_none : (functions : ℕ) (calls : List Call) (live : List Bool) (n : ℕ) (edges : List Edge) → length calls ≤ n → ((edge : Edge) → Contains edges edge ↔ OfCalls functions calls live n edge) → (edge : Edge) → Contains edges edge ↔ OfFunctions functions calls live 0 edge
functions_none functions calls live n edges long known edge = (
  λ has. (let of = (known edge).0 has in inl (of.0, of.2)),
  λ of. ⊎_elim
      (λ own. (known edge).1 (own.0, (let lt = slice_get_within calls own.0 own.1.0 own.1.1 in omega arith), own.1))
      (λ none. absurd (let lt = none.1 in omega arith))
      of,
)

pub functions_more : (functions : ℕ) (calls : List Call) (live has_calls : List Bool) (n : ℕ) (has : Bool) (old new : List Edge) → n < functions → ((f : ℕ) → IsMarked has_calls f ↔ HasCall calls f) → slice_get has_calls n ≡ Some has → ((edge : Edge) → Contains old edge ↔ OfFunctions functions calls live n edge) → new ≡ old ++ cond (not has) (record { from = n; to = functions + n } ∷ []) [] → (edge : Edge) → Contains new edge ↔ OfFunctions functions calls live (n + 1) edge
functions_more functions calls live has_calls n has old new lt marks has_is known added edge = (forth, back)
  where
    lacks : not has ≡ true → HasCall calls n → ⊥
    lacks e call = (let marked = (marks n).1 call in let q : has ≡ true = same_Some has true (sym has_is ∙ marked) in let r : not true ≡ true = ap not (sym q) ∙ e in cc)

    lacks_back : (HasCall calls n → ⊥) → not has ≡ true
    lacks_back none = ⊎_elim (λ e. absurd (none ((marks n).0 (has_is ∙ ap Some e)))) (λ e. ap not e) (cases_Bool has)

    forth : Contains new edge → OfFunctions functions calls live (n + 1) edge
    forth in_new = ⊎_elim
        (λ in_old. ⊎_elim inl (λ of. inr (of.0, (let l = of.1 in omega arith), of.2)) ((known edge).0 in_old))
        (λ p. inr (n, omega arith, (lt, lacks p.0, p.1)))
        (if_cases (not has) old (record { from = n; to = functions + n }) edge (subst (λ l. Contains l edge) added in_new))

    kept : Contains old edge → Contains new edge
    kept in_old = subst (λ l. Contains l edge) (sym added) (if_kept (not has) old (record { from = n; to = functions + n }) edge in_old)

    own : IsThrough functions calls n edge → Contains new edge
    own through = subst (λ l. Contains l edge) (sym added) (if_new (not has) old (record { from = n; to = functions + n }) edge (lacks_back through.1) through.2)

    back : OfFunctions functions calls live (n + 1) edge → Contains new edge
    back of = ⊎_elim
        (λ call. kept ((known edge).1 (inl call)))
        (λ f. ⊎_elim
        (λ same. own (subst (λ g. IsThrough functions calls g edge) same f.2))
        (λ differ. kept ((known edge).1 (inr (f.0, (let l = f.1 in omega arith), f.2))))
        (cases_eq f.0 n))
        of

pub functions_all : (functions : ℕ) (calls : List Call) (live : List Bool) (n : ℕ) (edges : List Edge) → functions ≤ n → ((edge : Edge) → Contains edges edge ↔ OfFunctions functions calls live n edge) → (edge : Edge) → Contains edges edge ↔ (((k : ℕ) × IsEdgeOf functions calls live k edge) ⊎ ((f : ℕ) × IsThrough functions calls f edge))
functions_all functions calls live n edges long known edge = (
  λ has. ⊎_elim inl (λ f. inr (f.0, f.2)) ((known edge).0 has),
  λ of. (known edge).1 (⊎_elim inl (λ f. inr (f.0, (let l = f.1.0 in omega arith), f.1)) of),
)

-- the functions that have one of the first calls
abbrev pub HasCallBelow : List Call → ℕ → ℕ → Type 0
HasCallBelow calls n f = (k : ℕ) × (call : Call) × (k < n) × (slice_get calls k ≡ Some call) × (call.caller ≡ f)

pub marks_more : (marks : List Bool) (calls : List Call) (n : ℕ) (call : Call) → slice_get calls n ≡ Some call → call.caller < length marks → ((f : ℕ) → IsMarked marks f ↔ HasCallBelow calls n f) → (f : ℕ) → IsMarked (slice_set marks call.caller true) f ↔ HasCallBelow calls (n + 1) f
marks_more marks calls n call at within known f = (
  λ marked. ⊎_elim
      (λ same. (n, call, omega arith, at, sym same))
      (λ differ. (let has = (known f).0 (sym (slice_get-set_other marks call.caller f true differ) ∙ marked) in (has.0, has.1, (let l = has.2 in omega arith), has.3, has.4)))
      (cases_eq f call.caller),
  λ has. ⊎_elim
      (λ same. ap (slice_get (slice_set marks call.caller true)) same ∙ slice_get-set_same marks call.caller true within)
      (λ differ. slice_get-set_other marks call.caller f true differ ∙ (known f).1 (has.0, has.1, earlier has differ, has.3, has.4))
      (cases_eq f call.caller),
)
  where
    earlier : (has : HasCallBelow calls (n + 1) f) → f ≢ call.caller → has.0 < n
    earlier has differ = ⊎_elim
        (λ e. absurd (differ (sym has.4 ∙ ap (λ (c : Call). c.caller) (same_Some has.1 call (sym has.3 ∙ ap (slice_get calls) e ∙ at)))))
        (λ e. (let l = has.2 in omega arith))
        (cases_eq has.0 n)

pub marks_none : (marks : List Bool) (calls : List Call) (n : ℕ) → marks ≡ replicate n false → (f : ℕ) → IsMarked marks f ↔ HasCallBelow calls 0 f
marks_none marks calls n blank f = (λ marked. absurd (IsMarked-replicate n f (subst (λ ms. IsMarked ms f) blank marked)), λ has. absurd (let lt = has.2 in omega arith))

pub marks_all : (marks : List Bool) (calls : List Call) (n : ℕ) → length calls ≤ n → ((f : ℕ) → IsMarked marks f ↔ HasCallBelow calls n f) → (f : ℕ) → IsMarked marks f ↔ HasCall calls f
marks_all marks calls n long known f = (
  λ marked. (let has = (known f).0 marked in (has.0, has.1, has.3, has.4)),
  λ has. (known f).1 (has.0, has.1, (let lt = slice_get_within calls has.0 has.1 has.2 in omega arith), has.2, has.3),
)

-- the same of functions and calls that are equal to these
pub calls_more_as : (functions functions' : ℕ) (calls calls' : List Call) (live : List Bool) (n : ℕ) (old new : List Edge) → functions' ≡ functions → calls' ≡ calls → ((edge : Edge) → Contains old edge ↔ OfCalls functions calls live n edge) → ((edge : Edge) → Contains new edge ↔ (Contains old edge ⊎ IsEdgeOf functions' calls' live n edge)) → (edge : Edge) → Contains new edge ↔ OfCalls functions calls live (n + 1) edge
calls_more_as functions functions' calls calls' live n old new same_functions same_calls known added =
    calls_more functions calls live n old new known
    (subst (λ (cs : List Call). (edge : Edge) → Contains new edge ↔ (Contains old edge ⊎ IsEdgeOf functions cs live n edge)) same_calls
    (subst (λ (m : ℕ). (edge : Edge) → Contains new edge ↔ (Contains old edge ⊎ IsEdgeOf m calls' live n edge)) same_functions added))
