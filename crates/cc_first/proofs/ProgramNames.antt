-- The numbers of names.
use Rattle.std.proofs.Common.{◌≡◌, ◌≢◌, ℕ, zero, suc, ◌<◌, inl, inr, ⊎_elim, List, [], ◌∷◌, ◌++◌, length, map, get_or, Some, Bool, true, false, not, cond, take, ◌+◌, refl, sym, ap, ◌∙◌, subst, arith, Bor, All, AllPairs, Contains, slice_get, position, length-append, ◌⊎◌}
use Rattle.std.specs.List.{AllZip, list_any}
use Rattle.std.specs.Str.{bytes_eq}
use Rattle.std.proofs.lemmas.Bool.{true≢false, or_cases, or_left, or_right, not-true}
use Rattle.std.proofs.lemmas.List.{length-map, map_push, map_more, get_or_append_left, get_or_at, get_or-map}
use Rattle.std.proofs.lemmas.List.Elements.{Contains-get_or, Contains-append_right}
use Rattle.std.proofs.lemmas.List.Quantifiers.{all_pairs_push, position-Some}
use Rattle.std.proofs.lemmas.Option.{slice_get-get_or, get_or_from_slice_get, slice_get_within}
use Rattle.std.proofs.lemmas.Slice.Eq.{bytes_eq-Decides}
use Rattle.cc_first.specs.Linking.{texts_of, names_of, AreNumbered, IsCallFrom}
use Rattle.cc_first_runs.specs.Program as tree
use Rattle.cc_first.specs.Views.{name_view}
use Rattle.cc_first.specs.declared.unit.Name.{Name}
use Rattle.cc_first.specs.declared.program.Call.{Call}
use Rattle.cc_first.specs.declared.program.Function.{Function}

-- the first element is in the list, and so are those of the rest
pub Contains-here : {A : Type 0} (x : A) (xs : List A) → Contains (x ∷ xs) x
Contains-here x xs = (0, omega arith, refl)

pub Contains-there : {A : Type 0} (x y : A) (xs : List A) → Contains xs y → Contains (x ∷ xs) y
Contains-there x y xs has = Contains-append_right (x ∷ []) xs y has

pub Contains-cases : {A : Type 0} (x y : A) (xs : List A) → Contains (x ∷ xs) y → (x ≡ y) ⊎ Contains xs y
Contains-cases x y xs (zero, lt, e) = inl e
Contains-cases x y xs (suc k, lt, e) = inr (k, omega arith, e)

pub Contains-slice_get : {A : Type 0} (xs : List A) (i : ℕ) (x : A) → slice_get xs i ≡ Some x → Contains xs x
Contains-slice_get xs i x at = (i, slice_get_within xs i x at, get_or_from_slice_get xs i x x at)

pub slice_get-Contains : {A : Type 0} (xs : List A) (x : A) → Contains xs x → (i : ℕ) × (slice_get xs i ≡ Some x)
slice_get-Contains xs x (i, lt, e) = (i, slice_get-get_or xs i x lt ∙ ap Some e)

-- a name that the set finds is among its names, and no other
pub among_names : (text : List ℕ) (keys : List (Bor (List ℕ))) → list_any (λ key. bytes_eq text key.now) keys ≡ true → Contains (names_of keys) text
among_names text [] h = absurd (true≢false (sym h))
among_names text (key ∷ keys) h = ⊎_elim
    (λ e. subst (Contains (names_of (key ∷ keys))) (sym ((bytes_eq-Decides text key.now).0 e)) (Contains-here key.now (names_of keys)))
    (λ e. Contains-there key.now text (names_of keys) (among_names text keys e))
    (or_cases (bytes_eq text key.now) (list_any (λ key. bytes_eq text key.now) keys) h)

pub found_among : (text : List ℕ) (keys : List (Bor (List ℕ))) → Contains (names_of keys) text → list_any (λ key. bytes_eq text key.now) keys ≡ true
found_among text [] (k, lt, e) = absurd (omega arith)
found_among text (key ∷ keys) has = ⊎_elim
    (λ e. or_left (bytes_eq text key.now) (list_any (λ key. bytes_eq text key.now) keys) ((bytes_eq-Decides text key.now).1 (sym e)))
    (λ there. or_right (bytes_eq text key.now) (list_any (λ key. bytes_eq text key.now) keys) (found_among text keys there))
    (Contains-cases key.now text (names_of keys) has)

pub not_among : (text : List ℕ) (keys : List (Bor (List ℕ))) → list_any (λ key. bytes_eq text key.now) keys ≡ false → Contains (names_of keys) text → ⊥
not_among text keys none has = true≢false (sym (found_among text keys has) ∙ none)

-- the number that the set gives is that of the name
pub name_at : (text : List ℕ) (keys : List (Bor (List ℕ))) (i : ℕ) → position (λ key. bytes_eq text key.now) keys ≡ Some i → slice_get (names_of keys) i ≡ Some text
name_at text keys i at =
    let none : Bor (List ℕ) = record { ref_ptr = (0, 0); now = [] } in
    let p = position-Some (λ (key : Bor (List ℕ)). bytes_eq text key.now) keys i none at in
    let same : text ≡ (get_or keys i none).now = (bytes_eq-Decides text (get_or keys i none).now).0 p.1 in
    let within : i < length (names_of keys) = omega (arith, p.0, length-map keys (λ (key : Bor (List ℕ)). key.now)) in
    slice_get-get_or (names_of keys) i text within ∙ ap Some (get_or-map (λ (key : Bor (List ℕ)). key.now) keys i none text p.0 ∙ sym same)

-- names of which none is equal to another stand once
pub apart_once : (xs ys : List (List ℕ)) (x : List ℕ) → Contains xs x → AllPairs (λ a b. a ≢ b) (xs ++ x ∷ ys) → ⊥
apart_once xs ys x (k, lt, e) once =
    let long : length xs < length (xs ++ x ∷ ys) = omega (arith, length-append xs (x ∷ ys)) in
    once k (length xs) x lt long (get_or_append_left xs (x ∷ ys) x k lt ∙ e ∙ sym (get_or_at xs x ys x (length xs) refl))

-- a function more, whose name is new
pub numbered_more : (functions : List Function) (keys : List (Bor (List ℕ))) (function : Function) → (Contains (names_of keys) function.head.text.now → ⊥) → AreNumbered functions keys → AreNumbered (functions ++ function ∷ []) (keys ++ function.head.text ∷ [])
numbered_more functions keys function new numbered = record {
  same = map_push (λ (key : Bor (List ℕ)). key.now) keys function.head.text ∙ ap (λ names. names ++ function.head.text.now ∷ []) numbered.same ∙ sym more;
  once = subst (λ names. AllPairs (λ a b. a ≢ b) names) (sym more) (all_pairs_push (λ a b. a ≢ b) (texts_of functions) function.head.text.now numbered.once apart);
}
  where
    more : texts_of (functions ++ function ∷ []) ≡ texts_of functions ++ function.head.text.now ∷ []
    more = map_push (λ (f : Function). f.head.text.now) functions function

    apart : (k : ℕ) (d : List ℕ) → k < length (texts_of functions) → get_or (texts_of functions) k d ≢ function.head.text.now
    apart k d lt e = new (subst (λ names. Contains names function.head.text.now) (sym numbered.same) (subst (Contains (texts_of functions)) e (Contains-get_or (texts_of functions) k d lt)))

-- a name of a list that is not among these
pub unknown_at : (keys : List (Bor (List ℕ))) (called : List Name) (i : ℕ) (name : Name) → i < length called → list_any (λ key. bytes_eq (get_or called i name).text.now key.now) keys ≡ false → All (λ (n : tree.Name). Contains (names_of keys) n.text) (map name_view called) → ⊥
unknown_at keys called i name lt none all =
    let here : Contains (names_of keys) (get_or (map name_view called) i (name_view name)).text = all i (name_view name) (omega (arith, length-map called name_view)) in
    let same : (get_or (map name_view called) i (name_view name)).text ≡ (get_or called i name).text.now = ap (λ (n : tree.Name). n.text) (get_or-map name_view called i name (name_view name) lt) in
    not_among (get_or called i name).text.now keys none (subst (Contains (names_of keys)) same here)

-- a new name was inserted
pub numbered_insert : (functions : List Function) (keys after : List (Bor (List ℕ))) (function : Function) (added : Bool) → added ≡ not (list_any (λ key. bytes_eq function.head.text.now key.now) keys) → added ≡ true → after ≡ cond (list_any (λ key. bytes_eq function.head.text.now key.now) keys) keys (keys ++ function.head.text ∷ []) → AreNumbered functions keys → AreNumbered (functions ++ function ∷ []) after
numbered_insert functions keys after function added is new inserted numbered =
    let none : list_any (λ key. bytes_eq function.head.text.now key.now) keys ≡ false = not-true (list_any (λ key. bytes_eq function.head.text.now key.now) keys) (sym is ∙ new) in
    let more : after ≡ keys ++ function.head.text ∷ [] = inserted ∙ ap (λ b. cond b keys (keys ++ function.head.text ∷ [])) none in
    subst (AreNumbered (functions ++ function ∷ [])) (sym more) (numbered_more functions keys function (not_among function.head.text.now keys none) numbered)

-- a pair more
pub AllZip-one_more : {A B : Type 0} (R : A → B → Type 0) (xs : List A) (ys : List B) (x : A) (y : B) → AllZip R xs ys → R x y → AllZip R (xs ++ x ∷ []) (ys ++ y ∷ [])
AllZip-one_more R [] [] x y all r = (r, tt)
AllZip-one_more R [] (b ∷ ys) x y all r = absurd all
AllZip-one_more R (a ∷ xs) [] x y all r = absurd all
AllZip-one_more R (a ∷ xs) (b ∷ ys) x y all r = (all.0, AllZip-one_more R xs ys x y all.1 r)

-- a call more of a body
pub body_more : (keys : List (Bor (List ℕ))) (caller : ℕ) (called : List Name) (i : ℕ) (d : Name) (own : List Call) (call : Call) → i < length called → call.name ≡ get_or called i d → call.caller ≡ caller → Some call.callee ≡ position (λ key. bytes_eq (get_or called i d).text.now key.now) keys → AllZip (IsCallFrom (names_of keys) caller) (map name_view (take i called)) own → AllZip (IsCallFrom (names_of keys) caller) (map name_view (take (i + 1) called)) (own ++ call ∷ [])
body_more keys caller called i d own call lt name placed callee zipped =
    subst (λ names. AllZip (IsCallFrom (names_of keys) caller) names (own ++ call ∷ [])) (sym (map_more name_view called i d lt))
    (AllZip-one_more (IsCallFrom (names_of keys) caller) (map name_view (take i called)) own (name_view (get_or called i d)) call zipped
    (record { named = ap name_view name; placed = placed; callee = name_at (get_or called i d).text.now keys call.callee (sym callee) }))
