-- The places of calls in their bodies.
use Rattle.std.proofs.Common.{◌≡◌, ◌≢◌, ◌⊎◌, ℕ, zero, suc, ◌+◌, ◌-◌, ◌*◌, ◌<◌, ◌≤◌, inl, inr, ⊎_elim, List, [], ◌∷◌, length, map, filter, get_or, Option, Some, None, Bool, true, false, not, cond, eqb, refl, sym, ap, ◌∙◌, arith, AllPairs, slice_get}
use Rattle.std.proofs.lemmas.Bool.{cases_eq, eq-eqb, ne_eqb, eqb-true, eqb-false, not-true, not_from_false}
use Rattle.std.proofs.lemmas.Option.{slice_get_within, slice_get-get_or, get_or_from_slice_get, same_Some}
use Rattle.cc_first_runs.specs.Program as tree
use Rattle.cc_first.specs.Numbers.{place, point_before, before_of, ends_body, is_last_call, HasCall}
use Rattle.cc_first.specs.Views.{name_view, calls_view}
use Rattle.cc_first.specs.declared.program.Call.{Call}

-- calls stand in the order of their functions
abbrev pub Ascends : List Call → Type 0
Ascends calls = AllPairs (λ (a b : Call). a.caller ≤ b.caller) calls

pub ascends_at : (calls : List Call) (i j : ℕ) (a b : Call) → Ascends calls → i < j → slice_get calls i ≡ Some a → slice_get calls j ≡ Some b → a.caller ≤ b.caller
ascends_at calls i j a b ascends lt at_i at_j =
    let order = ascends i j a lt (slice_get_within calls j b at_j) in
    let first : get_or calls i a ≡ a = get_or_from_slice_get calls i a a at_i in
    let second : get_or calls j a ≡ b = get_or_from_slice_get calls j b a at_j in
    omega (arith, order, ap (λ (c : Call). c.caller) first, ap (λ (c : Call). c.caller) second)

-- a call of another function before changes neither what follows nor its place
view_skip : (b : Bool) (call : Call) (rest : List Call) (n : ℕ) → slice_get (map (λ (c : Call). name_view c.name) (cond b (call ∷ rest) rest)) (cond b (suc n) n) ≡ slice_get (map (λ (c : Call). name_view c.name) rest) n
view_skip true call rest n = refl
view_skip false call rest n = refl

abbrev of_caller : ℕ → List Call → List Call
of_caller f calls = filter (λ (call : Call). eqb call.caller f) calls

-- call k stands at its place in its body
pub nested_at : (calls : List Call) (k : ℕ) (call : Call) (f : ℕ) → slice_get calls k ≡ Some call → call.caller ≡ f → slice_get (calls_view calls f) (place calls k f) ≡ Some (name_view call.name)
nested_at [] k call f at is = absurd (let e = at in cc)
nested_at (c ∷ calls) zero call f at is =
    let same : c ≡ call = same_Some c call at in
    let here : eqb c.caller f ≡ true = eq-eqb c.caller f (ap (λ (d : Call). d.caller) same ∙ is) in
    ap (λ b. slice_get (map (λ (d : Call). name_view d.name) (cond b (c ∷ of_caller f calls) (of_caller f calls))) 0) here ∙ ap (λ (d : Call). Some (name_view d.name)) same
nested_at (c ∷ calls) (suc k) call f at is = view_skip (eqb c.caller f) c (of_caller f calls) (place calls k f) ∙ nested_at calls k call f at is

-- the call at a place of a body
pub record IsFound (calls : List Call) (f i : ℕ) (name : tree.Name) : Type 0 where
  pub number : ℕ
  pub call : Call
  pub at : slice_get calls number ≡ Some call
  pub caller : call.caller ≡ f
  pub placed : place calls number f ≡ i
  pub named : name_view call.name ≡ name

found_later : (c : Call) (calls : List Call) (f i j : ℕ) (name : tree.Name) → ((p : ℕ) → p ≡ i → cond (eqb c.caller f) (suc p) p ≡ j) → IsFound calls f i name → IsFound (c ∷ calls) f j name
found_later c calls f i j name shift found = record { number = suc found.number; call = found.call; at = found.at; caller = found.caller; placed = shift (place calls found.number f) found.placed; named = found.named }

pub flat_at : (calls : List Call) (f i : ℕ) (name : tree.Name) → slice_get (calls_view calls f) i ≡ Some name → IsFound calls f i name
flat_at [] f i name at = absurd (let e = at in cc)
flat_at (c ∷ calls) f i name at = by (eqb c.caller f) refl i at (λ j. flat_at calls f j name)
  where
    by : (b : Bool) → eqb c.caller f ≡ b → (j : ℕ) → slice_get (map (λ (d : Call). name_view d.name) (cond (eqb c.caller f) (c ∷ of_caller f calls) (of_caller f calls))) j ≡ Some name → ((k : ℕ) → slice_get (calls_view calls f) k ≡ Some name → IsFound calls f k name) → IsFound (c ∷ calls) f j name
    by true e zero here rest =
        let opened = ap (λ b. slice_get (map (λ (d : Call). name_view d.name) (cond b (c ∷ of_caller f calls) (of_caller f calls))) 0) (sym e) ∙ here in
        record { number = 0; call = c; at = refl; caller = eqb-true c.caller f e; placed = refl; named = same_Some (name_view c.name) name opened }
    by true e (suc j) here rest =
        let opened = ap (λ b. slice_get (map (λ (d : Call). name_view d.name) (cond b (c ∷ of_caller f calls) (of_caller f calls))) (suc j)) (sym e) ∙ here in
        found_later c calls f j (suc j) name (λ p is. ap (λ b. cond b (suc p) p) e ∙ ap suc is) (rest j opened)
    by false e j here rest =
        let opened = ap (λ b. slice_get (map (λ (d : Call). name_view d.name) (cond b (c ∷ of_caller f calls) (of_caller f calls))) j) (sym e) ∙ here in
        found_later c calls f j j name (λ p is. ap (λ b. cond b (suc p) p) e ∙ is) (rest j opened)

-- places before, at and behind a call
pub place_zero : (calls : List Call) (f : ℕ) → place calls 0 f ≡ 0
place_zero [] f = refl
place_zero (c ∷ calls) f = refl

cond_suc : (b : Bool) (n : ℕ) → cond b (suc (suc n)) (suc n) ≡ suc (cond b (suc n) n)
cond_suc true n = refl
cond_suc false n = refl

pub place_own : (calls : List Call) (k : ℕ) (call : Call) (f : ℕ) → slice_get calls k ≡ Some call → call.caller ≡ f → place calls (suc k) f ≡ suc (place calls k f)
place_own [] k call f at is = absurd (let e = at in cc)
place_own (c ∷ calls) zero call f at is =
    let here : eqb c.caller f ≡ true = eq-eqb c.caller f (ap (λ (d : Call). d.caller) (same_Some c call at) ∙ is) in
    ap (λ b. cond b (suc (place calls 0 f)) (place calls 0 f)) here ∙ ap suc (place_zero calls f)
place_own (c ∷ calls) (suc k) call f at is =
    ap (λ p. cond (eqb c.caller f) (suc p) p) (place_own calls k call f at is) ∙ cond_suc (eqb c.caller f) (place calls k f)

pub place_other : (calls : List Call) (k : ℕ) (f : ℕ) → ((call : Call) → slice_get calls k ≡ Some call → call.caller ≢ f) → place calls (suc k) f ≡ place calls k f
place_other [] k f other = refl
place_other (c ∷ calls) zero f other =
    ap (λ b. cond b (suc (place calls 0 f)) (place calls 0 f)) (ne_eqb c.caller f (other c refl)) ∙ place_zero calls f
place_other (c ∷ calls) (suc k) f other = ap (λ p. cond (eqb c.caller f) (suc p) p) (place_other calls k f other)

pub place_same : (calls : List Call) (f m d : ℕ) → ((j : ℕ) (call : Call) → m ≤ j → j < m + d → slice_get calls j ≡ Some call → call.caller ≢ f) → place calls (m + d) f ≡ place calls m f
place_same calls f m zero other = (let e : m + 0 ≡ m = omega arith in ap (λ n. place calls n f) e)
place_same calls f m (suc d) other =
    let e : m + suc d ≡ suc (m + d) = omega arith in
    ap (λ n. place calls n f) e
    ∙ place_other calls (m + d) f (λ call at. other (m + d) call (omega arith) (omega arith) at)
    ∙ place_same calls f m d (λ j call low high at. other j call low (omega arith) at)

length_skip : (b : Bool) (call : Call) (rest : List Call) → length (map (λ (c : Call). name_view c.name) (cond b (call ∷ rest) rest)) ≡ cond b (suc (length (map (λ (c : Call). name_view c.name) rest))) (length (map (λ (c : Call). name_view c.name) rest))
length_skip true call rest = refl
length_skip false call rest = refl

pub place_all : (calls : List Call) (f : ℕ) → place calls (length calls) f ≡ length (calls_view calls f)
place_all [] f = refl
place_all (c ∷ calls) f = ap (λ p. cond (eqb c.caller f) (suc p) p) (place_all calls f) ∙ sym (length_skip (eqb c.caller f) c (of_caller f calls))

-- the call before a call, and what its point is
pub record IsInBody (functions : ℕ) (calls : List Call) (k : ℕ) (call : Call) : Type 0 where
  pub number : ℕ
  pub earlier : Call
  pub next : k ≡ suc number
  pub at : slice_get calls number ≡ Some earlier
  pub caller : earlier.caller ≡ call.caller
  pub point : before_of functions calls k ≡ 2 * functions + number

pub record IsAtHead (functions : ℕ) (calls : List Call) (k : ℕ) (call : Call) : Type 0 where
  pub placed : place calls k call.caller ≡ 0
  pub point : before_of functions calls k ≡ call.caller

pub before_cases : (functions : ℕ) (calls : List Call) (k : ℕ) (call : Call) → Ascends calls → slice_get calls k ≡ Some call → IsInBody functions calls k call ⊎ IsAtHead functions calls k call
before_cases functions calls zero call ascends at = inr (record { placed = place_zero calls call.caller; point = ap (λ c. point_before functions 0 c None) at })
before_cases functions calls (suc j) call ascends at = by (get_or calls j call) (slice_get-get_or calls j call (omega (arith, slice_get_within calls (suc j) call at)))
  where
    by : (earlier : Call) → slice_get calls j ≡ Some earlier → IsInBody functions calls (suc j) call ⊎ IsAtHead functions calls (suc j) call
    by earlier before =
        let open_point : before_of functions calls (suc j) ≡ cond (eqb earlier.caller call.caller) (2 * functions + (suc j - 1)) call.caller =
        ap (λ c. point_before functions (suc j) c (slice_get calls j)) at ∙ ap (λ c. point_before functions (suc j) (Some call) c) before in
        ⊎_elim
        (λ same. inl (record {
          number = j;
          earlier = earlier;
          next = refl;
          at = before;
          caller = same;
          point = open_point ∙ ap (λ b. cond b (2 * functions + (suc j - 1)) call.caller) (eq-eqb earlier.caller call.caller same) ∙ (let e : suc j - 1 ≡ j = omega arith in ap (λ n. 2 * functions + n) e);
        }))
        (λ other. inr (record {
          placed = (let e : 0 + suc j ≡ suc j = omega arith in
              ap (λ n. place calls n call.caller) (sym e)
              ∙ place_same calls call.caller 0 (suc j) (λ i c low high there is. other (only i c (omega arith) there is earlier before))
              ∙ place_zero calls call.caller);
          point = open_point ∙ ap (λ b. cond b (2 * functions + (suc j - 1)) call.caller) (ne_eqb earlier.caller call.caller other);
        }))
        (cases_eq earlier.caller call.caller)
      where
        only : (i : ℕ) (c : Call) → i ≤ j → slice_get calls i ≡ Some c → c.caller ≡ call.caller → (e : Call) → slice_get calls j ≡ Some e → e.caller ≡ call.caller
        only i c low there is e e_at = ⊎_elim
            (λ same. (let q : c ≡ e = same_Some c e (sym there ∙ ap (slice_get calls) same ∙ e_at) in sym (ap (λ (d : Call). d.caller) q) ∙ is))
            (λ differ. (let lower : c.caller ≤ e.caller = ascends_at calls i j c e ascends (omega arith) there e_at in
            let upper : e.caller ≤ call.caller = ascends_at calls j (suc j) e call ascends (omega arith) e_at at in omega arith))
            (cases_eq i j)

-- no call behind the last one of a body is of the same body
later_differs : (calls : List Call) (k j : ℕ) (call c : Call) → Ascends calls → slice_get calls k ≡ Some call → is_last_call calls k ≡ true → suc k ≤ j → slice_get calls j ≡ Some c → c.caller ≡ call.caller → ⊥
later_differs calls k j call c ascends at last low there is = by (get_or calls (k + 1) call) (slice_get-get_or calls (k + 1) call (omega (arith, slice_get_within calls j c there)))
  where
    by : (next : Call) → slice_get calls (k + 1) ≡ Some next → ⊥
    by next next_at =
        let open_last : not (eqb next.caller call.caller) ≡ true = ap (λ o. ends_body o (Some next)) (sym at) ∙ ap (λ o. ends_body (slice_get calls k) o) (sym next_at) ∙ last in
        let differs : next.caller ≡ call.caller → ⊥ = eqb-false next.caller call.caller (not-true (eqb next.caller call.caller) open_last) in
        let lower : call.caller ≤ next.caller = ascends_at calls k (k + 1) call next ascends (omega arith) at next_at in
        ⊎_elim
        (λ same. differs (ap (λ (d : Call). d.caller) (same_Some next c (sym next_at ∙ ap (slice_get calls) same ∙ there)) ∙ is))
        (λ other. (let upper : next.caller ≤ c.caller = ascends_at calls (k + 1) j next c ascends (omega arith) next_at there in differs (omega arith)))
        (cases_eq (k + 1) j)

-- the last call of a body stands at its end
pub last_ends : (calls : List Call) (k : ℕ) (call : Call) → Ascends calls → slice_get calls k ≡ Some call → is_last_call calls k ≡ true → length (calls_view calls call.caller) ≡ suc (place calls k call.caller)
last_ends calls k call ascends at last =
    sym (place_all calls call.caller)
    ∙ (let e : length calls ≡ suc k + (length calls - suc k) = omega (arith, slice_get_within calls k call at) in ap (λ n. place calls n call.caller) e)
    ∙ place_same calls call.caller (suc k) (length calls - suc k) (λ j c low high there is. later_differs calls k j call c ascends at last low there is)
    ∙ place_own calls k call call.caller at refl

-- and a call that stands at the end is the last
pub ends_last : (calls : List Call) (k : ℕ) (call : Call) → slice_get calls k ≡ Some call → length (calls_view calls call.caller) ≤ suc (place calls k call.caller) → is_last_call calls k ≡ true
ends_last calls k call at ends = by (slice_get calls (k + 1)) refl
  where
    by : (next : Option Call) → slice_get calls (k + 1) ≡ next → is_last_call calls k ≡ true
    by None e = ap (λ o. ends_body (slice_get calls k) o) e ∙ ap (λ o. ends_body o None) at
    by (Some next) e = ap (λ o. ends_body (slice_get calls k) o) e ∙ ap (λ o. ends_body o (Some next)) at ∙ ⊎_elim
        (λ same. absurd (
        let stands = nested_at calls (k + 1) next call.caller e same in
        let q : k + 1 ≡ suc k = omega arith in
        let there : place calls (k + 1) call.caller ≡ suc (place calls k call.caller) = ap (λ n. place calls n call.caller) q ∙ place_own calls k call call.caller at refl in
        omega (arith, slice_get_within (calls_view calls call.caller) (place calls (k + 1) call.caller) (name_view next.name) stands)))
        (λ other. not_from_false (eqb next.caller call.caller) (ne_eqb next.caller call.caller other))
        (cases_eq next.caller call.caller)

-- a function without calls has none in its view
pub none_view : (calls : List Call) (f : ℕ) → (HasCall calls f → ⊥) → length (calls_view calls f) ≡ 0
none_view calls f none = by (calls_view calls f) refl
  where
    by : (names : List tree.Name) → calls_view calls f ≡ names → length names ≡ 0
    by [] e = refl
    by (name ∷ names) e = absurd (let found = flat_at calls f 0 name (ap (λ ns. slice_get ns 0) e) in none (found.number, found.call, found.at, found.caller))
