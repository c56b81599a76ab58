-- Characters one after another.
use Rattle.std.proofs.Common.{◌≡◌, ℕ, zero, suc, ◌+◌, ◌-◌, ◌≤◌, ◌<◌, add-zero, append_assoc, not, eqb, List, [], ◌∷◌, ◌++◌, length, drop, length-drop, Option, Some, None, refl, sym, ap, ◌∙◌, arith, inl, inr}
use Rattle.std.proofs.lemmas.Bool.{cases_Bool, eqb-false, eqb-true, ne_eqb}
use Rattle.std.proofs.lemmas.List.{nil_from_length}
use Rattle.cc_lex.specs.Bytes.{first}
use Rattle.cc_lex.specs.Characters.{character_len, character_value, characters, values_of, escape_faults}
use Rattle.cc_lex.specs.Reading.{first_fault}

-- bytes that belong to the character before are passed
pub passed : (at left : ℕ) (z : List ℕ) → characters at left z ≡ characters (at + left) 0 (drop left z)
passed at zero z = rw add-zero refl
passed at (suc left) [] = refl
passed at (suc left) (b ∷ z) = let e : at + 1 + left ≡ at + suc left = omega arith in passed (at + 1) left z ∙ ap (λ k. characters k 0 (drop left z)) e

len_some : (z : List ℕ) → 1 ≤ character_len z
len_some z = elim (cases_Bool (eqb (first z) 92)) [ inl e ↦ rw e (omega arith) | inr e ↦ rw e (omega arith) ]

drop_more : (n b : ℕ) (z : List ℕ) → 1 ≤ n → drop (n - 1) z ≡ drop n (b ∷ z)
drop_more zero b z h = absurd (omega arith)
drop_more (suc n) b z h = let e : suc n - 1 ≡ n = omega arith in rw e refl

-- the character at the front, and those behind it
pub character_step : (at : ℕ) (z : List ℕ) → 0 < length z → characters at 0 z ≡ (at, character_value z) ∷ characters (at + character_len z) 0 (drop (character_len z) z)
character_step at [] h = absurd (omega arith)
character_step at (b ∷ z) h =
    let n = character_len (b ∷ z) in
    let some : 1 ≤ character_len (b ∷ z) = len_some (b ∷ z) in
    let later : characters (at + 1) (n - 1) z ≡ characters (at + 1 + (n - 1)) 0 (drop (n - 1) z) = passed (at + 1) (n - 1) z in
    let place : at + 1 + (n - 1) ≡ at + n = omega arith in
    let rest : drop (n - 1) z ≡ drop n (b ∷ z) = drop_more n b z some in
    ap (λ cs. (at, character_value (b ∷ z)) ∷ cs) (later ∙ ap (λ k. characters k 0 (drop (n - 1) z)) place ∙ ap (λ y. characters (at + n) 0 y) rest)

-- ---- Faults

pub faults_here : (at : ℕ) (z : List ℕ) → 0 < length z → character_value z ≡ None → first_fault (escape_faults (characters at 0 z)) ≡ Some (at, 4)
faults_here at z h e = rw (character_step at z h, e) refl

pub faults_later : (at : ℕ) (z : List ℕ) (v : ℕ) → 0 < length z → character_value z ≡ Some v → escape_faults (characters at 0 z) ≡ escape_faults (characters (at + character_len z) 0 (drop (character_len z) z))
faults_later at z v h e = rw (character_step at z h, e) refl

-- ---- Values

value_cons : (a b : ℕ) (v : Option ℕ) (cs ds : List (ℕ × Option ℕ)) → values_of cs ≡ values_of ds → values_of ((a, v) ∷ cs) ≡ values_of ((b, v) ∷ ds)
value_cons a b None cs ds e = e
value_cons a b (Some v) cs ds e = ap (λ vs. v ∷ vs) e

-- the values don't go by the places
values_at : (a b left : ℕ) (z : List ℕ) → values_of (characters a left z) ≡ values_of (characters b left z)
values_at a b left [] = refl
values_at a b (suc left) (c ∷ z) = values_at (a + 1) (b + 1) left z
values_at a b zero (c ∷ z) = value_cons a b (character_value (c ∷ z)) _ _ (values_at (a + 1) (b + 1) (character_len (c ∷ z) - 1) z)

pub values_none : (z : List ℕ) → 0 < length z → character_value z ≡ None → values_of (characters 1 0 z) ≡ values_of (characters 1 0 (drop (character_len z) z))
values_none z h e = let s = character_step 1 z h in rw (s, e) (values_at _ 1 0 (drop (character_len z) z))

pub values_some : (z : List ℕ) (v : ℕ) → 0 < length z → character_value z ≡ Some v → values_of (characters 1 0 z) ≡ v ∷ values_of (characters 1 0 (drop (character_len z) z))
values_some z v h e = let s = character_step 1 z h in rw (s, e) (ap (λ vs. v ∷ vs) (values_at _ 1 0 (drop (character_len z) z)))

-- ---- One character

characters_some : (at : ℕ) (z : List ℕ) → 0 < length z → 0 < length (characters at 0 z)
characters_some at [] h = absurd (omega arith)
characters_some at (b ∷ z) h = omega arith

-- there is one character where the first one has all the bytes
pub one_character : (z : List ℕ) → 0 < length z → character_len z ≤ length z → eqb (character_len z) (length z) ≡ eqb (length (characters 1 0 z)) 1
one_character z h w =
    let n = character_len z in
    let s : length (characters 1 0 z) ≡ suc (length (characters (1 + n) 0 (drop n z))) = ap length (character_step 1 z h) in
    elim (cases_Bool (eqb n (length z))) [
      | inl e ↦
          let is : n ≡ length z = eqb-true _ _ e in
          let none : drop n z ≡ [] = nil_from_length (drop n z) (omega (arith, length-drop {A = ℕ})) in
          let one : length (characters 1 0 z) ≡ 1 = s ∙ ap (λ y. suc (length (characters (1 + n) 0 y))) none in
          rw (e, one) refl
      | inr e ↦
          let other : n ≡ length z → ⊥ = λ is. eqb-false _ _ e is in
          let more : 0 < length (drop n z) = omega (arith, length-drop {A = ℕ}) in
          let some : 0 < length (characters (1 + n) 0 (drop n z)) = characters_some (1 + n) (drop n z) more in
          rw (e, ne_eqb (length (characters 1 0 z)) 1 (λ one. omega arith)) refl
    ]

-- ---- A turn of a loop over characters

pub none_more : (vs z y all : List ℕ) (n : ℕ) → 0 < length z → character_value z ≡ None → n ≡ character_len z → y ≡ drop n z → vs ++ values_of (characters 1 0 z) ≡ all → vs ++ values_of (characters 1 0 y) ≡ all
none_more vs z y all n h e l d r = rw (d, l) (ap (λ x. vs ++ x) (sym (values_none z h e)) ∙ r)

pub some_more : (vs ws z y all : List ℕ) (n v : ℕ) → 0 < length z → character_value z ≡ Some v → n ≡ character_len z → y ≡ drop n z → ws ≡ vs ++ v ∷ [] → vs ++ values_of (characters 1 0 z) ≡ all → ws ++ values_of (characters 1 0 y) ≡ all
some_more vs ws z y all n v h e l d w r = rw (w, d, l, append_assoc) (ap (λ x. vs ++ x) (sym (values_some z v h e)) ∙ r)

pub no_character : (z : List ℕ) → length z ≡ 0 → not (eqb (length z) 0) ≡ eqb (length (characters 1 0 z)) 1
no_character [] h = refl
no_character (b ∷ z) h = absurd (omega arith)

pub one_of : (z : List ℕ) (n : ℕ) → 0 < length z → n ≡ character_len z → n ≤ length z → eqb n (length z) ≡ eqb (length (characters 1 0 z)) 1
one_of z n h e w = rw e (one_character z h (omega arith))
