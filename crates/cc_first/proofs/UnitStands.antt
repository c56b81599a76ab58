-- Calls that stand behind their heads.
use Rattle.std.proofs.Common.{◌≡◌, ℕ, ◌+◌, ◌<◌, Bool, true, false, ◌&&◌, ◌||◌, List, [], ◌∷◌, ◌++◌, length, drop, map, refl, sym, ap, subst, ◌∙◌, inl, inr, get_or, add-one}
use Rattle.std.proofs.Math.Seq.{drop-cons}
use Rattle.std.proofs.lemmas.Cmp.{nat_list_eq_equiv}
use Rattle.std.proofs.lemmas.List.Sums.{AllPass-from_list_all, list_all-from_AllPass}
use Rattle.std.proofs.lemmas.Map.Views.{list_any-from_Contains, Contains-from_any}
use Rattle.std.proofs.lemmas.Slice.Eq.{bytes_eq-Decides}
use Rattle.std.specs.Prelude.{All, Contains}
use Rattle.std.specs.Borrow.{Bor}
use Rattle.std.specs.List.{list_any, list_all}
use Rattle.std.specs.Str.{bytes_eq}
use Rattle.indexmap.specs.IndexSet.{insert_key}
use Rattle.cc_first_runs.specs.Program.{Name}
use Rattle.cc_first.specs.Unit.{Part, Declaration, Definition, CallsStand}
use Rattle.cc_first.specs.UnitReads.{is_among, head_text, calls_among, StandTo}
use Rattle.cc_first.specs.Views.{part_view, parts_view}
use Rattle.cc_first.specs.declared.unit.Part.{Part as CodePart}
use Rattle.std.proofs.lemmas.Bool.{cases_Bool}

-- ---- texts of keys

abbrev pub texts : List (Bor (List ℕ)) → List (List ℕ)
texts keys = map (λ key. key.now) keys

abbrev pub same_key : Bor (List ℕ) → Bor (List ℕ) → Bool
same_key a b = bytes_eq a.now b.now

pub among_keys : (keys : List (Bor (List ℕ))) (text : List ℕ) → list_any (λ key. bytes_eq text key.now) keys ≡ is_among (texts keys) text
among_keys [] text = refl
among_keys (k ∷ keys) text = ap (λ (b : Bool). bytes_eq text k.now || b) (among_keys keys text)

or_swap : (a b c : Bool) → (a || (b || c)) ≡ (b || (a || c))
or_swap true true c = refl
or_swap true false c = refl
or_swap false true c = refl
or_swap false false c = refl

among_more : (keys : List (Bor (List ℕ))) (key : Bor (List ℕ)) (text : List ℕ) → is_among (texts (keys ++ key ∷ [])) text ≡ (bytes_eq text key.now || is_among (texts keys) text)
among_more [] key text = refl
among_more (k ∷ keys) key text = ap (λ (b : Bool). bytes_eq text k.now || b) (among_more keys key text) ∙ or_swap (bytes_eq text k.now) (bytes_eq text key.now) (is_among (texts keys) text)

-- a key that is there is the same text as one that is put in
among_there : (keys : List (Bor (List ℕ))) (key : Bor (List ℕ)) (text : List ℕ) → is_among (texts keys) key.now ≡ true → is_among (texts keys) text ≡ (bytes_eq text key.now || is_among (texts keys) text)
among_there keys key text there =
    elim (cases_Bool (bytes_eq text key.now)) [
      | inl e ↦
          let same : text ≡ key.now = (bytes_eq-Decides text key.now).0 e in
          let a : is_among (texts keys) text ≡ true = subst (λ (t : List ℕ). is_among (texts keys) t ≡ true) (sym same) there in
          rw (e, a) refl
      | inr e ↦ rw e refl
    ]

pub among_insert : (keys : List (Bor (List ℕ))) (key : Bor (List ℕ)) (text : List ℕ) → is_among (texts (insert_key same_key keys key)) text ≡ (bytes_eq text key.now || is_among (texts keys) text)
among_insert keys key text =
    elim (cases_Bool (list_any (same_key key) keys)) [
      | inl e ↦ let there : is_among (texts keys) key.now ≡ true = sym (among_keys keys key.now) ∙ e in rw e (among_there keys key text there)
      | inr e ↦ rw e (among_more keys key text)
    ]

-- ---- texts of heads

same_text : (x y : List ℕ) → bytes_eq x y ≡ true → x ≡ y
same_text x y e = (bytes_eq-Decides x y).0 e

among_contains : (heads : List (List ℕ)) (text : List ℕ) → is_among heads text ≡ true → Contains heads text
among_contains heads text e = Contains-from_any {eq = bytes_eq} same_text text heads e

contains_among : (heads : List (List ℕ)) (text : List ℕ) → Contains heads text → is_among heads text ≡ true
contains_among heads text c = list_any-from_Contains {eq = bytes_eq} nat_list_eq_equiv text heads c

known_contained : (heads : List (List ℕ)) (calls : List Name) → list_all (λ call. is_among heads call.text) calls ≡ true → All (λ call. Contains heads call.text) calls
known_contained heads calls e =
    let a : All (λ call. is_among heads call.text ≡ true) calls = AllPass-from_list_all (λ call. is_among heads call.text) calls e in
    λ k d h. among_contains heads (get_or calls k d).text (a k d h)

contained_known : (heads : List (List ℕ)) (calls : List Name) → All (λ call. Contains heads call.text) calls → list_all (λ call. is_among heads call.text) calls ≡ true
contained_known heads calls a = list_all-from_AllPass (λ call. is_among heads call.text) calls (λ k d h. contains_among heads (get_or calls k d).text (a k d h))

all_same : (a b : List (List ℕ)) (calls : List Name) → ((text : List ℕ) → is_among a text ≡ is_among b text) → list_all (λ call. is_among a call.text) calls ≡ list_all (λ call. is_among b call.text) calls
all_same a b [] s = refl
all_same a b (c ∷ calls) s = ap (λ (t : Bool). t && list_all (λ call. is_among a call.text) calls) (s c.text) ∙ ap (λ (t : Bool). is_among b c.text && t) (all_same a b calls s)

-- ---- one part

-- the heads with the part's own
same_on : (keys more heads : List (List ℕ)) (head : List ℕ) → ((text : List ℕ) → is_among keys text ≡ is_among heads text) → ((text : List ℕ) → is_among more text ≡ (bytes_eq text head || is_among keys text))
    → (text : List ℕ) → is_among more text ≡ is_among (head ∷ heads) text
same_on keys more heads head s m text = m text ∙ ap (λ (b : Bool). bytes_eq text head || b) (s text)

pub stand_on : (parts : List Part) (part : Part) (rest : List Part) (keys more : List (List ℕ)) → StandTo parts (part ∷ rest) keys → ((text : List ℕ) → is_among more text ≡ (bytes_eq text (head_text part) || is_among keys text))
    → calls_among more part ≡ true → StandTo parts rest more
stand_on parts (Declaration name) rest keys more s m e = record {
  heads = name.text ∷ s.heads;
  same = same_on keys more s.heads name.text s.same m;
  back = s.back;
  forth = s.forth;
}
stand_on parts (Definition name calls) rest keys more s m e =
    let same = same_on keys more s.heads name.text s.same m in
    let known = known_contained (name.text ∷ s.heads) calls (sym (all_same more (name.text ∷ s.heads) calls same) ∙ e) in
    record {
      heads = name.text ∷ s.heads;
      same = same;
      back = λ c. s.back (known, c);
      forth = λ c. (s.forth c).1;
    }

pub stand_off : (parts : List Part) (part : Part) (rest : List Part) (keys more : List (List ℕ)) → StandTo parts (part ∷ rest) keys → ((text : List ℕ) → is_among more text ≡ (bytes_eq text (head_text part) || is_among keys text))
    → calls_among more part ≡ false → CallsStand [] parts → ⊥
stand_off parts (Declaration name) rest keys more s m e c = cc
stand_off parts (Definition name calls) rest keys more s m e c =
    let same = same_on keys more s.heads name.text s.same m in
    let known : list_all (λ call. is_among (name.text ∷ s.heads) call.text) calls ≡ true = contained_known (name.text ∷ s.heads) calls (s.forth c).0 in
    let yes : list_all (λ call. is_among more call.text) calls ≡ true = all_same more (name.text ∷ s.heads) calls same ∙ known in
    cc

-- ---- as the code comes to it

pub at_part : (parts : List CodePart) (i : ℕ) (part : CodePart) → i < length parts → part ≡ get_or parts i part → parts_view (drop i parts) ≡ part_view part ∷ parts_view (drop (i + 1) parts)
at_part parts i part h e =
    let d : drop i parts ≡ get_or parts i part ∷ drop (i + 1) parts = rw (add-one, drop-cons parts i part) refl in
    ap (λ (ps : List CodePart). parts_view ps) (d ∙ ap (λ (p : CodePart). p ∷ drop (i + 1) parts) (sym e))

-- the texts of the keys with the head of this part
pub keys_more : (keys more : List (Bor (List ℕ))) (key : Bor (List ℕ)) (head : List ℕ) → more ≡ insert_key same_key keys key → key.now ≡ head → (text : List ℕ) → is_among (texts more) text ≡ (bytes_eq text head || is_among (texts keys) text)
keys_more keys more key head e h text =
    ap (λ (ks : List (Bor (List ℕ))). is_among (texts ks) text) e ∙ among_insert keys key text ∙ ap (λ (w : List ℕ). bytes_eq text w || is_among (texts keys) text) h
