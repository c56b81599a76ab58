-- Tokens that cut the bytes, and parts that are written with them.
use Rattle.std.proofs.Common.{◌≡◌, ℕ, Bool, true, false, ◌||◌, List, [], ◌∷◌, ◌++◌, refl, subst}
use Rattle.std.proofs.lemmas.Bool.{or_right}
use Rattle.std.proofs.lemmas.List.Elements.{All-nil, All-cons, recursion_from_All}
use Rattle.std.specs.Prelude.{All}
use Rattle.std.specs.List.{flat_map, AllByRecursion}
use Rattle.cc_first_runs.specs.Program.{Name}
use Rattle.cc_first.specs.Names.{is_free_name}
use Rattle.cc_first.specs.Cut.{Spelled}
use Rattle.cc_first.specs.Unit.{Part, Declaration, Definition, part_tokens, unit_tokens, names_of_part, CallsStand, IsUnit}
use Rattle.cc_first.specs.Tokens.{is_mark_text, is_form_word, is_form_text, AreFormTokens, AreWritten, Spells, IsTokens, NoTokens}
use Rattle.cc_first.specs.UnitReads.{AreFree, IsFreePart, AreFreeParts, body_tokens, AreParts, NoParts}
use Rattle.cc_first.specs.declared.token.Token.{Token}

-- ---- the two ways to say how tokens are written

begins_spells : (tokens : List Token) (ts : List Spelled) → AreWritten tokens ts → Spells tokens ts []
begins_spells [] [] b = refl
begins_spells (x ∷ tokens) [] b = absurd cc
begins_spells [] (t ∷ ts) b = absurd b
begins_spells (x ∷ tokens) (t ∷ ts) b = (b.0, begins_spells tokens ts b.1)

spells_begins : (tokens : List Token) (ts : List Spelled) → Spells tokens ts [] → AreWritten tokens ts
spells_begins [] [] s = refl
spells_begins [] (t ∷ ts) s = absurd cc
spells_begins (x ∷ tokens) [] s = absurd s
spells_begins (x ∷ tokens) (t ∷ ts) s = (s.0, spells_begins tokens ts s.1)

-- ---- free names

free_append : (a b : List Name) → AreFree a → AreFree b → AreFree (a ++ b)
free_append [] b p q = q
free_append (x ∷ a) b p q = (p.0, free_append a b p.1 q)

free_split : (a b : List Name) → AreFree (a ++ b) → AreFree a × AreFree b
free_split [] b p = (tt, p)
free_split (x ∷ a) b p = let q = free_split a b p.1 in ((p.0, q.0), q.1)

free_names : (parts : List Part) → AreFreeParts parts → AreFree (flat_map names_of_part parts)
free_names [] f = tt
free_names (Declaration name ∷ parts) f = (f.0, free_names parts f.1)
free_names (Definition name calls ∷ parts) f = (f.0.0, free_append calls (flat_map names_of_part parts) f.0.1 (free_names parts f.1))

free_parts : (parts : List Part) → AreFree (flat_map names_of_part parts) → AreFreeParts parts
free_parts [] f = tt
free_parts (Declaration name ∷ parts) f = (f.0, free_parts parts f.1)
free_parts (Definition name calls ∷ parts) f = let q = free_split calls (flat_map names_of_part parts) f.1 in ((f.0, q.0), free_parts parts q.1)

free_all : (names : List Name) → AreFree names → All (λ name. is_free_name name.text ≡ true) names
free_all [] f = All-nil (λ name. is_free_name name.text ≡ true)
free_all (x ∷ names) f = All-cons (λ name. is_free_name name.text ≡ true) x names f.0 (free_all names f.1)

free_by : (names : List Name) → AllByRecursion (λ name. is_free_name name.text ≡ true) names → AreFree names
free_by [] a = tt
free_by (x ∷ names) a = (a.0, free_by names a.1)

all_free : (names : List Name) → All (λ name. is_free_name name.text ≡ true) names → AreFree names
all_free names a = free_by names (recursion_from_All (λ name. is_free_name name.text ≡ true) names a)

-- ---- a unit's tokens are of the first form

form_name : (text : List ℕ) → is_free_name text ≡ true → is_form_text text ≡ true
form_name text f = or_right (is_mark_text text) (is_form_word text) (or_right _ (is_free_name text) f)

form_append : (a b : List Spelled) → AreFormTokens a → AreFormTokens b → AreFormTokens (a ++ b)
form_append [] b p q = q
form_append (t ∷ a) b p q = (p.0, form_append a b p.1 q)

form_calls : (calls : List Name) → AreFree calls → AreFormTokens (body_tokens calls)
form_calls [] f = (refl, tt)
form_calls (c ∷ calls) f = (form_name c.text f.0, (refl, (refl, (refl, form_calls calls f.1))))

form_part : (part : Part) → IsFreePart part → AreFormTokens (part_tokens part)
form_part (Declaration name) f = (refl, (form_name name.text f, (refl, (refl, (refl, (refl, tt))))))
form_part (Definition name calls) f = (refl, (form_name name.text f.0, (refl, (refl, (refl, (refl, form_calls calls f.1))))))

pub form_unit : (parts : List Part) → AreFreeParts parts → AreFormTokens (unit_tokens parts)
form_unit [] f = tt
form_unit (part ∷ parts) f = form_append (part_tokens part) (unit_tokens parts) (form_part part f.0) (form_unit parts f.1)

-- ---- the whole

pub unit_some : (bytes : List ℕ) (tokens : List Token) (parts : List Part) → IsTokens bytes tokens → AreParts tokens parts → CallsStand [] parts → IsUnit bytes parts
unit_some bytes tokens parts t p c = record {
  spelled = t.cuts (unit_tokens parts) (begins_spells tokens (unit_tokens parts) p.written);
  free = free_all (flat_map names_of_part parts) (free_names parts p.free);
  calls = c;
}

pub unit_free : (bytes : List ℕ) (parts : List Part) → IsUnit bytes parts → AreFreeParts parts
unit_free bytes parts u = free_parts parts (all_free (flat_map names_of_part parts) u.free)

pub no_tokens : (bytes : List ℕ) → NoTokens bytes → (parts : List Part) → IsUnit bytes parts → ⊥
no_tokens bytes none parts u = none (unit_tokens parts) (form_unit parts (unit_free bytes parts u)) u.spelled

unit_written : (bytes : List ℕ) (tokens : List Token) (parts : List Part) → IsTokens bytes tokens → IsUnit bytes parts → AreWritten tokens (unit_tokens parts)
unit_written bytes tokens parts t u = spells_begins tokens (unit_tokens parts) (t.only (unit_tokens parts) (form_unit parts (unit_free bytes parts u)) u.spelled)

pub no_parts : (bytes : List ℕ) (tokens : List Token) → IsTokens bytes tokens → NoParts tokens → (parts : List Part) → IsUnit bytes parts → ⊥
no_parts bytes tokens t none parts u = none parts (unit_free bytes parts u) (unit_written bytes tokens parts t u)

pub no_calls : (bytes : List ℕ) (tokens : List Token) (read : List Part) → IsTokens bytes tokens → AreParts tokens read → (CallsStand [] read → ⊥) → (parts : List Part) → IsUnit bytes parts → ⊥
no_calls bytes tokens read t p none parts u =
    let same = p.only parts (unit_free bytes parts u) (unit_written bytes tokens parts t u) in
    none (subst (λ (ps : List Part). CallsStand [] ps) same u.calls)
