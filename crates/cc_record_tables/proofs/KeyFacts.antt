-- Keys stand for couplings.
use Rattle.std.proofs.Common.{◌≡◌, suc, arith, List, [], ◌∷◌, ◌++◌, ◌⊎◌, inl, inr, ⊎_elim, Bool, true, false, refl, sym, ap, ◌∙◌, subst, rules, if◌then◌else◌, ◌||◌}
use Rattle.std.specs.Prelude.{◌↔◌, Contains, map}
use Rattle.std.specs.List.{list_any}
use Rattle.indexmap.specs.IndexSet.{insert_key}
use Rattle.std.proofs.lemmas.List.Elements.{Contains-push, Contains-push_cases, Contains-append_left, Contains-append_cases}
use Rattle.std.proofs.lemmas.List.{map-append}
use Rattle.cc_meaning.specs.declared.coupling.Coupling.{Coupling}
use Rattle.cc_meaning.specs.declared.coupling.Coupling.TheVariants as coupling
use Rattle.cc_record_tables.specs.declared.couplings.Key.{Key}
use Rattle.cc_record_tables.specs.declared.couplings.Key.TheVariants as key
use Rattle.cc_record_tables.specs.Keys.{key_of, coupling_of, same_key}

pub says : (a b : Key) → same_key a b ≡ true → a ≡ b
says (key.Call s g) (key.Call t f) e = search rules
says (key.Shared d u x) (key.Shared e v y) h = search rules
says (key.Parameter d s k g u) (key.Parameter e t i f v) h = search rules
says (key.Return d s g) (key.Return e t f) h = search rules
says a b e = cc

pub tells : (a b : Key) → a ≡ b → same_key a b ≡ true
tells a b e = search rules

pub back : (q : Coupling) → coupling_of (key_of q) ≡ q
back (coupling.Call s g) = refl
back (coupling.Shared d u x) = refl
back (coupling.Parameter d s k g u) = refl
back (coupling.Return d s g) = refl

pub forth : (k : Key) → key_of (coupling_of k) ≡ k
forth (key.Call s g) = refl
forth (key.Shared d u x) = refl
forth (key.Parameter d s k g u) = refl
forth (key.Return d s g) = refl

abbrev pub couplings : List Key → List Coupling
couplings keys = map coupling_of keys

later : (x : Coupling) (xs : List Coupling) (q : Coupling) → Contains xs q → Contains (x ∷ xs) q
later x xs q h = (suc h.0, (let lt = h.1 in omega arith), h.2)

one_or_later : (x : Coupling) (xs : List Coupling) (q : Coupling) → Contains (x ∷ xs) q → (x ≡ q) ⊎ Contains xs q
one_or_later x xs q h = ⊎_elim (λ l. inl (single l)) (λ r. inr r) (Contains-append_cases (x ∷ []) xs q h)
  where
    single : Contains (x ∷ []) q → x ≡ q
    single l = ⊎_elim (λ z. absurd (let lt = z.1 in omega arith)) (λ e. e) (Contains-push_cases [] x q l)

-- the set has the key exactly where the couplings have the coupling
any_has : (keys : List Key) (q : Coupling) → list_any (same_key (key_of q)) keys ≡ true → Contains (couplings keys) q
any_has [] q h = absurd (let z = h in cc)
any_has (k ∷ keys) q h = by (same_key (key_of q) k) refl h (λ g. any_has keys q g)
  where
    by : (b : Bool) → same_key (key_of q) k ≡ b → (b || list_any (same_key (key_of q)) keys) ≡ true → (list_any (same_key (key_of q)) keys ≡ true → Contains (couplings keys) q) → Contains (coupling_of k ∷ couplings keys) q
    by true e g ih =
        let same : coupling_of k ≡ q = ap coupling_of (sym (says (key_of q) k e)) ∙ back q in
        (0, omega arith, same)
    by false e g ih = later (coupling_of k) (couplings keys) q (ih g)

has_any : (keys : List Key) (q : Coupling) → Contains (couplings keys) q → list_any (same_key (key_of q)) keys ≡ true
has_any [] q h = absurd (let lt = h.1 in omega arith)
has_any (k ∷ keys) q h = ⊎_elim
    (λ e. ap (λ b. b || list_any (same_key (key_of q)) keys) (tells (key_of q) k (ap key_of (sym e) ∙ forth k)))
    (λ g. ap (λ b. same_key (key_of q) k || b) (has_any keys q g) ∙ or_true (same_key (key_of q) k))
    (one_or_later (coupling_of k) (couplings keys) q h)
  where
    or_true : (b : Bool) → (b || true) ≡ true
    or_true true = refl
    or_true false = refl

pub has_is : (keys : List Key) (q : Coupling) → (list_any (same_key (key_of q)) keys ≡ true) ↔ Contains (couplings keys) q
has_is keys q = (any_has keys q, has_any keys q)

-- one coupling more
pub added : (keys : List Key) (c : Coupling) → (q : Coupling) → Contains (couplings (insert_key same_key keys (key_of c))) q ↔ Contains (couplings keys) q ⊎ (q ≡ c)
added keys c q = by (list_any (same_key (key_of c)) keys) refl
  where
    there : list_any (same_key (key_of c)) keys ≡ true → q ≡ c → Contains (couplings keys) q
    there e same = subst (λ (x : Coupling). Contains (couplings keys) x) (sym same) (any_has keys c e)

    behind : (couplings (keys ++ key_of c ∷ [])) ≡ couplings keys ++ c ∷ []
    behind = map-append coupling_of keys (key_of c ∷ []) ∙ ap (λ x. couplings keys ++ x ∷ []) (back c)

    by : (b : Bool) → list_any (same_key (key_of c)) keys ≡ b → Contains (couplings (if b then keys else keys ++ key_of c ∷ [])) q ↔ Contains (couplings keys) q ⊎ (q ≡ c)
    by true e = (λ h. inl h, λ h. ⊎_elim (λ x. x) (λ same. there e same) h)
    by false e = (
      λ h. ⊎_elim (λ x. inl x) (λ same. inr (sym same)) (Contains-push_cases (couplings keys) c q (subst (λ (l : List Coupling). Contains l q) behind h)),
      λ h. subst (λ (l : List Coupling). Contains l q) (sym behind) (⊎_elim (λ x. Contains-append_left (couplings keys) (c ∷ []) q x) (λ same. subst (λ (x : Coupling). Contains (couplings keys ++ c ∷ []) x) (sym same) (Contains-push (couplings keys) c)) h),
    )
