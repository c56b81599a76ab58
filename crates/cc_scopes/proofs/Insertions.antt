-- What the map of the innermost declarations says after an insertion.
use Rattle.std.proofs.Common.{◌≡◌, refl, sym, ◌∙◌, ℕ, Bool, true, false, List, [], ◌∷◌, if◌then◌else◌}
use Rattle.std.specs.Prelude.{Option, None, Some, cond}
use Rattle.std.specs.Borrow.{Bor}
use Rattle.std.specs.Str.{bytes_eq}
use Rattle.std.proofs.lemmas.Slice.Eq.{bytes_eq-Decides}
use Rattle.std.specs.Map.{lookup}
use Rattle.indexmap.specs.IndexMap.{insert_entry}
use Rattle.cc_scopes.specs.declared.innermost.Binding.{Binding}
use Rattle.cc_scopes.specs.Innermost.{binding_in}

abbrev same_text : Bor (List ℕ) → Bor (List ℕ) → Bool
same_text x y = bytes_eq x.now y.now

module _ {A : Type 0} where
  asked_again : (b : Bool) (v w o : A) → (if b then v else o) ≡ (if b then v else (if b then w else o))
  asked_again true v w o = refl
  asked_again false v w o = refl

  asked_in_turn : (b c : Bool) (v w o : A) → (b ≡ true → c ≡ true → ⊥) → (if c then w else (if b then v else o)) ≡ (if b then v else (if c then w else o))
  asked_in_turn true true v w o apart = absurd (apart refl refl)
  asked_in_turn true false v w o apart = refl
  asked_in_turn false true v w o apart = refl
  asked_in_turn false false v w o apart = refl

not_both : (b : Bool) → b ≡ true → b ≡ false → ⊥
not_both b is isnt = cc

first_entry : (e : Bor (List ℕ) × Option Binding) (es more : List (Bor (List ℕ) × Option Binding)) (x : Bor (List ℕ)) (v : Option Binding) (y : List ℕ) (same : Bool)
    → same_text x e.0 ≡ same → binding_in more y ≡ (if bytes_eq y x.now then v else binding_in es y)
    → binding_in (if same then (e.0, v) ∷ es else e ∷ more) y ≡ (if bytes_eq y x.now then v else binding_in (e ∷ es) y)
first_entry e es more x v y true is others =
    let equal : x.now ≡ e.0.now = (bytes_eq-Decides x.now e.0.now).0 is in
    rw equal (asked_again (bytes_eq y e.0.now) v e.1 (binding_in es y))
first_entry e es more x v y false is others =
    let apart : bytes_eq y x.now ≡ true → bytes_eq y e.0.now ≡ true → ⊥ =
    λ a b. not_both (same_text x e.0) ((bytes_eq-Decides x.now e.0.now).1 (sym ((bytes_eq-Decides y x.now).0 a) ∙ (bytes_eq-Decides y e.0.now).0 b)) is in
    rw others (asked_in_turn (bytes_eq y x.now) (bytes_eq y e.0.now) v e.1 (binding_in es y) apart)

pub binding_in-insert : (es : List (Bor (List ℕ) × Option Binding)) (x : Bor (List ℕ)) (v : Option Binding) (y : List ℕ) → binding_in (insert_entry same_text es x v) y ≡ (if bytes_eq y x.now then v else binding_in es y)
binding_in-insert [] x v y = refl
binding_in-insert (e ∷ es) x v y = first_entry e es (insert_entry same_text es x v) x v y (same_text x e.0) refl (binding_in-insert es x v y)

abbrev pub joined : Option (Option Binding) → Option Binding
joined None = None
joined (Some b) = b

either_joined : (same : Bool) (v : Option Binding) (o : Option (Option Binding)) (b : Option Binding) → joined o ≡ b → joined (cond same (Some v) o) ≡ (if same then v else b)
either_joined true v o b is = refl
either_joined false v o b is = is

pub joined-lookup : (es : List (Bor (List ℕ) × Option Binding)) (x : List ℕ) → joined (lookup (λ k. bytes_eq x k.now) es) ≡ binding_in es x
joined-lookup [] x = refl
joined-lookup (e ∷ es) x = either_joined (bytes_eq x e.0.now) e.1 (lookup (λ k. bytes_eq x k.now) es) (binding_in es x) (joined-lookup es x)
