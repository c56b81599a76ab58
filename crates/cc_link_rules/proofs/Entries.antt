-- The entries of the map as names.
use Rattle.std.proofs.Common.{◌≡◌, refl, ap, ℕ, Bool, true, false, List, [], ◌∷◌, map, if◌then◌else◌}
use Rattle.std.specs.Prelude.{Option, Some, cond}
use Rattle.std.specs.Borrow.{Bor}
use Rattle.std.specs.Str.{bytes_eq}
use Rattle.std.specs.Map.{lookup}
use Rattle.indexmap.specs.IndexMap.{insert_entry}
use Rattle.cc_link_rules.specs.declared.linked.Linked.{Linked}
use Rattle.cc_link_rules.specs.Linked.{LinkedNames, known_of, put}

abbrev pub Entries : Type 0
Entries = List (Bor (List ℕ) × Linked)

abbrev pub names_in : Entries → LinkedNames
names_in es = map (λ e. (e.0.now, e.1)) es

either_found : (b : Bool) (l : Linked) (o k : Option Linked) → o ≡ k → cond b (Some l) o ≡ (if b then Some l else k)
either_found true l o k e = refl
either_found false l o k e = e

pub lookup_known : (es : Entries) (x : List ℕ) → lookup (λ k. bytes_eq x k.now) es ≡ known_of (names_in es) x
lookup_known [] x = refl
lookup_known (e ∷ es) x = either_found (bytes_eq x e.0.now) e.1 (lookup (λ k. bytes_eq x k.now) es) (known_of (names_in es) x) (lookup_known es x)

either_put : (b : Bool) (e : Bor (List ℕ) × Linked) (es more : Entries) (l : Linked) (ds : LinkedNames) → names_in more ≡ ds
    → names_in (if b then (e.0, l) ∷ es else e ∷ more) ≡ (if b then (e.0.now, l) ∷ names_in es else (e.0.now, e.1) ∷ ds)
either_put true e es more l ds h = refl
either_put false e es more l ds h = ap (λ z. (e.0.now, e.1) ∷ z) h

pub insert_put : (es : Entries) (k : Bor (List ℕ)) (l : Linked) → names_in (insert_entry (λ x y. bytes_eq x.now y.now) es k l) ≡ put (names_in es) k.now l
insert_put [] k l = refl
insert_put (e ∷ es) k l = either_put (bytes_eq k.now e.0.now) e es (insert_entry (λ x y. bytes_eq x.now y.now) es k l) l (put (names_in es) k.now l) (insert_put es k l)
