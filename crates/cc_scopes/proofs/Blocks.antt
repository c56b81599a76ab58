-- What holds of the names of one block.
use Rattle.std.proofs.Common.{◌≡◌, refl, ℕ, Bool, true, false, ◌||◌, List, [], ◌∷◌, ◌++◌, map, if◌then◌else◌}
use Rattle.std.specs.Prelude.{None, Some}
use Rattle.std.specs.Str.{bytes_eq}
use Rattle.cc_scopes.specs.Names.{Names, declaration_of, is_here, names_outside}

pub names_outside-block : (declared : List (List ℕ × ℕ)) (outside : Names) → names_outside (map Some declared ++ None ∷ outside) ≡ outside
names_outside-block [] outside = refl
names_outside-block (d ∷ declared) outside = names_outside-block declared outside

not_this_one : {A : Type 0} (same here : Bool) (v o w : A) → (same || here) ≡ false → (here ≡ false → o ≡ w) → (if same then v else o) ≡ w
not_this_one true here v o w is others = cc
not_this_one false here v o w is others = others is

pub declaration_of-block : (declared : List (List ℕ × ℕ)) (outside : Names) (name : List ℕ) → is_here (map Some declared ++ None ∷ outside) name ≡ false → declaration_of (map Some declared ++ None ∷ outside) name ≡ declaration_of outside name
declaration_of-block [] outside name other = refl
declaration_of-block (d ∷ declared) outside name other =
    not_this_one (bytes_eq name d.0) (is_here (map Some declared ++ None ∷ outside) name) (Some d.1) (declaration_of (map Some declared ++ None ∷ outside) name) (declaration_of outside name) other (declaration_of-block declared outside name)
