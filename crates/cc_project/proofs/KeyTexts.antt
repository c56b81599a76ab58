-- The texts of keys, as they are written.
use Rattle.std.proofs.Common.{◌≡◌, ℕ, List, [], ◌∷◌, ◌++◌, Some, ap, sym, ◌∙◌, append_assoc}
use Rattle.std.specs.Fmt.{decimal}
use Rattle.cc_project.specs.Places.{item_key, member_key}
use Rattle.cc_project.specs.Keys.{owned_key, field_text, indexed_key, key_text}
use Rattle.cc_project.specs.declared.fault.Owner.{Owner}
use Rattle.cc_project.specs.declared.fault.Field.{Field}
use Rattle.cc_project.specs.declared.fault.Place.{Place}

item_text : (key : List ℕ) (k : ℕ) → key ++ (91 ∷ (decimal k ++ (93 ∷ []))) ≡ item_key key k
item_text key k = simp append_assoc

member_text : (array : List ℕ) (i : ℕ) (name : List ℕ) → array ++ (91 ∷ (decimal i ++ (93 ∷ 46 ∷ name))) ≡ member_key (item_key array i) name
member_text array i name = simp append_assoc

pub field_text-owned : (field : Field) (owner : Owner) (text : List ℕ) → field.owner ≡ Some owner
    → text ≡ owner.array.now ++ (91 ∷ (decimal owner.index ++ (93 ∷ 46 ∷ field.name.now))) → text ≡ field_text field
field_text-owned field owner text is e =
    e ∙ member_text owner.array.now owner.index field.name.now ∙ sym (ap (λ o. owned_key o field.name.now) is)

pub key_text-item : (place : Place) (k : ℕ) (key text : List ℕ) → place.item ≡ Some k → key ≡ field_text place.field
    → text ≡ key ++ (91 ∷ (decimal k ++ (93 ∷ []))) → text ≡ key_text place
key_text-item place k key text is same e =
    e ∙ item_text key k ∙ ap (λ t. item_key t k) same ∙ sym (ap (indexed_key (field_text place.field)) is)
