-- The key texts of the places that the code speaks of.
use Rattle.std.specs.Prelude.{ℕ, List, Option, Some, None}
use Rattle.cc_project.specs.Places.{item_key, member_key}
use Rattle.cc_project.specs.declared.fault.Owner.{Owner}
use Rattle.cc_project.specs.declared.fault.Field.{Field}
use Rattle.cc_project.specs.declared.fault.Place.{Place}

abbrev pub owned_key : Option Owner → List ℕ → List ℕ
owned_key None name = name
owned_key (Some owner) name = member_key (item_key owner.array.now owner.index) name

abbrev pub field_text : Field → List ℕ
field_text field = owned_key field.owner field.name.now

abbrev pub indexed_key : List ℕ → Option ℕ → List ℕ
indexed_key key None = key
indexed_key key (Some k) = item_key key k

abbrev pub key_text : Place → List ℕ
key_text place = indexed_key (field_text place.field) place.item
