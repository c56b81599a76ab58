-- Arrays and tables, and the lists that they stand for.
use Rattle.std.proofs.Common.{◌≡◌, ℕ, Bool, List, [], ◌∷◌, map, length, suc, Vec, Global, refl, ap, ◌∙◌}
use Rattle.toml.specs.Data.{Data, array}
use Rattle.toml.specs.View.{view, items_view}
use Rattle.toml.specs.declared.value.Value.{Value, Array}
use Rattle.toml.proofs.Views.{view-Array}
use Rattle.cc_project.specs.Values.{list_of, items_of, is_array, is_list}
use Rattle.cc_project.specs.Rules.{is_call, is_call_list}

pub list_of_items : (values : List Value) → list_of (items_view values) ≡ map view values
list_of_items [] = refl
list_of_items (value ∷ rest) = ap (λ ds. view value ∷ ds) (list_of_items rest)

pub length_of_data : (values : List Value) → length (map view values) ≡ length values
length_of_data [] = refl
length_of_data (value ∷ rest) = ap suc (length_of_data rest)

array_data : (value : Value) (items : Vec Value Global) → value ≡ Array items → view value ≡ array (items_view items.items)
array_data value items is = ap view is ∙ view-Array items

-- what is asked of an array is asked of the list of its items
pub items_of-array : (value : Value) (items : Vec Value Global) → value ≡ Array items → items_of (view value) ≡ map view items.items
items_of-array value items is = ap items_of (array_data value items is) ∙ list_of_items items.items

pub is_call-array : (value : Value) (items : Vec Value Global) → value ≡ Array items → is_call (view value) ≡ is_call_list (map view items.items)
is_call-array value items is = ap is_call (array_data value items is) ∙ ap is_call_list (list_of_items items.items)

pub is_array-array : (least most : ℕ) (test : Data → Bool) (value : Value) (items : Vec Value Global) → value ≡ Array items
    → is_array least most test (view value) ≡ is_list least most test (map view items.items)
is_array-array least most test value items is =
    ap (is_array least most test) (array_data value items is) ∙ ap (is_list least most test) (list_of_items items.items)
