-- How many initialisers there are.
use Rattle.std.proofs.Common.{◌≡◌, refl, suc, List, [], ◌∷◌, length, ap}
use Rattle.cc_tree.specs.declared.declaration.Value.{Value}
use Rattle.cc_tree.specs.Views.{values_of}
use Rattle.cc_tree_notes.specs.declared.note.Counted.{Counted}
use Rattle.cc_check_values.specs.Lengths.{count}

-- as they stand and in the tree
pub count_is : (vs : List (Value Counted)) → length vs ≡ count (values_of vs)
count_is [] = refl
count_is (v ∷ vs) = ap suc (count_is vs)
