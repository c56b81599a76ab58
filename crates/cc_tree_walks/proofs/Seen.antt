-- What two trees that hold lists are seen as.
use Rattle.std.proofs.Common.{rules, ◌≡◌, Bool, List}
use Rattle.cc_tree.specs.Trees.{braces, block}
use Rattle.cc_tree.specs.Views.{view_value, values_of, view_block, items_of}
use Rattle.cc_tree.specs.declared.declaration.Value.{Value}
use Rattle.cc_tree.specs.declared.declaration.Value as value_data
use Rattle.cc_tree.specs.declared.stmt.Block.{Block}
use Rattle.cc_tree.specs.declared.stmt.Block as block_data

pub block_is : {N : Type 0} (s : Block N) → view_block s ≡ block s.note (items_of s.items)
block_is s = search (rules, block_data.the_lemmas)

pub braces_are : {N : Type 0} (n : N) (vs : List (Value N)) (trailing : Bool) → view_value (value_data.List n vs trailing) ≡ braces n (values_of vs) trailing
braces_are n vs trailing = search (rules, value_data.the_lemmas)
