-- What holds of a linked program, as the code keeps it.
use Rattle.std.specs.Prelude.{◌≡◌, ◌≢◌, ◌<◌, ◌≤◌, List, Some, All, AllPairs, length, map, slice_get}
use Rattle.cc_first.specs.Views.{name_view}
use Rattle.cc_first.specs.declared.program.Function.{Function}
use Rattle.cc_first.specs.declared.program.Call.{Call}
use Rattle.cc_first.specs.declared.program.Program.{Program}

-- a call stands in a function of the program, and the function that it calls has the name that it names
pub record IsLinkedCall (functions : List Function) (call : Call) : Type 0 where
  pub caller : call.caller < length functions
  pub callee : Function
  pub is_callee : slice_get functions call.callee ≡ Some callee
  pub named : (name_view callee.head).text ≡ (name_view call.name).text

-- What `link` makes, and the search for paths needs: each call is linked, calls stand in the order of their functions,
-- and no two functions have one name.
pub record IsSound (program : Program) : Type 0 where
  pub calls : All (IsLinkedCall program.functions.items) program.calls.items
  pub entry : program.entry < length program.functions.items
  pub ascending : AllPairs (λ a b. a.caller ≤ b.caller) program.calls.items
  pub once : AllPairs (λ a b. a ≢ b) (map (λ function. function.head.text.now) program.functions.items)
