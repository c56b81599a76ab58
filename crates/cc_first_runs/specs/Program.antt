-- Programs of the first form: functions without parameters or results, whose bodies are direct calls.
use Rattle.std.specs.Prelude.{◌≡◌, ℕ, List, Some, slice_get}
use Rattle.cc_base.specs.declared.place.Spot.{Spot}

-- a name where it stands
pub record Name : Type 0 where
  pub text : List ℕ
  pub spot : Spot

-- a function with a body: the name in its head, the number of its file, which is that of its component, and the
-- names that its body calls, in order
pub record Function : Type 0 where
  pub head : Name
  pub file : ℕ
  pub calls : List Name

-- the functions in the order of their bodies: files in project order, and as they stand in a file
abbrev pub Program : Type 0
Program = List Function

-- function number f of the program
abbrev pub IsFunction : Program → ℕ → Function → Type 0
IsFunction program f function = slice_get program f ≡ Some function

-- call number i in the body of function number f names function number g
pub record IsSite (program : Program) (f i g : ℕ) : Type 0 where
  pub caller : Function
  pub call : Name
  pub callee : Function
  pub is_caller : IsFunction program f caller
  pub is_call : slice_get caller.calls i ≡ Some call
  pub is_callee : IsFunction program g callee
  pub named : callee.head.text ≡ call.text
