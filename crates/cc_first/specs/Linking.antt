-- What stands while a program is made of two files.
use Rattle.std.specs.Prelude.{◌≡◌, ◌≢◌, ◌++◌, ℕ, List, [], ◌∷◌, Some, AllPairs, map, slice_get}
use Rattle.std.specs.List.{AllZip}
use Rattle.std.proofs.Common.{Bor}
use Rattle.cc_first_runs.specs.Program as tree
use Rattle.cc_first.specs.Views.{name_view}
use Rattle.cc_first.specs.declared.program.Function.{Function}
use Rattle.cc_first.specs.declared.program.Call.{Call}

-- the names in the heads of the functions
abbrev pub texts_of : List Function → List (List ℕ)
texts_of functions = map (λ function. function.head.text.now) functions

-- the names of a set, in its order
abbrev pub names_of : List (Bor (List ℕ)) → List (List ℕ)
names_of keys = map (λ key. key.now) keys

-- the set has the names of the functions in their order, and no two are equal
pub record AreNumbered (functions : List Function) (keys : List (Bor (List ℕ))) : Type 0 where
  pub same : names_of keys ≡ texts_of functions
  pub once : AllPairs (λ a b. a ≢ b) (texts_of functions)

-- a function without its calls
abbrev pub bare : tree.Function → tree.Function
bare function = record { head = function.head; file = function.file; calls = [] }

abbrev pub bare_view : Function → tree.Function
bare_view function = record { head = name_view function.head; file = function.file.0; calls = [] }

-- the call is of this name, stands in this function, and leads to the one that has the name
pub record IsCallFrom (names : List (List ℕ)) (caller : ℕ) (name : tree.Name) (call : Call) : Type 0 where
  pub named : name_view call.name ≡ name
  pub placed : call.caller ≡ caller
  pub callee : slice_get names call.callee ≡ Some name.text

-- the calls are those of the functions' bodies, one body after another
abbrev pub AreCalls : List (List ℕ) → tree.Program → List Call → Type 0
AreCalls names [] calls = calls ≡ []
AreCalls names (function ∷ rest) calls =
    (caller : ℕ) × (own : List Call) × (others : List Call) × (slice_get names caller ≡ Some function.head.text) × (calls ≡ own ++ others)
    × AllZip (IsCallFrom names caller) function.calls own × AreCalls names rest others
