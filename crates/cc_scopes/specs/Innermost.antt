-- What the map of the innermost declarations says of a name.
use Rattle.std.specs.Prelude.{ℕ, Option, None, List, [], ◌∷◌, if◌then◌else◌}
use Rattle.std.specs.Borrow.{Bor}
use Rattle.std.specs.Str.{bytes_eq}
use Rattle.cc_scopes.specs.declared.innermost.Binding.{Binding}

abbrev pub binding_in : List (Bor (List ℕ) × Option Binding) → List ℕ → Option Binding
binding_in [] name = None
binding_in (e ∷ es) name = if bytes_eq name e.0.now then e.1 else binding_in es name
