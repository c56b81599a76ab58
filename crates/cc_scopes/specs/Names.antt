-- Declared names in nested scopes (C17 6.2.1), innermost first; `None` stands where a block begins.
use Rattle.std.specs.Prelude.{ℕ, Bool, false, ◌||◌, Option, None, Some, List, [], ◌∷◌, if◌then◌else◌}
use Rattle.std.specs.Str.{bytes_eq}

-- each name with the number of its declaration
abbrev pub Names : Type 0
Names = List (Option (List ℕ × ℕ))

-- the declaration that a name means: the innermost one with this name
abbrev pub declaration_of : Names → List ℕ → Option ℕ
declaration_of [] name = None
declaration_of (None ∷ outside) name = declaration_of outside name
declaration_of (Some d ∷ before) name = if bytes_eq name d.0 then Some d.1 else declaration_of before name

-- whether a name is declared in the innermost block itself
abbrev pub is_here : Names → List ℕ → Bool
is_here [] name = false
is_here (None ∷ outside) name = false
is_here (Some d ∷ before) name = bytes_eq name d.0 || is_here before name

-- the names outside the innermost block
abbrev pub names_outside : Names → Names
names_outside [] = []
names_outside (None ∷ outside) = outside
names_outside (Some d ∷ before) = names_outside before
