-- What the trail of steps says of the names.
use Rattle.std.specs.Prelude.{◌≡◌, ℕ, ◌+◌, Option, None, Some, List, [], ◌∷◌, if◌then◌else◌}
use Rattle.std.specs.Str.{bytes_eq}
use Rattle.cc_scopes.specs.declared.innermost.Binding.{Binding}
use Rattle.cc_scopes.specs.declared.scopes.Step.{Step}
use Rattle.cc_scopes.specs.declared.scopes.Step.TheVariants.{Block, Name}
use Rattle.cc_scopes.specs.Names.{Names}

-- how many blocks are round the innermost names
abbrev pub depth_of : Names → ℕ
depth_of [] = 0
depth_of (None ∷ outside) = depth_of outside + 1
depth_of (Some d ∷ before) = depth_of before

-- the innermost declaration of a name, with the number of blocks round it
abbrev pub binding_of : Names → List ℕ → Option Binding
binding_of [] name = None
binding_of (None ∷ outside) name = binding_of outside name
binding_of (Some d ∷ before) name =
    if bytes_eq name d.0 then Some (record { declaration = d.1; depth = depth_of before }) else binding_of before name

-- the names after these steps, where these stood before
abbrev pub names_after : Names → List Step → Names
names_after names [] = names
names_after names (Block ∷ steps) = names_after (None ∷ names) steps
names_after names (Name x d hidden ∷ steps) = names_after (Some (x.now, d) ∷ names) steps

abbrev pub names_of : List Step → Names
names_of steps = names_after [] steps

-- each declaration knows the one that it hides
abbrev pub KnowHidden : Names → List Step → Type 0
KnowHidden names [] = Unit {0}
KnowHidden names (Block ∷ steps) = KnowHidden (None ∷ names) steps
KnowHidden names (Name x d hidden ∷ steps) =
    (hidden ≡ binding_of names x.now) × KnowHidden (Some (x.now, d) ∷ names) steps
