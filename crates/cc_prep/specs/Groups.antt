-- Groups (C17 6.10.1), the innermost last.
use Rattle.std.specs.Prelude.{ℕ, ◌-◌, Bool, true, false, not, ◌&&◌, if◌then◌else◌, List, [], ◌∷◌, ◌++◌, length, slice_get, slice_set, Option, Some, None}
use Rattle.cc_prep.specs.declared.group.Group.{Group}

abbrev pub innermost : List Group → Option Group
innermost groups = slice_get groups (length groups - 1)

abbrev pub active : Option Group → Bool
active None = true
active (Some group) = group.is_active

-- whether text is read inside these groups
abbrev pub is_active : List Group → Bool
is_active groups = active (innermost groups)

-- with a group whose text is read where the text around it is, and the condition holds
abbrev pub opened : List Group → ℕ → Bool → List Group
opened groups hash condition =
    groups ++ record { hash = hash; is_in_active = is_active groups; is_active = is_active groups && condition; has_else = false } ∷ []

-- behind its `else` line
abbrev pub turned : Group → Group
turned group = record group { is_active = group.is_in_active && not group.is_active; has_else = true }

-- an `else` line may stand: a group is open, and hasn't had one
abbrev pub may_turn : Option Group → Bool
may_turn None = false
may_turn (Some group) = not group.has_else

abbrev pub turned_in : List Group → Option Group → List Group
turned_in groups None = groups
turned_in groups (Some group) = if group.has_else then groups else slice_set groups (length groups - 1) (turned group)

-- an `elif` line belongs to a group in text that is read
abbrev pub own_elif : Option Group → Bool
own_elif None = false
own_elif (Some group) = group.is_in_active
