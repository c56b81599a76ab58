-- The rows of a definition.
use Rattle.std.specs.Prelude.{ℕ, Bool, false, not, ◌&&◌, ◌||◌, nat_eq, nat_lt, Option, Some, None}
use Rattle.cc_meaning.specs.declared.coupling.Coupling.{Coupling}
use Rattle.cc_meaning.specs.declared.coupling.Coupling.TheVariants.{Call, Shared, Parameter, Return}
use Rattle.cc_score.specs.declared.groups.Group.{Group}
use Rattle.cc_score.specs.declared.groups.Groups.{Groups}

-- the kind of a row, by its place in the table
abbrev pub kind_of : Coupling → ℕ
kind_of (Call site callee) = 0
kind_of (Shared d reader object) = 1
kind_of (Parameter d site k callee reader) = 2
kind_of (Return d site callee) = 3

-- the definition of a row; 0 for a call row
abbrev pub definition_or : Coupling → ℕ
definition_or (Call site callee) = 0
definition_or (Shared d reader object) = d
definition_or (Parameter d site k callee reader) = d
definition_or (Return d site callee) = d

-- the row's place is before the rows of this kind and definition
abbrev pub is_before : Coupling → (kind wanted : ℕ) → Bool
is_before row kind wanted = nat_lt (kind_of row) kind || (nat_eq (kind_of row) kind && nat_lt (definition_or row) wanted)

abbrev pub stands_before : Option Coupling → (kind wanted : ℕ) → Bool
stands_before (Some row) kind wanted = is_before row kind wanted
stands_before None kind wanted = false

-- the row has this kind and definition
abbrev pub is_of : Option Coupling → (kind wanted : ℕ) → Bool
is_of (Some row) kind wanted = nat_eq (kind_of row) kind && nat_eq (definition_or row) wanted
is_of None kind wanted = false

-- the row is one of the group
abbrev pub inside : Group → ℕ → Bool
inside group row = not (nat_lt row group.start) && nat_lt row group.«end»

-- the row is one of the groups
abbrev pub has : Groups → ℕ → Bool
has groups row = inside groups.shared row || (inside groups.parameter row || inside groups.returned row)
