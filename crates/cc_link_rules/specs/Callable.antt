-- Entries and functions of the environment, and K6 to K8.
use Rattle.std.specs.Prelude.{ℕ, ◌+◌, Bool, true, false, not, ◌&&◌, List, [], ◌∷◌, Option, Some, None, is_some, if◌then◌else◌}
use Rattle.cc_types.specs.CTypes.{CTypeTree, void, integer_of, returning, taking}
use Rattle.cc_types.specs.Shapes.{type_at}
use Rattle.cc_link_rules.specs.declared.callable.NameFault.{NameFault}
use Rattle.cc_link_rules.specs.declared.fault.Names.{Names}
use Rattle.cc_link_rules.specs.declared.fault.Names.TheVariants.{Entries, Environment}
use Rattle.cc_link_rules.specs.declared.linked.Linked.{Linked}
use Rattle.cc_link_rules.specs.Faults.{broken_if, next}
use Rattle.cc_link_rules.specs.Linked.{LinkedNames, known_of}

abbrev pub is_integer : CTypeTree → Bool
is_integer (integer_of k i) = true
is_integer t = false

abbrev pub is_value : CTypeTree → Bool
is_value (integer_of k i) = true
is_value (void k) = true
is_value t = false

abbrev pub gives_value : CTypeTree → Bool
gives_value (returning t) = is_value t
gives_value t = false

-- a function that takes integers and gives an integer or nothing
abbrev pub takes_numbers : CTypeTree → Bool
takes_numbers (taking t f) = is_integer t && takes_numbers f
takes_numbers t = gives_value t

-- how many parameters a function has
abbrev pub parameters : CTypeTree → ℕ
parameters (taking t f) = parameters f + 1
parameters t = 0

abbrev pub typed_or : List CTypeTree → Linked → ℕ → Option ℕ
typed_or ts l r = broken_if (not (takes_numbers (type_at ts l.kind))) r

-- K6, or else K7
abbrev pub entry_rule : List CTypeTree → Option Linked → Option ℕ
entry_rule ts (Some l) = if l.is_function && is_some l.definition then typed_or ts l 7 else Some 6
entry_rule ts None = Some 6

-- K8
abbrev pub environment_rule : List CTypeTree → Option Linked → Option ℕ
environment_rule ts (Some l) = if l.is_function && not (is_some l.definition) then typed_or ts l 8 else Some 8
environment_rule ts None = Some 8

abbrev pub rule_of : List CTypeTree → Names → Option Linked → Option ℕ
rule_of ts Entries l = entry_rule ts l
rule_of ts Environment l = environment_rule ts l

abbrev pub first_fault : Option NameFault → Names → ℕ → Option ℕ → Option NameFault
first_fault (Some f) list i broken = Some f
first_fault None list i (Some r) = Some (record { list = list; index = i; rule = r })
first_fault None list i None = None

-- the names of a list, numbered from i on
abbrev pub names_checked : LinkedNames → List CTypeTree → Names → ℕ → List (List ℕ) → Option NameFault → Option NameFault
names_checked ns ts list i [] first = first
names_checked ns ts list i (x ∷ xs) first = names_checked ns ts list (next i) xs (first_fault first list i (rule_of ts list (known_of ns x)))

abbrev pub no_name_fault : Option NameFault
no_name_fault = None

-- the first name that breaks a rule: the entries first, then the functions of the environment
abbrev pub all_checked : LinkedNames → List CTypeTree → List (List ℕ) → List (List ℕ) → Option NameFault
all_checked ns ts entries environment =
    names_checked ns ts Environment 0 environment (names_checked ns ts Entries 0 entries no_name_fault)
