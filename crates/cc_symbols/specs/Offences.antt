-- Which of two offences comes first: by place, then by rule.
use Rattle.std.specs.Prelude.{Bool, nat_eq, nat_lt, Option, Some, None, if◌then◌else◌}
use Rattle.cc_symbols.specs.declared.offence.Offence.{Offence}

abbrev pub is_before : Offence → Offence → Bool
is_before a b =
    if nat_eq a.spot.line b.spot.line
    then (if nat_eq a.spot.column b.spot.column then nat_lt a.rule b.rule else nat_lt a.spot.column b.spot.column)
    else nat_lt a.spot.line b.spot.line

abbrev pub lesser : Option Offence → Option Offence → Option Offence
lesser (Some a) (Some b) = Some (if is_before b a then b else a)
lesser (Some a) None = Some a
lesser None b = b
