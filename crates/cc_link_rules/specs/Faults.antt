-- Which of two link faults comes first: by file, then by place, then by rule.
use Rattle.std.specs.Prelude.{ℕ, ◌+◌, ◌-◌, ◌^◌, Bool, nat_eq, nat_lt, Option, Some, None, if◌then◌else◌}
use Rattle.cc_base.specs.declared.place.FileId.{FileId}
use Rattle.cc_base.specs.declared.place.Place.{Place}
use Rattle.cc_base.specs.declared.place.Spot.{Spot}
use Rattle.cc_link_rules.specs.declared.fault.Fault.{Fault}

abbrev pub is_before : Fault → Fault → Bool
is_before a b =
    if nat_eq a.place.file.0 b.place.file.0
    then (if nat_eq a.place.line b.place.line
    then (if nat_eq a.place.column b.place.column then nat_lt a.rule b.rule else nat_lt a.place.column b.place.column)
    else nat_lt a.place.line b.place.line)
    else nat_lt a.place.file.0 b.place.file.0

abbrev pub lesser : Option Fault → Option Fault → Option Fault
lesser (Some a) (Some b) = Some (if is_before b a then b else a)
lesser (Some a) None = Some a
lesser None b = b

abbrev pub placed : FileId → Spot → Place
placed f s = record { file = f; line = s.line; column = s.column }

abbrev pub fault : FileId → Spot → ℕ → Fault
fault f s r = record { place = placed f s; rule = r }

-- the least fault, where a rule may be broken at a place
abbrev pub noted : Option Fault → Option ℕ → FileId → Spot → Option Fault
noted least (Some r) f s = lesser least (Some (fault f s r))
noted least None f s = least

abbrev pub broken_if : Bool → ℕ → Option ℕ
broken_if b r = if b then Some r else None

-- one more, where 2^32 - 1 stands for that many or more
abbrev pub next : ℕ → ℕ
next n = if nat_lt n (2 ^ 32 - 1) then n + 1 else n

abbrev pub next_file : FileId → FileId
next_file f = record { 0 = next f.0 }
