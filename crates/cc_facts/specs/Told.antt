-- What a table of facts tells.
use Rattle.std.specs.Prelude.{ℕ, ◌+◌, ◌-◌, ◌^◌, Bool, true, false, ◌&&◌, nat_lt, nat_le, nat_eq, if◌then◌else◌, List, take, Option, Some, None, slice_get}
use Rattle.cc_blocks.specs.Pairs.{pair_count, has_pair}
use Rattle.cc_parts.specs.PartTables.{count_of}
use Rattle.cc_facts.specs.declared.target.Target.{Target}
use Rattle.cc_facts.specs.declared.target.Target.TheVariants.{Part, Function}
use Rattle.cc_facts.specs.declared.facts.Facts.{Facts}

abbrev pub parts_in : Facts → ℕ
parts_in F = count_of F.parts.parts

-- The number of a target, below 2^32: that of the part, or, for a function, after those of all parts.
abbrev pub number_of : Facts → Target → Option ℕ
number_of F (Part q) = if nat_lt q (parts_in F) then Some q else None
number_of F (Function g) = if nat_le g (2 ^ 32 - 1 - parts_in F) then Some (parts_in F + g) else None

abbrev pub target_of : Facts → ℕ → Target
target_of F n = if nat_lt n (parts_in F) then Part n else Function (n - parts_in F)

-- the holder of what a slot may hold; those of the values come before
abbrev pub slot_holder : Facts → ℕ → ℕ
slot_holder F s = F.occurrences + s

-- where the parts of lvalues begin
abbrev pub first_place : Facts → ℕ
first_place F = F.occurrences + parts_in F

-- the holder of the parts of an lvalue
abbrev pub place_holder : Facts → ℕ → ℕ
place_holder F o = first_place F + o

-- the holder has the target, if that has a number
abbrev pub has : Facts → ℕ → Option ℕ → Bool
has F h (Some t) = has_pair F.rows.rows.items h t
has F h None = false

-- the value of the occurrence may be the target
abbrev pub may_be : Facts → ℕ → Target → Bool
may_be F o t = nat_lt o F.occurrences && has F o (number_of F t)

-- the slot may hold the target
abbrev pub may_hold : Facts → ℕ → Target → Bool
may_hold F s t = nat_lt s (parts_in F) && has F (slot_holder F s) (number_of F t)

-- the lvalue may have the part
abbrev pub has_part : Facts → ℕ → ℕ → Bool
has_part F o q = nat_lt o F.occurrences && has F (place_holder F o) (Some q)

abbrev pub or_none : Option (Option ℕ) → Option ℕ
or_none (Some x) = x
or_none None = None

abbrev pub or_false : Option Bool → Bool
or_false (Some b) = b
or_false None = false

-- what a call calls
abbrev pub designator : Facts → ℕ → Option ℕ
designator F site = or_none (slice_get F.sites site)

abbrev pub is_defined : Facts → ℕ → Bool
is_defined F g = or_false (slice_get F.defined g)

abbrev pub called_by : Facts → Option ℕ → ℕ → Bool
called_by F (Some f) g = is_defined F g && may_be F f (Function g)
called_by F None g = false

-- a site may call a function with a body that the value of its designator may be
abbrev pub may_call : Facts → ℕ → ℕ → Bool
may_call F site g = called_by F (designator F site) g

-- how many facts there are: the targets of all values and slots
abbrev pub len : Facts → ℕ
len F = pair_count (take (first_place F) F.rows.rows.items)
