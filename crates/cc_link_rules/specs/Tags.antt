-- Structs with a tag over all files, and K4.
use Rattle.std.specs.Prelude.{ℕ, nat_eq, not, List, [], ◌∷◌, Option, Some, None, slice_get, if◌then◌else◌}
use Rattle.cc_base.specs.declared.place.FileId.{FileId}
use Rattle.cc_tree.specs.declared.ids.StructId.{StructId}
use Rattle.cc_types.specs.declared.structs.Member.{Member}
use Rattle.cc_types.specs.declared.structs.StructEntry.{StructEntry}
use Rattle.cc_types.specs.declared.member_lists.MemberLists.{MemberLists}
use Rattle.cc_types.specs.MemberLists.{no_lists, numbered}
use Rattle.cc_types.specs.Measures.{entry_of}
use Rattle.cc_symbols.specs.Places.{put_far}
use Rattle.cc_symbols.specs.declared.unit.Completed.{Completed}
use Rattle.cc_symbols.specs.declared.unit.CheckedUnit.{CheckedUnit}
use Rattle.cc_link_rules.specs.declared.fault.Fault.{Fault}
use Rattle.cc_link_rules.specs.declared.tags.Tags.{Tags}
use Rattle.cc_link_rules.specs.Definitions.{found}
use Rattle.cc_link_rules.specs.External.{no_fault, first_file}
use Rattle.cc_link_rules.specs.Faults.{broken_if, noted, next_file}

abbrev pub no_tags : Tags
no_tags = record { lists = no_lists; firsts = [] }

abbrev pub first_of : Tags → StructId → Option ℕ
first_of ts id = found (slice_get ts.firsts id.0)

abbrev pub with_first : Tags → StructId → ℕ → Tags
with_first ts id n = record { lists = ts.lists; firsts = put_far ts.firsts id.0 (Some n) None }

abbrev pub listed_as : Option ℕ → StructId → ℕ → Tags → Tags × Option ℕ
listed_as None id n ts = (with_first ts id n, None)
listed_as (Some m) id n ts = (ts, broken_if (not (nat_eq m n)) 4)

-- a struct gets the list of members of this number: what is known then, and the rule that this breaks
abbrev pub listed : StructId → ℕ → Tags → Tags × Option ℕ
listed id n ts = listed_as (first_of ts id) id n ts

abbrev pub with_lists : Tags → MemberLists → Tags
with_lists ts ls = record { lists = ls; firsts = ts.firsts }

abbrev pub told : StructId → List Member → Tags → Tags × Option ℕ
told id ms ts = let p = numbered ts.lists ms in listed id p.1 (with_lists ts p.0)

abbrev pub Tagging : Type 0
Tagging = Tags × Option Fault

abbrev pub noted_by : FileId → Completed → Option Fault → Tags × Option ℕ → Tagging
noted_by f c least p = (p.0, noted least p.1 f c.spot)

abbrev pub tag_one : FileId → List StructEntry → Completed → Tagging → Tagging
tag_one f es c p =
    if (entry_of es c.id).is_tagged
    then noted_by f c p.1 (told c.id (entry_of es c.id).members p.0)
    else p

abbrev pub tag_file : FileId → List StructEntry → List Completed → Tagging → Tagging
tag_file f es [] p = p
tag_file f es (c ∷ cs) p = tag_file f es cs (tag_one f es c p)

abbrev pub tag_from : FileId → List CheckedUnit → Tagging → Tagging
tag_from f [] p = p
tag_from f (u ∷ us) p = tag_from (next_file f) us (tag_file f u.structs u.completed p)

abbrev pub tag_files : List CheckedUnit → Tags → Tagging
tag_files us ts = tag_from first_file us (ts, no_fault)
