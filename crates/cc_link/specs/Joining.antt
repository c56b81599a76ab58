-- Which link rule the files of a project break first.
use Rattle.std.specs.Prelude.{ℕ, ◌≡◌, ◌⊎◌, List, [], length, Option, Some, None}
use Rattle.cc_arena.specs.declared.arena.Arena.{Arena}
use Rattle.cc_project.specs.Project.{Project}
use Rattle.cc_symbols.specs.declared.known.Known.{Known}
use Rattle.cc_symbols.specs.declared.symbols.Symbols.{Symbols}
use Rattle.cc_symbols.specs.declared.unit.CheckedUnit.{CheckedUnit}
use Rattle.cc_types.specs.declared.structs.StructEntry.{StructEntry}
use Rattle.cc_types.specs.Shapes.{types_of}
use Rattle.cc_link.specs.declared.fault.LinkFault.{LinkFault}
use Rattle.cc_link.specs.declared.fault.LinkFault.TheVariants.{Offence, Name, Memory}
use Rattle.cc_link_rules.specs.declared.callable.NameFault.{NameFault}
use Rattle.cc_link_rules.specs.declared.fault.Fault.{Fault}
use Rattle.cc_link_rules.specs.declared.standing.Standing.{Standing}
use Rattle.cc_link_rules.specs.Callable.{all_checked}
use Rattle.cc_link_rules.specs.Definitions.{Definitions, definitions}
use Rattle.cc_link_rules.specs.Ends.{end_files}
use Rattle.cc_link_rules.specs.External.{Linking, linked_files, all_marked}
use Rattle.cc_link_rules.specs.Faults.{lesser}
use Rattle.cc_link_rules.specs.Linked.{LinkedNames}
use Rattle.cc_link_rules.specs.Standings.{standings}
use Rattle.cc_link_rules.specs.Tags.{no_tags, tag_files}
use Rattle.cc_link_rules.specs.Typedefs.{typedef_files}
use Rattle.cc_link_rules.specs.Uses.{all_called, use_all}

-- the least fault of K4 and K5
abbrev pub type_faults : Symbols → List CheckedUnit → Option Fault
type_faults s us = lesser (tag_files us no_tags).1 (typedef_files s.texts us []).1

-- the least fault of K3, K9 and K10
abbrev pub use_faults : Symbols → Arena → Definitions → List Standing → List CheckedUnit → Option Fault
use_faults s a ds ss us = lesser (end_files s.types s.declared ds us) (use_all s.declared s.names ss (all_called a.nodes) us a.nodes)

abbrev pub refusal : Option Fault → Option NameFault → Option LinkFault
refusal (Some f) n = Some (Offence f.place f.rule)
refusal None (Some n) = Some (Name n.list n.index n.rule)
refusal None None = None

abbrev pub with_marks : List (List ℕ) → Linking → Linking
with_marks xs p = (all_marked xs p.0, p.1)

-- the names with external linkage, and the least fault of K1 and K2
abbrev pub names_linked : Symbols → Definitions → List CheckedUnit → List (List ℕ) → LinkedNames → Linking
names_linked s ds us xs ns = with_marks xs (linked_files s.types s.texts ds us ns)

abbrev pub all_faults : Symbols → Arena → Definitions → List CheckedUnit → Project → Linking → Option LinkFault
all_faults s a ds us p l =
    refusal
    (lesser (lesser l.1 (type_faults s us)) (use_faults s a ds (standings l.0 ds s.texts s.declared) us))
    (all_checked l.0 (types_of s.types) p.entries p.environment)

abbrev pub refusal_with : Symbols → Arena → Definitions → List CheckedUnit → Project → LinkedNames → Option LinkFault
refusal_with s a ds us p ns = all_faults s a ds us p (names_linked s ds us p.environment ns)

abbrev pub refusal_of : Symbols → Arena → List CheckedUnit → Project → LinkedNames → Option LinkFault
refusal_of s a us p ns = refusal_with s a (definitions (length s.declared) us) us p ns

-- What linking refuses, if it refuses: the least fault of K1 to K5, K9 and K10 by place and then rule; where there is none,
-- the first name of the project file that breaks one of K6 to K8.
abbrev pub refused : Symbols → Arena → List CheckedUnit → Project → Option LinkFault
refused s a us p = refusal_of s a us p []

-- want of memory, or what is refused
abbrev pub IsRefusal : LinkFault → Option LinkFault → Type 0
IsRefusal fault r = (fault ≡ Memory) ⊎ (r ≡ Some fault)

abbrev pub symbols_with : Symbols → List StructEntry → Symbols
symbols_with s es =
    record { types = s.types; structs = es; depths = s.depths; tags = s.tags; tagged = s.tagged; lists = s.lists; unnamed = s.unnamed; declared = s.declared; texts = s.texts; names = s.names; kinds = s.kinds }

-- what is known, with the structs of the whole project
abbrev pub with_structs : Known → List StructEntry → Known
with_structs k es = record { symbols = symbols_with k.symbols es; found = k.found }
