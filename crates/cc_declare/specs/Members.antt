-- Members of structs (C17 6.7.2.1).
use Rattle.std.specs.Prelude.{ℕ, true, false, ◌&&◌, Option, Some, None, List, [], ◌∷◌, ◌++◌, if◌then◌else◌}
use Rattle.cc_scopes.specs.Names.{is_here, names_outside}
use Rattle.cc_symbols.specs.Symbols as symbols
use Rattle.cc_symbols.specs.declared.symbols.Symbols.{Symbols}
use Rattle.cc_symbols.specs.declared.unit.Completed.{Completed}
use Rattle.cc_tree.specs.declared.ids.StructId.{StructId}
use Rattle.cc_tree_notes.specs.declared.note.Counted.{Counted}
use Rattle.cc_types.specs.Measures.{entry_of}
use Rattle.cc_types.specs.Structs as structs
use Rattle.cc_types.specs.declared.structs.StructEntry.{StructEntry}
use Rattle.cc_types.specs.declared.shape.TypeId.{TypeId}
use Rattle.cc_declare.specs.declared.checker.Checker.{Checker}
use Rattle.cc_declare.specs.declared.members.Fields.{Fields}
use Rattle.cc_declare.specs.declared.shaped.Formed.{Formed}
use Rattle.cc_declare.specs.Forms.{depths_listed}
use Rattle.cc_declare.specs.Objects.{object_judged}
use Rattle.cc_declare.specs.Rules as rule
use Rattle.cc_declare.specs.State.{with_symbols, with_kind_at, offended_if}

abbrev pub no_fields : Fields
no_fields = record { list = []; are_typed = true }

-- one member more, if it has a type
abbrev pub field_added : Fields → List ℕ → Option TypeId → Fields
field_added fs x (Some t) = record fs { list = fs.list ++ record { name = x; kind = t } ∷ [] }
field_added fs x None = record fs { are_typed = false }

abbrev pub members_entered : Checker → Checker
members_entered s = record s { members = None ∷ s.members }

abbrev pub members_left : Checker → Checker
members_left s = record s { members = names_outside s.members }

abbrev pub with_member : Checker → List ℕ → ℕ → Checker
with_member s x k = record s { members = Some (x, k) ∷ s.members }

-- a member's name, which has to be new in its struct, and its type
abbrev pub member_named : Checker → Counted → List ℕ → Formed → Checker
member_named s n x d =
    with_member (with_kind_at (offended_if s (d.is_judged && is_here s.members x) n rule.new_name) n.number d.kind) x n.number

abbrev pub member_of : Checker → Fields → Counted → List ℕ → Formed → Checker × Fields
member_of s fs n x d = (member_named (object_judged s n d false) n x d, field_added fs x d.kind)

abbrev pub member_made : Option (Counted × List ℕ) → Formed → Checker → Fields → Checker × Fields
member_made (Some x) d s fs = member_of s fs x.0 x.1 d
member_made None d s fs = (s, fs)

abbrev pub struct_as : Checker → Symbols × StructId → Checker × StructId
struct_as s p = (with_symbols s p.0, p.1)

-- the struct that has these members: of those without a tag the first with the same ones
abbrev pub same_struct : Checker → StructId → Fields → Checker × StructId
same_struct s id fs =
    if (entry_of s.symbols.structs id).is_tagged then (s, id) else struct_as s (symbols.same_unnamed s.symbols id fs.list)

abbrev pub with_structs : Checker → List StructEntry → Checker
with_structs s x = with_symbols s (record s.symbols { structs = x })

abbrev pub with_completed : Checker → Completed → Checker
with_completed s x = record s { completed = s.completed ++ x ∷ [] }

abbrev pub members_given : Checker → StructId → Fields → Checker
members_given s id fs = with_structs s (structs.completed s.symbols.types s.symbols.structs s.symbols.depths id fs.list)

abbrev pub completed_as : Counted → Fields → Checker × StructId → Checker × Option StructId
completed_as n fs p =
    (with_completed (members_given (depths_listed p.0) p.1 fs) (record { id = p.1; spot = n.spot }), Some p.1)

-- a struct has its members, which all have types
abbrev pub struct_completed : Checker → Counted → StructId → Fields → Checker × Option StructId
struct_completed s n id fs = completed_as n fs (same_struct s id fs)

-- the struct of a specifier with these members; where one of them has no type, it has none
abbrev pub struct_with : Checker → Counted → Option StructId → Fields → Checker × Option StructId
struct_with s n (Some id) fs = if fs.are_typed then struct_completed s n id fs else (s, None)
struct_with s n None fs = (s, None)
