-- Tags (C17 6.7.2.3): one name space in a file.
use Rattle.std.specs.Prelude.{ℕ, Bool, ◌&&◌, ◌||◌, Option, Some, None, List, [], ◌∷◌, ◌++◌, length, slice_get, slice_set}
use Rattle.cc_scopes.specs.Names.{declaration_of}
use Rattle.cc_symbols.specs.Symbols as symbols
use Rattle.cc_symbols.specs.declared.symbols.Symbols.{Symbols}
use Rattle.cc_tree.specs.declared.ids.StructId.{StructId}
use Rattle.cc_tree_notes.specs.declared.note.Counted.{Counted}
use Rattle.cc_declare.specs.declared.checker.Checker.{Checker}
use Rattle.cc_declare.specs.declared.tags.Tag.{Tag}
use Rattle.cc_declare.specs.declared.tags.TagForm.{TagForm}
use Rattle.cc_declare.specs.declared.tags.TagForm.TheVariants as t
use Rattle.cc_declare.specs.Rules as rule
use Rattle.cc_declare.specs.State.{with_symbols, offended, offended_if}

-- one tag more
abbrev pub tag_added : Checker → List ℕ → Tag → Checker
tag_added s x tag = record s { tagged = s.tagged ++ tag ∷ []; tags = Some (x, length s.tagged) ∷ s.tags }

abbrev pub tag_with : ℕ → Option Tag → Option (ℕ × Tag)
tag_with k (Some tag) = Some (k, tag)
tag_with k None = None

abbrev pub tag_at : Checker → Option ℕ → Option (ℕ × Tag)
tag_at s (Some k) = tag_with k (slice_get s.tagged k)
tag_at s None = None

-- the tag of this name in the file so far, with its number
abbrev pub tag_named : Checker → List ℕ → Option (ℕ × Tag)
tag_named s x = tag_at s (declaration_of s.tags x)

abbrev pub with_tag : Checker → ℕ → Tag → Checker
with_tag s k tag = record s { tagged = slice_set s.tagged k tag }

-- a tag stands again with its own word; it may get a body once
abbrev pub tag_again : Checker → Counted → ℕ → Tag → Bool → Checker
tag_again s n k tag has_body =
    with_tag (offended_if s (tag.has_body && has_body) n rule.new_name) k (record { form = tag.form; has_body = tag.has_body || has_body })

abbrev pub first_struct_as : Checker → List ℕ → Bool → Symbols × StructId → Checker × Option StructId
first_struct_as s x has_body p = (tag_added (with_symbols s p.0) x (record { form = t.Struct p.1; has_body = has_body }), Some p.1)

abbrev pub first_struct : Checker → Counted → List ℕ → Bool → Checker × Option StructId
first_struct s n x has_body = first_struct_as s x has_body (symbols.struct_tagged s.symbols x n.number)

abbrev pub struct_again : Checker → Counted → ℕ → Tag → Bool → TagForm → Checker × Option StructId
struct_again s n k tag has_body (t.Struct id) = (tag_again s n k tag has_body, Some id)
struct_again s n k tag has_body t.Enum = (offended s n rule.new_name, None)

abbrev pub named_struct_at : Checker → Counted → List ℕ → Bool → Option (ℕ × Tag) → Checker × Option StructId
named_struct_at s n x has_body None = first_struct s n x has_body
named_struct_at s n x has_body (Some p) = struct_again s n p.0 p.1 has_body p.1.form

-- the struct of this tag; that of an enum has none
abbrev pub named_struct : Checker → Counted → List ℕ → Bool → Checker × Option StructId
named_struct s n x has_body = named_struct_at s n x has_body (tag_named s x)

abbrev pub some_struct : Checker → Symbols × StructId → Checker × Option StructId
some_struct s p = (with_symbols s p.0, Some p.1)

-- the struct of a specifier, which may have a tag
abbrev pub struct_of : Checker → Counted → Option (List ℕ) → Bool → Checker × Option StructId
struct_of s n (Some x) has_body = named_struct s n x has_body
struct_of s n None has_body = some_struct s (symbols.struct_unnamed s.symbols n.number)

abbrev pub enum_again : Checker → Counted → ℕ → Tag → Bool → TagForm → Checker
enum_again s n k tag has_body t.Enum = tag_again s n k tag has_body
enum_again s n k tag has_body (t.Struct id) = offended s n rule.new_name

abbrev pub named_enum_at : Checker → Counted → List ℕ → Bool → Option (ℕ × Tag) → Checker
named_enum_at s n x has_body None = tag_added s x (record { form = t.Enum; has_body = has_body })
named_enum_at s n x has_body (Some p) = enum_again s n p.0 p.1 has_body p.1.form

abbrev pub named_enum : Checker → Counted → List ℕ → Bool → Checker
named_enum s n x has_body = named_enum_at s n x has_body (tag_named s x)

-- an enum's specifier, which may have a tag
abbrev pub enum_of : Checker → Counted → Option (List ℕ) → Bool → Checker
enum_of s n (Some x) has_body = named_enum s n x has_body
enum_of s n None has_body = s
