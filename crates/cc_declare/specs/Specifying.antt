-- What specifiers say (C17 6.7p1).
use Rattle.std.specs.Prelude.{ℕ, Bool, true, false, not, ◌&&◌, ◌||◌, Option, Some, None, List, if◌then◌else◌}
use Rattle.cc_arith.specs.declared.kind.IntKind.TheVariants as k
use Rattle.cc_scopes.specs.Names.{declaration_of}
use Rattle.cc_symbols.specs.declared.declared.Declared.{Declared}
use Rattle.cc_symbols.specs.declared.declared.Form.{Form}
use Rattle.cc_symbols.specs.declared.declared.Form.TheVariants as f
use Rattle.cc_tree.specs.declared.ids.StructId.{StructId}
use Rattle.cc_tree.specs.declared.operator.SpecWord.{SpecWord}
use Rattle.cc_tree.specs.declared.operator.SpecWord.TheVariants as w
use Rattle.cc_tree_notes.specs.declared.note.Counted.{Counted}
use Rattle.cc_types.specs.Interning as interning
use Rattle.cc_types.specs.declared.shape.Shape.{Shape}
use Rattle.cc_types.specs.declared.shape.Shape.TheVariants as h
use Rattle.cc_types.specs.declared.shape.TypeId.{TypeId}
use Rattle.cc_declare.specs.declared.checker.Checker.{Checker}
use Rattle.cc_declare.specs.declared.specifiers.Said.{Said}
use Rattle.cc_declare.specs.declared.specifiers.Setting.{Setting}
use Rattle.cc_declare.specs.declared.specifiers.Setting.TheVariants as at
use Rattle.cc_declare.specs.declared.specifiers.Specified.{Specified}
use Rattle.cc_declare.specs.declared.specifiers.Storage.{Storage}
use Rattle.cc_declare.specs.declared.type_words.Core.{Core}
use Rattle.cc_declare.specs.declared.type_words.Core.TheVariants as c
use Rattle.cc_declare.specs.declared.type_words.TypeWords.{TypeWords}
use Rattle.cc_declare.specs.Rules as rule
use Rattle.cc_declare.specs.State.{with_types, offended_if, declared_at}
use Rattle.cc_declare.specs.TypeWords as words

-- types may be made in specifiers there
abbrev pub makes_types : Setting → Bool
makes_types at.File = true
makes_types at.Member = true
makes_types x = false

abbrev pub core_of : Option TypeId → Core
core_of (Some t) = c.Type t
core_of None = c.Untyped

abbrev pub alias_as : Form → Option TypeId → Option TypeId
alias_as f.Typedef t = t
alias_as x t = None

-- the type that a typedef name stands for
abbrev pub alias_of : Option Declared → Option TypeId
alias_of (Some d) = alias_as d.form d.kind
alias_of None = None

abbrev pub nothing_said : Said
nothing_said = record {
  words = words.no_words;
  storage = None;
  has_two_storages = false;
  inline = None;
  is_const = false;
  has_body = false;
}

abbrev pub with_words : Said → TypeWords → Said
with_words d t = record d { words = t }

abbrev pub storage_said_at : Said → Counted → SpecWord → Option Storage → Said
storage_said_at d n x (Some y) = record d { has_two_storages = true }
storage_said_at d n x None = record d { storage = Some (record { word = x; note = n }) }

-- `typedef`, `extern` or `static`
abbrev pub storage_said : Said → Counted → SpecWord → Said
storage_said d n x = storage_said_at d n x d.storage

abbrev pub inline_said_at : Said → Counted → Option Counted → Said
inline_said_at d n (Some m) = d
inline_said_at d n None = record d { inline = Some n }

abbrev pub inline_said : Said → Counted → Said
inline_said d n = inline_said_at d n d.inline

abbrev pub const_said : Said → Said
const_said d = record d { is_const = true }

-- one specifier of one word more
abbrev pub word_said : Said → Counted → SpecWord → Said
word_said d n w.Typedef = storage_said d n w.Typedef
word_said d n w.Extern = storage_said d n w.Extern
word_said d n w.Static = storage_said d n w.Static
word_said d n w.Inline = inline_said d n
word_said d n w.Const = const_said d
word_said d n x = with_words d (words.word_said d.words x)

-- one specifier more that names a type by itself, which may be missing
abbrev pub type_said : Said → Option TypeId → Said
type_said d t = with_words d (words.core_named d.words (core_of t))

abbrev pub bodied_if : Said → Bool → Said
bodied_if d has_body = record d { has_body = d.has_body || has_body }

-- they name one type and have one storage class at most
abbrev pub is_right : Said → Bool
is_right d = words.name_one_type d.words && not d.has_two_storages

abbrev pub is_typedef : SpecWord → Bool
is_typedef w.Typedef = true
is_typedef x = false

abbrev pub makes_name : Option Storage → Bool
makes_name (Some x) = is_typedef x.word
makes_name None = false

-- a type is made in them, a typedef name included
abbrev pub make_types : Said → Bool
make_types d = makes_name d.storage || d.has_body

-- a typedef name
abbrev pub aliased : Checker → Said → List ℕ → Said
aliased s d x = type_said d (alias_of (declared_at s (declaration_of s.scopes x)))

abbrev pub some_as : Checker → List Shape × TypeId → Checker × Option TypeId
some_as s p = (with_types s p.0, Some p.1)

-- the type of this form
abbrev pub some_made : Checker → Shape → Checker × Option TypeId
some_made s a = some_as s (interning.interned s.symbols.types a)

abbrev pub struct_made : Checker → Option StructId → Checker × Option TypeId
struct_made s (Some id) = some_made s (h.Struct false id)
struct_made s None = (s, None)

-- the type of an enum
abbrev pub enum_made : Checker → Checker × Option TypeId
enum_made s = some_made s (h.Integer false k.Int)

abbrev pub type_in : Core → Option TypeId
type_in (c.Type t) = Some t
type_in x = None

abbrev pub bare_as : Checker → Core → Option Shape → Checker × Option TypeId
bare_as s x (Some a) = some_made s a
bare_as s x None = (s, type_in x)

-- the type that words name, without a const
abbrev pub bare_made : Checker → TypeWords → Checker × Option TypeId
bare_made s t = bare_as s t.core (words.shape_named t.core t.sign)

abbrev pub const_made : Checker → Bool → Option TypeId → Checker × Option TypeId
const_made s is_const (Some t) = some_as s (interning.const_made s.symbols.types is_const t)
const_made s is_const None = (s, None)

abbrev pub const_after : Bool → Checker × Option TypeId → Checker × Option TypeId
const_after is_const p = const_made p.0 is_const p.1

-- the type that specifiers name; none if they break a rule on themselves
abbrev pub said_made : Checker → Said → Checker × Option TypeId
said_made s d = if is_right d then const_after d.is_const (bare_made s d.words) else (s, None)

abbrev pub specified_as : Said → Checker × Option TypeId → Checker × Specified
specified_as d p = (p.0, record { kind = p.1; storage = d.storage; inline = d.inline })

-- what specifiers say, of which n is the first node
abbrev pub finished : Checker → Setting → Counted → Said → Checker × Specified
finished s setting n d =
    let t = offended_if s (not (is_right d)) n rule.one_type in
    let u = offended_if t (not (makes_types setting) && make_types d) n rule.file_scope_only in
    specified_as d (said_made u d)
