-- What is known at a place, and the steps by which it changes.
use Rattle.std.specs.Prelude.{ℕ, Bool, List, [], ◌∷◌, Option, Some, None, slice_get, slice_set, if◌then◌else◌}
use Rattle.cc_scopes.specs.Names.{declaration_of, is_here, names_outside}
use Rattle.cc_symbols.specs.Offences.{lesser}
use Rattle.cc_symbols.specs.declared.declared.Declared.{Declared}
use Rattle.cc_symbols.specs.declared.known.Known.{Known}
use Rattle.cc_symbols.specs.declared.offence.Offence.{Offence}
use Rattle.cc_symbols.specs.declared.symbols.Symbols.{Symbols}
use Rattle.cc_tree_notes.specs.declared.note.Counted.{Counted}
use Rattle.cc_types.specs.Interning.{shape_of}
use Rattle.cc_types.specs.declared.shape.Shape.{Shape}
use Rattle.cc_types.specs.declared.shape.TypeId.{TypeId}
use Rattle.cc_declare.specs.declared.checker.Checker.{Checker}
use Rattle.cc_declare.specs.Rules as rule

-- at the beginning of a file
abbrev pub starting : Known → ℕ → Checker
starting k file = record {
  scopes = [];
  tags = [];
  tagged = [];
  members = [];
  symbols = k.symbols;
  found = k.found;
  file = file;
  outers = [];
  completed = [];
}

abbrev pub with_symbols : Checker → Symbols → Checker
with_symbols s x = record s { symbols = x }

-- what breaks a rule is taken down, if anything does: the least offence stays
abbrev pub settled : Checker → Option Offence → Checker
settled s f = record s { found = record s.found { least = lesser s.found.least f } }

abbrev pub offended : Checker → Counted → ℕ → Checker
offended s n r = settled s (Some (record { spot = n.spot; rule = r }))

abbrev pub offended_if : Checker → Bool → Counted → ℕ → Checker
offended_if s b n r = if b then offended s n r else s

abbrev pub entered : Checker → Checker
entered s = record s { scopes = None ∷ s.scopes }

abbrev pub left : Checker → Checker
left s = record s { scopes = names_outside s.scopes }

-- the declaration of a name in this very scope
abbrev pub here : Checker → List ℕ → Option ℕ
here s x = if is_here s.scopes x then declaration_of s.scopes x else None

abbrev pub declared_at : Checker → Option ℕ → Option Declared
declared_at s None = None
declared_at s (Some k) = slice_get s.symbols.declared k

abbrev pub shape_at : Checker → Option TypeId → Option Shape
shape_at s None = None
shape_at s (Some t) = Some (shape_of s.symbols.types t)

-- a node with this number names declaration k
abbrev pub with_name : Checker → ℕ → ℕ → Checker
with_name s n k = with_symbols s (record s.symbols { names = slice_set s.symbols.names n (Some k) })

-- a node with this number has this type
abbrev pub with_kind_at : Checker → ℕ → Option TypeId → Checker
with_kind_at s n t = with_symbols s (record s.symbols { kinds = slice_set s.symbols.kinds n t })

-- what is known of declaration k
abbrev pub with_declared : Checker → ℕ → Declared → Checker
with_declared s k d = with_symbols s (record s.symbols { declared = slice_set s.symbols.declared k d })

abbrev pub with_types : Checker → List Shape → Checker
with_types s x = with_symbols s (record s.symbols { types = x })

abbrev pub resolved_as : Checker → Counted → Option ℕ → Checker
resolved_as s n (Some k) = with_name s n.number k
resolved_as s n None = offended s n rule.declared_name

-- what a name in an expression names
abbrev pub resolved : Checker → Counted → List ℕ → Checker
resolved s n x = resolved_as s n (declaration_of s.scopes x)
