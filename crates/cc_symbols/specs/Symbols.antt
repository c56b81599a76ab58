-- What is known of declarations, and how it grows.
use Rattle.std.specs.Prelude.{ℕ, true, false, List, [], ◌∷◌, ◌++◌, length, Option, Some, None, slice_get}
use Rattle.cc_arith.specs.declared.kind.IntKind.TheVariants.{Char}
use Rattle.cc_tree.specs.declared.ids.StructId.{StructId}
use Rattle.cc_types.specs.declared.member_lists.MemberLists.{MemberLists}
use Rattle.cc_types.specs.declared.shape.Shape.TheVariants as s
use Rattle.cc_types.specs.declared.structs.Member.{Member}
use Rattle.cc_types.specs.declared.structs.StructEntry.{StructEntry}
use Rattle.cc_types.specs.MemberLists as lists
use Rattle.cc_types.specs.Structs as structs
use Rattle.cc_symbols.specs.declared.declared.Declared.{Declared}
use Rattle.cc_symbols.specs.declared.findings.Findings.{Findings}
use Rattle.cc_symbols.specs.declared.known.Known.{Known}
use Rattle.cc_symbols.specs.declared.symbols.Symbols.{Symbols}
use Rattle.cc_symbols.specs.Places as places

-- nothing is known but the type `char`
abbrev pub no_symbols : Symbols
no_symbols = record {
  types = s.Integer false Char ∷ [];
  structs = [];
  depths = [];
  tags = [];
  tagged = [];
  lists = lists.no_lists;
  unnamed = [];
  declared = [];
  texts = [];
  names = [];
  kinds = [];
}

-- with places for the nodes below n
abbrev pub grown : Symbols → ℕ → Symbols
grown s n = record s { names = places.grown s.names n None; kinds = places.grown s.kinds n None }

-- with one declaration more, and its number
abbrev pub declared : Symbols → List ℕ → Declared → Symbols × ℕ
declared s x d = (record s { declared = s.declared ++ d ∷ []; texts = s.texts ++ x ∷ [] }, length s.declared)

abbrev pub with_structs : Symbols → List StructEntry × StructId → Symbols × StructId
with_structs s p = (record s { structs = p.0 }, p.1)

abbrev pub struct_unnamed : Symbols → ℕ → Symbols × StructId
struct_unnamed s token = with_structs s (structs.added s.structs false token)

abbrev pub with_tagged : Symbols → ℕ → List StructEntry × StructId → Symbols × StructId
with_tagged s tag p = (record s { structs = p.0; tagged = places.put_far s.tagged tag (Some p.1) None }, p.1)

-- with one struct more, of this tag by number
abbrev pub tagged_added : Symbols → ℕ → ℕ → Symbols × StructId
tagged_added s tag token = with_tagged s tag (structs.added s.structs true token)

abbrev pub tagged_else : Symbols → ℕ → ℕ → Option (Option StructId) → Symbols × StructId
tagged_else s tag token (Some (Some id)) = (s, id)
tagged_else s tag token other = tagged_added s tag token

abbrev pub tag_known : Symbols → ℕ → List (List ℕ) × ℕ → Symbols × StructId
tag_known s token p = tagged_else (record s { tags = p.0 }) p.1 token (slice_get s.tagged p.1)

-- the struct of this tag in the project, added where there is none
abbrev pub struct_tagged : Symbols → List ℕ → ℕ → Symbols × StructId
struct_tagged s x token = tag_known s token (lists.text_numbered s.tags x)

-- with this struct as the first one of a list of members, by the list's number
abbrev pub remembered : Symbols → ℕ → StructId → Symbols × StructId
remembered s list id = (record s { unnamed = places.put_far s.unnamed list (Some id) None }, id)

abbrev pub first_else : Symbols → ℕ → StructId → Option (Option StructId) → Symbols × StructId
first_else s list id (Some (Some first)) = (s, first)
first_else s list id other = remembered s list id

abbrev pub list_known : Symbols → StructId → MemberLists × ℕ → Symbols × StructId
list_known s id p = first_else (record s { lists = p.0 }) p.1 id (slice_get s.unnamed p.1)

-- the first struct without a tag that has these members, which is this one where there was none
abbrev pub same_unnamed : Symbols → StructId → List Member → Symbols × StructId
same_unnamed s id ms = list_known s id (lists.numbered s.lists ms)

-- for another file: no struct has its members
abbrev pub renewed : Symbols → Symbols
renewed s = record s { structs = structs.renewed s.structs; depths = [] }

abbrev pub nothing_found : Findings
nothing_found = record { types = []; members = []; least = None }

abbrev pub found_grown : Findings → ℕ → Findings
found_grown f n = record f { types = places.grown f.types n None; members = places.grown f.members n None }

abbrev pub nothing_known : Known
nothing_known = record { symbols = no_symbols; found = nothing_found }

abbrev pub known_grown : Known → ℕ → Known
known_grown k n = record { symbols = grown k.symbols n; found = found_grown k.found n }
