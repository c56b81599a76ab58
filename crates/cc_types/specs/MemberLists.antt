-- Numbers for texts and for lists of members.
use Rattle.std.specs.Prelude.{◌≡◌, ℕ, ◌+◌, Bool, List, [], ◌∷◌, reverse, Some, slice_get, bytes_eq}
use Rattle.std.specs.List.{position_or_len}
use Rattle.indexmap.specs.IndexSet.{insert_key}
use Rattle.cc_types.specs.declared.links.Link.{Link}
use Rattle.cc_types.specs.declared.member_lists.MemberLists.{MemberLists}
use Rattle.cc_types.specs.declared.structs.Member.{Member}
use Rattle.cc_types.specs.declared.shape.TypeId.{TypeId}
use Rattle.cc_types.specs.contracts.links.LinkPartialEq.TheImpl as derived

-- the test of two links that the table makes
abbrev pub same_link : Link → Link → Bool
same_link = derived.eq-value.it

-- the texts with this one, and its number
abbrev pub text_numbered : List (List ℕ) → List ℕ → List (List ℕ) × ℕ
text_numbered texts x = (insert_key bytes_eq texts x, position_or_len (bytes_eq x) texts)

-- the links with this one, and the number of its list: 0 is that of the empty one
abbrev pub link_numbered : List Link → Link → List Link × ℕ
link_numbered links l = (insert_key same_link links l, position_or_len (same_link l) links + 1)

abbrev pub no_lists : MemberLists
no_lists = record { names = []; links = [] }

abbrev pub link_to : ℕ → ℕ → TypeId → Link
link_to before name kind = record { before = before; name = name; kind = kind }

abbrev pub with_names : MemberLists → List (List ℕ) × ℕ → ℕ → Member → MemberLists × ℕ
with_names lists p before m =
    let q = link_numbered lists.links (link_to before p.1 m.kind) in
    (record { names = p.0; links = q.0 }, q.1)

-- the lists with the one of number `before` and one member more at its end, and the number of that
abbrev pub longer : MemberLists → ℕ → Member → MemberLists × ℕ
longer lists before m = with_names lists (text_numbered lists.names m.name) before m

-- the lists with the one of number `before` and these members more at its end, and the number of that
abbrev pub extended : MemberLists × ℕ → List Member → MemberLists × ℕ
extended p [] = p
extended p (m ∷ ms) = extended (longer p.0 p.1 m) ms

-- the lists with this one, and its number
abbrev pub numbered : MemberLists → List Member → MemberLists × ℕ
numbered lists ms = extended (lists, 0) ms

-- ---- Which list a number stands for

-- a list that is not empty, with number n: its last member is that of a link, which says the number of the list before
pub record IsLinked (lists : MemberLists) (Before : ℕ → Type 0) (m : Member) (n : ℕ) : Type 0 where
  pub link : ℕ
  pub before : ℕ
  pub name : ℕ
  pub number : n ≡ link + 1
  pub is : slice_get lists.links link ≡ Some (link_to before name m.kind)
  pub named : slice_get lists.names name ≡ Some m.name
  pub rest : Before before

-- the same of the list whose members, the last first, are these
abbrev pub IsNumberedBack : MemberLists → List Member → ℕ → Type 0
IsNumberedBack lists [] n = n ≡ 0
IsNumberedBack lists (m ∷ ms) n = IsLinked lists (IsNumberedBack lists ms) m n

-- this list has number n
abbrev pub IsNumbered : MemberLists → List Member → ℕ → Type 0
IsNumbered lists ms n = IsNumberedBack lists (reverse ms) n

-- nothing stands twice in it
abbrev pub IsOnce : {X : Type 0} → List X → Type 0
IsOnce {X} xs = (i j : ℕ) (x : X) → slice_get xs i ≡ Some x → slice_get xs j ≡ Some x → i ≡ j

pub record AreOnce (lists : MemberLists) : Type 0 where
  pub names : IsOnce lists.names
  pub links : IsOnce lists.links
