-- Laws of the table of types, as statements.
use Rattle.std.specs.Prelude.{◌≡◌, ◌<◌, ◌≤◌, ◌+◌, ◌-◌, ◌^◌, ◌↔◌, ◌⊎◌, true, false, ℕ, take, Bool, List, [], length, Option}
use Rattle.cc_types.specs.CTypes.{CTypeTree, is_function, array_from, function_to, function_taking, adjusted_from}
use Rattle.cc_types.specs.SameTypes.{same_type}
use Rattle.cc_types.specs.Questions.{also_const}
use Rattle.cc_types.specs.declared.shape.Shape.{Shape}
use Rattle.cc_types.specs.declared.shape.TypeId.{TypeId}
use Rattle.cc_types.specs.Shapes.{type_at, types_of, built, IsSound, IsTable, Extends}
use Rattle.cc_tree.specs.declared.ids.StructId.{StructId}
use Rattle.cc_types.specs.declared.structs.StructEntry.{StructEntry}
use Rattle.cc_types.specs.declared.structs.Member.{Member}
use Rattle.cc_types.specs.declared.depth.DepthItem.{DepthItem}
use Rattle.cc_types.specs.declared.member_lists.MemberLists.{MemberLists}
use Rattle.cc_types.specs.MemberLists.{no_lists, numbered, IsNumbered, AreOnce}
use Rattle.cc_types.specs.Measures.{entry_of, members_measured, capped}
use Rattle.cc_types.specs.Depths.{depth_of, depth_in, item_at, caught_up, mentions, struct_depth, struct_deep, members_depth}
use Rattle.cc_types.specs.Asked.{is_array}
use Rattle.cc_types.specs.Structs.{is_complete, added, renewed, completed}
use Rattle.cc_types.specs.Interning.{interned, array_made, function_made, taking_made, const_made, adjusted}

-- the test of types says that they are the same
abbrev pub SameTypesAreTold : Type 0
SameTypesAreTold = (t u : CTypeTree) → (same_type t u ≡ true) ↔ (t ≡ u)

-- equal types have equal numbers
abbrev pub EqualTypesHaveEqualNumbers : Type 0
EqualTypesHaveEqualNumbers = (ss : List Shape) → IsTable ss → (a b : TypeId) → a.0 < length ss → b.0 < length ss
    → type_at (types_of ss) a ≡ type_at (types_of ss) b → a ≡ b

-- and equal shapes
abbrev pub EqualTypesHaveEqualShapes : Type 0
EqualTypesHaveEqualShapes = (ss : List Shape) → IsTable ss → (a b : Shape) → IsSound (types_of ss) a → IsSound (types_of ss) b
    → built (types_of ss) a ≡ built (types_of ss) b → a ≡ b

-- a table that has more types than this one, or the same, and a number there, which has this type
pub record Makes (ss : List Shape) (p : List Shape × TypeId) (t : CTypeTree) : Type 0 where
  pub table : IsTable p.0
  pub extends : Extends (types_of ss) (types_of p.0)
  pub within : p.1.0 < length p.0
  pub is : type_at (types_of p.0) p.1 ≡ t

-- interning a shape gives the number of its type
abbrev pub InterningMakes : Type 0
InterningMakes = (ss : List Shape) → IsTable ss → (a : Shape) → IsSound (types_of ss) a → Makes ss (interned ss a) (built (types_of ss) a)

-- what the calls for declarators make
abbrev pub ArraysAreMade : Type 0
ArraysAreMade = (ss : List Shape) → IsTable ss → (t : TypeId) (n : Option ℕ) → Makes ss (array_made ss t n) (array_from (type_at (types_of ss) t) n)

abbrev pub FunctionsAreMade : Type 0
FunctionsAreMade = (ss : List Shape) → IsTable ss → (t : TypeId) → Makes ss (function_made ss t) (function_to (type_at (types_of ss) t))

abbrev pub ParametersAreTaken : Type 0
ParametersAreTaken = (ss : List Shape) → IsTable ss → (t f : TypeId) → f.0 < length ss → is_function (type_at (types_of ss) f) ≡ true
    → Makes ss (taking_made ss t f) (function_taking (type_at (types_of ss) t) (type_at (types_of ss) f))

abbrev pub ConstIsAdded : Type 0
ConstIsAdded = (ss : List Shape) → IsTable ss → (k : Bool) (t : TypeId) → Makes ss (const_made ss k t) (also_const k (type_at (types_of ss) t))

abbrev pub ParametersAreAdjusted : Type 0
ParametersAreAdjusted = (ss : List Shape) → IsTable ss → (t : TypeId) → t.0 < length ss → Makes ss (adjusted ss t) (adjusted_from (type_at (types_of ss) t))

-- What each struct keeps is what its members measure: it is complete where each of them is, and then nothing changes it.
pub record AreMeasured (ts : List CTypeTree) (es : List StructEntry) : Type 0 where
  pub kept : (id : StructId) → is_complete es id ≡ true → (entry_of es id).measure ≡ members_measured ts es (entry_of es id).members

abbrev pub NoStructsAreMeasured : Type 0
NoStructsAreMeasured = (ts : List CTypeTree) → AreMeasured ts []

abbrev pub AddingKeepsMeasures : Type 0
AddingKeepsMeasures = (ts : List CTypeTree) (es : List StructEntry) (is_tagged : Bool) (token : ℕ) → AreMeasured ts es → AreMeasured ts (added es is_tagged token).0

abbrev pub CompletingKeepsMeasures : Type 0
CompletingKeepsMeasures = (ss : List Shape) (es : List StructEntry) (ds : List DepthItem) (id : StructId) (ms : List Member)
    → AreMeasured (types_of ss) es → AreMeasured (types_of ss) (completed ss es ds id ms)

abbrev pub MoreTypesKeepMeasures : Type 0
MoreTypesKeepMeasures = (ts us : List CTypeTree) → Extends ts us → (es : List StructEntry) → AreMeasured ts es → AreMeasured us es

-- a complete struct stays as it is
abbrev pub CompleteStructsStay : Type 0
CompleteStructsStay = (ss : List Shape) (es : List StructEntry) (ds : List DepthItem) (id : StructId) (ms : List Member) (other : StructId)
    → is_complete es other ≡ true → entry_of (completed ss es ds id ms) other ≡ entry_of es other

abbrev pub AddingLeavesComplete : Type 0
AddingLeavesComplete = (es : List StructEntry) (is_tagged : Bool) (token : ℕ) (other : StructId)
    → is_complete es other ≡ true → entry_of (added es is_tagged token).0 other ≡ entry_of es other

-- a struct that isn't complete has no members
pub record AreBare (es : List StructEntry) : Type 0 where
  pub bare : (id : StructId) → is_complete es id ≡ false → (entry_of es id).members ≡ []

abbrev pub BareThroughout : Type 0
BareThroughout = AreBare [] × ((es : List StructEntry) (is_tagged : Bool) (token : ℕ) → AreBare es → AreBare (added es is_tagged token).0)
    × ((ss : List Shape) (es : List StructEntry) (ds : List DepthItem) (id : StructId) (ms : List Member) → AreBare es → AreBare (completed ss es ds id ms))

-- no depth that a struct keeps is too great to be counted
pub record AreCounted (es : List StructEntry) : Type 0 where
  pub whole : (id : StructId) → (entry_of es id).depth.whole ≤ 2 ^ 64 - 1
  pub inside : (id : StructId) → (entry_of es id).depth.inside ≤ 2 ^ 64 - 1

-- what is listed of a type is right, where these are the structs; only the depth inside depends on them
pub record ItemIs (ts : List CTypeTree) (es : List StructEntry) (i : DepthItem) (t : CTypeTree) : Type 0 where
  pub inside : i.inside ≡ (depth_of es t).inside
  pub whole : (any : List StructEntry) → AreCounted any → capped (i.levels + (depth_of any (built ts i.base)).whole) ≡ (depth_of any t).whole
  pub base : is_array i.base ≡ false
  pub sound : IsSound ts i.base

-- the depths of all types of the table are listed
pub record AreListed (ss : List Shape) (es : List StructEntry) (ds : List DepthItem) : Type 0 where
  pub long : length ds ≡ length ss
  pub items : (id : TypeId) → ItemIs (types_of ss) es (item_at ds id) (type_at (types_of ss) id)

-- then the depth of a shape is that of its type
abbrev pub ListedDepthsAreRight : Type 0
ListedDepthsAreRight = (ss : List Shape) (es : List StructEntry) (ds : List DepthItem) → AreCounted es → AreListed ss es ds → (a : Shape) → depth_in es ds a ≡ depth_of es (built (types_of ss) a)

-- from the depths of the table's first types catching up leads to those of all
abbrev pub CatchingUpLists : Type 0
CatchingUpLists = (ss : List Shape) (es : List StructEntry) (ds : List DepthItem) → IsTable ss → AreListed (take (length ds) ss) es ds → AreListed ss es (caught_up ss es ds)

abbrev pub NothingIsListed : Type 0
NothingIsListed = (es : List StructEntry) → AreListed [] es []

-- Completing a struct changes no depth inside pointers and functions: it has a tag, or is as deep inside as it was in an
-- earlier file, or stands in no type of the table.
abbrev pub IsFree : List Shape → List StructEntry → List DepthItem → StructId → List Member → Type 0
IsFree ss es ds id ms = (((entry_of es id).is_tagged ≡ true) ⊎ ((members_depth ss es ds ms).inside ≡ (entry_of es id).depth.inside))
    ⊎ ((t : TypeId) → mentions id (type_at (types_of ss) t) ≡ false)

abbrev pub CountedThroughout : Type 0
CountedThroughout = AreCounted [] × ((es : List StructEntry) (is_tagged : Bool) (token : ℕ) → AreCounted es → AreCounted (added es is_tagged token).0)
    × ((ss : List Shape) (es : List StructEntry) (ds : List DepthItem) (id : StructId) (ms : List Member) → AreCounted es → AreCounted (completed ss es ds id ms))

-- what is listed stays right where a struct is added or completed
abbrev pub AddingKeepsLists : Type 0
AddingKeepsLists = (ss : List Shape) (es : List StructEntry) (ds : List DepthItem) (is_tagged : Bool) (token : ℕ) → AreListed ss es ds → AreListed ss (added es is_tagged token).0 ds

abbrev pub CompletingKeepsLists : Type 0
CompletingKeepsLists = (ss : List Shape) (es : List StructEntry) (ds : List DepthItem) (id : StructId) (ms : List Member) → IsFree ss es ds id ms
    → AreListed ss es ds → AreListed ss (completed ss es ds id ms) ds

-- the depth that each complete struct keeps is 1 more than that of its deepest member
pub record AreDeep (ts : List CTypeTree) (es : List StructEntry) : Type 0 where
  pub kept : (id : StructId) → is_complete es id ≡ true → (entry_of es id).depth ≡ struct_deep ts es (entry_of es id).members

abbrev pub CompletingKeepsDepths : Type 0
CompletingKeepsDepths = (ss : List Shape) (es : List StructEntry) (ds : List DepthItem) (id : StructId) (ms : List Member) → IsFree ss es ds id ms
    → IsTable ss → AreCounted es → AreListed ss es ds → AreMeasured (types_of ss) es → AreDeep (types_of ss) es → AreDeep (types_of ss) (completed ss es ds id ms)

abbrev pub AddingKeepsDepths : Type 0
AddingKeepsDepths = (ss : List Shape) (es : List StructEntry) (is_tagged : Bool) (token : ℕ) → AreMeasured (types_of ss) es → AreDeep (types_of ss) es → AreDeep (types_of ss) (added es is_tagged token).0

abbrev pub MoreTypesKeepDepths : Type 0
MoreTypesKeepDepths = (ts us : List CTypeTree) → Extends ts us → (es : List StructEntry) → AreMeasured ts es → AreDeep ts es → AreDeep us es

-- At the beginning of another file all these hold again, and a struct is as deep inside pointers and function types as before.
pub record Begins (es new : List StructEntry) : Type 0 where
  pub measured : (ts : List CTypeTree) → AreMeasured ts new
  pub deep : (ts : List CTypeTree) → AreDeep ts new
  pub bare : AreBare new
  pub counted : AreCounted es → AreCounted new
  pub inside : (id : StructId) → (struct_depth (entry_of new id)).inside ≡ (struct_depth (entry_of es id)).inside

abbrev pub RenewingBegins : Type 0
RenewingBegins = (es : List StructEntry) → Begins es (renewed es)

-- what numbering a list of members leads to: it has that number, and lists that had a number keep it
pub record Numbers (lists : MemberLists) (p : MemberLists × ℕ) (ms : List Member) : Type 0 where
  pub once : AreOnce p.0
  pub is : IsNumbered p.0 ms p.1
  pub stays : (ns : List Member) (n : ℕ) → IsNumbered lists ns n → IsNumbered p.0 ns n

abbrev pub NoListsAreOnce : Type 0
NoListsAreOnce = AreOnce no_lists

abbrev pub NumberingNumbers : Type 0
NumberingNumbers = (lists : MemberLists) → AreOnce lists → (ms : List Member) → Numbers lists (numbered lists ms) ms

-- lists have one number exactly where they are equal
abbrev pub EqualListsHaveEqualNumbers : Type 0
EqualListsHaveEqualNumbers = (lists : MemberLists) → AreOnce lists → (ms ns : List Member) (m n : ℕ)
    → IsNumbered lists ms m → IsNumbered lists ns n → (m ≡ n) ↔ (ms ≡ ns)
