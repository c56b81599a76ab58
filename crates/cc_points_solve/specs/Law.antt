-- What a table of pairs says of the facts.
use Rattle.std.specs.Prelude.{ℕ, ◌≡◌, ◌<◌, ◌+◌, ◌↔◌, List, length, Contains}
use Rattle.cc_blocks.specs.declared.row.Row.{Row}
use Rattle.cc_blocks.specs.Pairs.{pair_bit, pair_count}
use Rattle.cc_points_base.specs.Parts.{slots_in}
use Rattle.cc_points_base.specs.declared.view.View.{View}
use Rattle.cc_points_base.specs.declared.layout.Layout.{Layout}
use Rattle.cc_points_base.specs.Layouts.{layout_of, spare, value, slot, place}
use Rattle.cc_points_base.specs.Facts.{Fact, PartOf, MayBe, MayHold, IsPointsTo, IsWithin}

-- how many holders there are
abbrev pub holders_of : Layout → ℕ
holders_of L = spare L + 1

abbrev pub holder_of : Layout → Fact → ℕ
holder_of L (MayBe n t) = value L n
holder_of L (MayHold s t) = slot L s

abbrev pub target_of : Fact → ℕ
target_of (MayBe n t) = t
target_of (MayHold s t) = t

-- the fact is of an occurrence or a slot of the program
abbrev pub IsFactWithin : View → Fact → Type 0
IsFactWithin P (MayBe n t) = n < length P.nodes
IsFactWithin P (MayHold s t) = s < slots_in P

-- the table has exactly the facts
abbrev pub TellsFacts : View → List Row → Type 0
TellsFacts P rows = IsWithin P → (facts : List Fact) → IsPointsTo P facts → (f : Fact) → IsFactWithin P f → Contains facts f ↔ (pair_bit rows (holder_of (layout_of P) f) (target_of f) ≡ 1)

-- the table has exactly the parts of each lvalue, by the facts
abbrev pub TellsParts : View → List Row → Type 0
TellsParts P rows = IsWithin P → (facts : List Fact) → IsPointsTo P facts → (n q : ℕ) → n < length P.nodes → PartOf P (Contains facts) n q ↔ (pair_bit rows (place (layout_of P) n) q ≡ 1)

-- some table has more pairs than this number, and each is a fact
abbrev pub HasMoreFacts : View → List Fact → ℕ → Type 0
HasMoreFacts P facts most = (rows : List Row) × (most < pair_count rows) × ((h t : ℕ) → pair_bit rows h t ≡ 1 → (f : Fact) × IsFactWithin P f × Contains facts f × (holder_of (layout_of P) f ≡ h) × (target_of f ≡ t))

abbrev pub AreTooMany : View → ℕ → Type 0
AreTooMany P most = IsWithin P → (facts : List Fact) → IsPointsTo P facts → HasMoreFacts P facts most

abbrev pub FitFacts : View → ℕ → Type 0
FitFacts P most = IsWithin P → (facts : List Fact) → IsPointsTo P facts → HasMoreFacts P facts most → ⊥

-- there is such a list
abbrev pub FactsExist : View → Type 0
FactsExist P = IsWithin P → (facts : List Fact) × IsPointsTo P facts
