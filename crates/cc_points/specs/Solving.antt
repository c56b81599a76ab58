-- What the table of a program's facts tells.
use Rattle.std.specs.Prelude.{ℕ, ◌≡◌, ◌<◌, ◌+◌, ◌↔◌, Bool, List, [], length, Contains}
use Rattle.cc_blocks.specs.declared.row.Row.{Row}
use Rattle.cc_blocks.specs.Pairs.{pair_bit}
use Rattle.cc_facts.specs.declared.facts.Facts.{Facts}
use Rattle.cc_facts.specs.Told.{slot_holder, place_holder}
use Rattle.cc_points_base.specs.declared.view.View.{View}
use Rattle.cc_points_base.specs.Facts.{Fact, MayBe, MayHold, PartOf, IsPointsTo}
use Rattle.cc_points_solve.specs.Law.{target_of, IsFactWithin, HasMoreFacts}
use Rattle.cc_points.specs.Tables.{sites_from, defined_from}
use Rattle.cc_points.specs.declared.solving.PointsFault.{PointsFault}
use Rattle.cc_points.specs.declared.solving.PointsFault.TheVariants as fault

abbrev pub wanting : PointsFault
wanting = fault.Memory

-- there is a list in which each fact follows from earlier ones, and each that follows is in the list
abbrev pub FactsExist : View → Type 0
FactsExist P = (facts : List Fact) × IsPointsTo P facts

-- the table has the parts, the designators of all calls, and which functions have a body
pub record IsFactTable (P : View) (F : Facts) : Type 0 where
  pub occurrences : F.occurrences ≡ length P.nodes
  pub parts : F.parts ≡ P.parts
  pub sites : F.sites ≡ sites_from P.nodes []
  pub defined : F.defined ≡ defined_from P.functions []

-- the holder of a fact in the table
abbrev pub holder_in : Facts → Fact → ℕ
holder_in F (MayBe n t) = n
holder_in F (MayHold s t) = slot_holder F s

-- it has exactly the facts
abbrev pub TellsFacts : View → Facts → Type 0
TellsFacts P F = (facts : List Fact) → IsPointsTo P facts → (f : Fact) → IsFactWithin P f → Contains facts f ↔ (pair_bit F.rows.rows.items (holder_in F f) (target_of f) ≡ 1)

-- and exactly the parts of each lvalue
abbrev pub TellsParts : View → Facts → Type 0
TellsParts P F = (facts : List Fact) → IsPointsTo P facts → (n q : ℕ) → n < length P.nodes → PartOf P (Contains facts) n q ↔ (pair_bit F.rows.rows.items (place_holder F n) q ≡ 1)

-- some table has more pairs than may be, each of them a fact
abbrev pub AreTooMany : View → Type 0
AreTooMany P = (facts : List Fact) → IsPointsTo P facts → HasMoreFacts P facts 4194304

abbrev pub FitFacts : View → Type 0
FitFacts P = (facts : List Fact) → IsPointsTo P facts → HasMoreFacts P facts 4194304 → ⊥
