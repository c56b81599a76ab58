-- Taking down what is found.
use Rattle.std.specs.Prelude.{ℕ, Option, Some, None, slice_set}
use Rattle.cc_base.specs.declared.place.Spot.{Spot}
use Rattle.cc_tree_notes.specs.declared.note.Counted.{Counted}
use Rattle.cc_symbols.specs.declared.findings.Findings.{Findings}
use Rattle.cc_symbols.specs.declared.offence.Offence.{Offence}
use Rattle.cc_symbols.specs.Offences.{lesser}
use Rattle.cc_types.specs.declared.expr_type.ExprType.{ExprType}
use Rattle.cc_judging.specs.declared.judged.Judged.{Judged}
use Rattle.cc_judging.specs.declared.judged.Part.{Part}
use Rattle.cc_judging.specs.declared.judged.Part.TheVariants.{Whole, First, Second}
use Rattle.cc_judging.specs.declared.members.Selection.{Selection}
use Rattle.cc_judging.specs.Judging as judging
use Rattle.cc_typing.specs.declared.noting.Spots.{Spots}

abbrev pub kind_of : Judged → Option ExprType
kind_of = judging.kind_of

abbrev pub alone : Counted → Spots
alone n = record { whole = n.spot; first = n.spot; second = n.spot }

abbrev pub with_first : Counted → Counted → Spots
with_first n a = record { whole = n.spot; first = a.spot; second = n.spot }

abbrev pub with_both : Counted → Counted → Counted → Spots
with_both n a b = record { whole = n.spot; first = a.spot; second = b.spot }

abbrev pub spot_of : Spots → Part → Spot
spot_of s Whole = s.whole
spot_of s First = s.first
spot_of s Second = s.second

abbrev pub offence_at : Spots → Option (ℕ × Part) → Option Offence
offence_at s (Some b) = Some (record { spot = spot_of s b.1; rule = b.0 })
offence_at s None = None

-- what a node offends, where these are the places of it and of its parts
abbrev pub offence_of : Spots → Judged → Option Offence
offence_of s j = offence_at s (judging.broken_of j)

-- the lesser offence is kept
abbrev pub kept : Option Offence → Findings → Findings
kept o f = record { types = f.types; members = f.members; least = lesser f.least o }

abbrev pub offended : Spot → ℕ → Findings → Findings
offended spot rule f = kept (Some (record { spot = spot; rule = rule })) f

-- a type is put at its node's number, and the lesser offence kept
abbrev pub settled : Counted → Spots → Judged → Findings → Findings
settled n s j f = record {
  types = slice_set f.types n.number (judging.kind_of j);
  members = f.members;
  least = lesser f.least (offence_of s j);
}

-- and the place of the member is put there too
abbrev pub member_settled : Counted → Selection → Findings → Findings
member_settled n m f = record {
  types = slice_set f.types n.number (judging.kind_of m.judged);
  members = slice_set f.members n.number m.place;
  least = lesser f.least (offence_of (alone n) m.judged);
}
