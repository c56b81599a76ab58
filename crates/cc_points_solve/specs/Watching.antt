-- Which edge and which pair a target of a holder adds.
use Rattle.std.specs.Prelude.{ℕ, ◌≡◌, cond, List, [], ◌∷◌, ◌++◌, Option, Some, None, Contains}
use Rattle.cc_points_base.specs.declared.view.View.{View}
use Rattle.cc_points_base.specs.declared.layout.Layout.{Layout}
use Rattle.cc_points_base.specs.declared.constraint.Watch.{Watch}
use Rattle.cc_points_base.specs.declared.constraint.Watch.TheVariants.{Loads, Stores, Member, Element, Parts, Functions, Passes, Copies, Pastes, Returns}
use Rattle.cc_points_base.specs.Layouts.{slot, result}
use Rattle.cc_points_base.specs.Parts.{slot_of, element_of, member_of, leaf_of, formal_of, function_of, is_function, is_part}
use Rattle.cc_solver.specs.declared.rules.Pair.{Pair}
use Rattle.cc_solver.specs.declared.rules.Edge.{Edge}

abbrev pub loads : Layout → Option ℕ → ℕ → Option Edge
loads L (Some s) to = Some (record { from = slot L s; to = to })
loads L None to = None

abbrev pub stores : Layout → Option ℕ → ℕ → Option Edge
stores L (Some s) from = Some (record { from = from; to = slot L s })
stores L None from = None

abbrev pub returns : Layout → Option ℕ → ℕ → Option Edge
returns L (Some i) to = Some (record { from = result L i; to = to })
returns L None to = None

-- the edge that the target t adds
abbrev pub edge_of : View → Layout → Watch → ℕ → Option Edge
edge_of P L (Loads to) t = loads L (slot_of P t) to
edge_of P L (Stores from) t = stores L (slot_of P t) from
edge_of P L (Passes k from) t = stores L (formal_of P t k) from
edge_of P L (Copies id w to) t = loads L (leaf_of P id t w) to
edge_of P L (Pastes id w from) t = stores L (leaf_of P id t w) from
edge_of P L (Returns to) t = returns L (function_of P t) to
edge_of P L _ t = None

abbrev pub gives : Option ℕ → ℕ → Option Pair
gives (Some q) to = Some (record { holder = to; target = q })
gives None to = None

-- the pair that the target t gives
abbrev pub pair_of : View → Watch → ℕ → Option Pair
pair_of P (Member m to) t = gives (member_of P t m) to
pair_of P (Element to) t = gives (element_of P t) to
pair_of P (Parts to) t = cond (is_part P t) (Some (record { holder = to; target = t })) None
pair_of P (Functions to) t = cond (is_function P t) (Some (record { holder = to; target = t })) None
pair_of P _ t = None

abbrev pub edge_pushed : Option Edge → List Edge → List Edge
edge_pushed (Some e) out = out ++ e ∷ []
edge_pushed None out = out

abbrev pub edges_by : View → Layout → List Watch → ℕ → List Edge → List Edge
edges_by P L [] t out = out
edges_by P L (w ∷ ws) t out = edges_by P L ws t (edge_pushed (edge_of P L w t) out)

abbrev pub pair_pushed : Option Pair → List Pair → List Pair
pair_pushed (Some e) out = out ++ e ∷ []
pair_pushed None out = out

abbrev pub pairs_by : View → List Watch → ℕ → List Pair → List Pair
pairs_by P [] t out = out
pairs_by P (w ∷ ws) t out = pairs_by P ws t (pair_pushed (pair_of P w t) out)

-- one of these adds the edge
abbrev pub AddsEdge : View → Layout → List Watch → ℕ → Edge → Type 0
AddsEdge P L ws t e = (w : Watch) × Contains ws w × (edge_of P L w t ≡ Some e)

-- one of these gives the pair
abbrev pub GivesPair : View → List Watch → ℕ → Pair → Type 0
GivesPair P ws t p = (w : Watch) × Contains ws w × (pair_of P w t ≡ Some p)
