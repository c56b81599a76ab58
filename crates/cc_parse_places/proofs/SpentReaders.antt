-- Expressions, specifiers and declarators of each depth that are begun are taken.
use Rattle.std.proofs.Common.{◌≡◌, ◌≤◌, refl, ℕ, zero, suc, true, List, [], inl, inr}
use Rattle.cc_base.specs.declared.place.Spot.{Spot}
use Rattle.cc_lex.specs.declared.token.Token.{Token}
use Rattle.cc_tree.specs.Trees.{DeclTree, declared, nameless, pointer, array, function, grouped}
use Rattle.cc_grammar.specs.Levels.{level}
use Rattle.cc_grammar.specs.Names.{Names}
use Rattle.cc_grammar.specs.Outline.{Outline, end, part}
use Rattle.cc_grammar.specs.Outlines as outlines
use Rattle.cc_grammar.specs.Reading.{Inner, no_inner, opened, readers, Mode, with_name, without_name, with_or_without, declarator}
use Rattle.cc_parse_laws.proofs.Inner.{CompleteInner, Suits}
use Rattle.cc_parse_laws.proofs.CompleteMembers.{members_again, constants_again}
use Rattle.cc_parse_laws.proofs.CompleteReaders.{readers_complete}
use Rattle.cc_parse_places.proofs.Begun.{Begun}
use Rattle.cc_parse_places.proofs.Spent.{Spent, Within, last_within}
use Rattle.cc_parse_places.proofs.SpentExpressions.{SpentInner, expression_spent}
use Rattle.cc_parse_places.proofs.SpentTypes.{type_spent, type_starts, arguments_spent}
use Rattle.cc_parse_places.proofs.SpentDeclarators.{declarator_spent}
use Rattle.cc_parse_places.proofs.SpentMembers.{members_spent, members_nil, constants_spent, constants_nil}
use Rattle.cc_parse_places.proofs.SpentSpecifiers.{specs_spent}

opened_spent : (names : Names) (inner : Inner) (d : ℕ) → CompleteInner names inner d → SpentInner names inner d → SpentInner names (opened names inner (suc d)) (suc d)
opened_spent names inner d good spent = record {
  expr = expression_spent names inner d good spent (type_spent names inner d good spent) (type_starts names inner d good spent) (arguments_spent names inner d good spent);
  specs = specs_spent names inner (suc d) (members_again names inner d good) (constants_again names inner d good)
      (record { members = members_spent names inner d good spent; no_members = members_nil names inner d good spent [] refl; constants = constants_spent names inner d good spent; no_constants = constants_nil names inner d good spent [] refl });
  declarator = declarator_spent names inner d good spent;
}

-- at the greatest depth, where nothing that counts is there
nothing_left : (names : Names) (mode : Mode) (ts : List Token) → ts ≡ [] → Spent (declarator names no_inner 0 mode ts)
nothing_left names with_name ts e = e
nothing_left names without_name ts e = e
nothing_left names with_or_without ts e = e

nothing_spent : (names : Names) (mode : Mode) (f : DeclTree Spot) (ts : List Token) → Within (outlines.is_written f) (Suits mode f) (outlines.declarator names f) 0 ts → Spent (declarator names no_inner 0 mode ts)
nothing_spent names mode f ts (inl e) = nothing_left names mode ts e
nothing_spent names mode nameless ts (inr z) = let x = z.1 in nothing_left names mode ts x.cut
nothing_spent names mode (declared n x) ts (inr z) = absurd z.1
nothing_spent names mode (pointer n c f) ts (inr z) = absurd z.1
nothing_spent names mode (array n f e) ts (inr z) = absurd z.1
nothing_spent names mode (function n f ps) ts (inr z) = absurd z.1
nothing_spent names mode (grouped n f) ts (inr z) = absurd z.1

-- nothing that counts
no_part : (h : Type 0) (i : Outline) (ts : List Token) → Within true h i 0 ts → ts ≡ []
no_part h i ts (inl e) = e
no_part h i ts (inr z) = absurd z.1

pub no_list : {h : Type 0} {i : Outline} (ts : List Token) → Begun (part true h i end) 0 ts [] → ts ≡ []
no_list {h} {i} ts x = no_part h i ts (last_within ts x)

flat_spent : (names : Names) → SpentInner names (opened names no_inner 0) 0
flat_spent names = record {
  expr = λ least e ts some w. no_part (least ≤ level e) (outlines.expr names e) ts w;
  specs = specs_spent names no_inner 0 (λ m ms ts r y. absurd y.2) (λ c cs trailing ts r y. absurd y.2)
      (record { members = λ m ms ts x. no_list ts x; no_members = refl; constants = λ c cs trailing ts x. no_list ts x; no_constants = refl });
  declarator = nothing_spent names;
}

pub readers_spent : (names : Names) (d : ℕ) → SpentInner names (readers names d) d
readers_spent names zero = flat_spent names
readers_spent names (suc d) = opened_spent names (readers names d) d (readers_complete names d) (readers_spent names d)
