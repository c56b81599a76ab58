-- Expressions, specifiers and declarators of each depth are read back.
use Rattle.std.proofs.Common.{◌≡◌, ℕ, zero, suc, List, Ok, ◌∙◌}
use Rattle.cc_base.specs.declared.place.Spot.{Spot}
use Rattle.cc_lex.specs.declared.token.Token.{Token}
use Rattle.cc_tree.specs.Trees.{DeclTree, declared, nameless, pointer, array, function, grouped}
use Rattle.cc_grammar.specs.Names.{Names}
use Rattle.cc_grammar.specs.Outcomes.{pure, refuse}
use Rattle.cc_grammar.specs.Reading.{Inner, no_inner, opened, readers, declarator, Mode, wants_name}
use Rattle.cc_parse_laws.proofs.Steps.{branch_false}
use Rattle.cc_parse_laws.proofs.Climbs.{rest_is}
use Rattle.cc_parse_laws.proofs.CompleteExpressions.{expression_again}
use Rattle.cc_parse_laws.proofs.CompleteDeclarators.{declarator_again, wants_none}
use Rattle.cc_parse_laws.proofs.CompleteSpecifiers.{specs_again}
use Rattle.cc_parse_laws.proofs.CompleteMembers.{members_again, constants_again}
use Rattle.cc_parse_laws.proofs.Inner.{Suits, ReadsDeclarator, EndsDeclarator, CompleteInner}

opened_complete : (names : Names) (inner : Inner) (d : ℕ) → CompleteInner names inner d → CompleteInner names (opened names inner (suc d)) (suc d)
opened_complete names inner d good = record {
  expr = expression_again names inner d good;
  specs = specs_again names inner (suc d) (members_again names inner d good) (constants_again names inner d good);
  declarator = declarator_again names inner d good;
}

-- where nothing may be written, nothing is
nothing_again : (names : Names) (mode : Mode) (f : DeclTree Spot) (ts r : List Token) → Suits mode f → ReadsDeclarator names 0 f ts r → EndsDeclarator r → declarator names no_inner 0 mode ts ≡ Ok (f, r)
nothing_again names mode (declared n x) ts r suits y ends = absurd y
nothing_again names mode nameless ts r suits y ends = branch_false (wants_name mode) refuse (pure nameless) ts (wants_none mode suits) ∙ rest_is nameless ts r y
nothing_again names mode (pointer n c f) ts r suits y ends = absurd y
nothing_again names mode (array n f e) ts r suits y ends = absurd y
nothing_again names mode (function n f ps) ts r suits y ends = absurd y
nothing_again names mode (grouped n f) ts r suits y ends = absurd y

flat_complete : (names : Names) → CompleteInner names (opened names no_inner 0) 0
flat_complete names = record {
  expr = λ least e ts r l y ends. absurd y;
  specs = specs_again names no_inner 0 (λ m ms ts r y. absurd y.2) (λ c cs trailing ts r y. absurd y.2);
  declarator = nothing_again names;
}

pub readers_complete : (names : Names) (d : ℕ) → CompleteInner names (readers names d) d
readers_complete names zero = flat_complete names
readers_complete names (suc d) = opened_complete names (readers names d) d (readers_complete names d)
