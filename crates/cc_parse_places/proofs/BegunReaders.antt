-- Expressions, specifiers and declarators of each depth at which reading fails are begun.
use Rattle.std.proofs.Common.{ℕ, zero, suc, Bool, false, List, [], ◌∷◌, arith, inl, inr}
use Rattle.cc_base.specs.declared.place.Spot.{Spot}
use Rattle.cc_tree.specs.Trees.{ExprTree, name, MemberTree, members, ConstantTree, constant, no_declarators, no_expr}
use Rattle.cc_grammar.specs.Names.{Names}
use Rattle.cc_grammar.specs.Classes.{spot}
use Rattle.cc_grammar.specs.Reading.{Inner, no_inner, opened, readers}
use Rattle.cc_parse_laws.proofs.Inner.{SoundInner}
use Rattle.cc_parse_laws.proofs.SoundLists.{member_list_sound, constant_list_sound, no_member_list, no_constant_list}
use Rattle.cc_parse_laws.proofs.SoundReaders.{readers_sound}
use Rattle.cc_parse_places.proofs.Begun.{at}
use Rattle.cc_parse_places.proofs.Failures.{err_is}
use Rattle.cc_parse_places.proofs.BegunTypes.{BegunInner, some_spec}
use Rattle.cc_parse_places.proofs.BegunExpressions.{expression_fails}
use Rattle.cc_parse_places.proofs.BegunDeclarators.{nothing_fails, declarator_fails}
use Rattle.cc_parse_places.proofs.BegunSpecifiers.{MembersFail, ConstantsFail, members_fail, constants_fail, specs_fail}

-- at the greatest depth, where nothing that counts is there
no_members_fail : (names : Names) → MembersFail names no_inner 0
no_members_fail names ts m e = (members (spot ts) (some_spec (spot ts)) no_declarators ∷ [], (tt, at (err_is {A = List (MemberTree Spot)} e)))

no_constants_fail : (names : Names) → ConstantsFail names no_inner 0
no_constants_fail names ts m e = ((constant (spot ts) [] no_expr ∷ [], false), (tt, at (err_is {A = List (ConstantTree Spot) × Bool} e)))

flat_fails : (names : Names) → BegunInner names (opened names no_inner 0) 0
flat_fails names = record {
  expr = λ least some l ts m e. (name (spot ts) [], omega (arith, l), inl (err_is {A = ExprTree Spot} e));
  specs = specs_fail names no_inner 0 (no_member_list names) (no_constant_list names) (no_members_fail names) (no_constants_fail names);
  declarator = λ mode ts m e. nothing_fails names no_inner 0 0 mode ts m e;
}

-- one less deep
opened_fails : (names : Names) (inner : Inner) (d : ℕ) → SoundInner names inner d → BegunInner names inner d → BegunInner names (opened names inner (suc d)) (suc d)
opened_fails names inner d good fails = record {
  expr = λ least some l ts m e. let q = expression_fails names inner d good fails least some l ts m e in (q.0, q.1, inr q.2);
  specs = specs_fail names inner (suc d) (member_list_sound names inner d good) (constant_list_sound names inner d good) (members_fail names inner d good fails) (constants_fail names inner d good fails);
  declarator = declarator_fails names inner d good fails;
}

pub readers_fail : (names : Names) (d : ℕ) → BegunInner names (readers names d) d
readers_fail names zero = flat_fails names
readers_fail names (suc d) = opened_fails names (readers names d) d (readers_sound names d) (readers_fail names d)
