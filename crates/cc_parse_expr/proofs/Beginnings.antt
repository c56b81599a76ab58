-- What a beginning leads to.
use Rattle.std.proofs.Common.{◌≡◌, refl, ℕ, List}
use Rattle.cc_base.specs.declared.place.Spot.{Spot}
use Rattle.cc_lex.specs.declared.token.Token.{Token}
use Rattle.cc_grammar.specs.Names.{Names}
use Rattle.cc_grammar.specs.Classes.{Start, begins_name, begins_integer, begins_character, begins_string, begins_paren, begins_unary, begins_step, begins_sizeof, begins_nothing, skip}
use Rattle.cc_grammar.specs.Reading.{Inner, prefix, behind_sizeof}
use Rattle.cc_parse_tokens.specs.Classes.{class_of_start}
use Rattle.cc_parse_tokens.specs.declared.class.Start.TheVariants as class

pub at_sizeof : (names : Names) (inner : Inner) (d least : ℕ) (s : Start) (n : Spot) (ts : List Token) → class_of_start s ≡ class.Sizeof → prefix names inner d least s n ts ≡ behind_sizeof names inner d n (skip ts)
at_sizeof names inner d least (begins_name x) n ts e = absurd cc
at_sizeof names inner d least (begins_integer v c) n ts e = absurd cc
at_sizeof names inner d least (begins_character v) n ts e = absurd cc
at_sizeof names inner d least (begins_string bytes) n ts e = absurd cc
at_sizeof names inner d least begins_paren n ts e = absurd cc
at_sizeof names inner d least (begins_unary op) n ts e = absurd cc
at_sizeof names inner d least (begins_step op) n ts e = absurd cc
at_sizeof names inner d least begins_sizeof n ts e = refl
at_sizeof names inner d least begins_nothing n ts e = absurd cc
