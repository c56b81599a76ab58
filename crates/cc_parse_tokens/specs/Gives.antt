-- How the code's answers stand for those of the definitions.
use Rattle.std.specs.Prelude.{◌≡◌, List, Result, Ok, Err}
use Rattle.cc_lex.specs.declared.token.Token.{Token}
use Rattle.cc_grammar.specs.Outcomes.{Outcome}
use Rattle.cc_parse_tokens.specs.declared.fault.Fault.{Fault}
use Rattle.cc_parse_tokens.specs.declared.fault.Fault.TheVariants.{Refused}

-- An answer is the outcome, up to the view of its value, with these tokens left. Want of memory says nothing.
abbrev pub Gives : {A B : Type 0} → (A → B) → Outcome B → Result A Fault → List Token → Type 0
Gives view outcome (Ok a) left = outcome ≡ Ok (view a, left)
Gives view outcome (Err e) left = e ≡ Refused → outcome ≡ Err left
