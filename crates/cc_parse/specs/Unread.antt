-- The tokens that reading leaves.
use Rattle.std.specs.Prelude.{◌≡◌, ℕ, List, length, Ok, Err}
use Rattle.cc_lex.specs.declared.token.Token.{Token}
use Rattle.cc_grammar.specs.Outcomes.{Outcome}
use Rattle.cc_grammar.specs.Reading.{reading}
use Rattle.cc_grammar.specs.Limit.{limit}

-- behind the file, or from the one on at which reading fails
abbrev pub unread : {A : Type 0} → Outcome A → List Token
unread (Ok x) = x.1
unread (Err r) = r

-- reading within the limit of depth fails where so many tokens are left
pub record FailsBefore (tokens : List Token) (n : ℕ) : Type 0 where
  pub rest : List Token
  pub fails : reading limit tokens ≡ Err rest
  pub number : n ≡ length rest
