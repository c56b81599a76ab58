-- What the parser answers.
use Rattle.std.specs.Prelude.{◌≡◌, ◌<◌, ◌≤◌, ◌+◌, ℕ, List, take, length, ◌⊎◌}
use Rattle.cc_base.specs.declared.place.Spot.{Spot}
use Rattle.cc_lex.specs.declared.token.Token.{Token}
use Rattle.cc_tree.specs.Trees.{ExternalTree}
use Rattle.cc_grammar.specs.CutOff.{CutOff}
use Rattle.cc_grammar.specs.Orderly.{Orderly}
use Rattle.cc_grammar.specs.Spells.{Spells}
use Rattle.cc_grammar.specs.WellFormed.{WellFormed}
use Rattle.cc_grammar.specs.Limit.{limit}
use Rattle.cc_parse.specs.declared.fault.ParseFault.{ParseFault}
use Rattle.cc_parse.specs.declared.fault.ParseFault.TheVariants as fault

-- the file that the tokens are, and the one orderly tree of any depth that they spell
pub record IsTheTree (tokens : List Token) (f : List (ExternalTree Spot)) : Type 0 where
  pub file : WellFormed limit tokens f
  pub only : (g : List (ExternalTree Spot)) → Orderly g → Spells g tokens → g ≡ f

-- no orderly tree within the limit of depth is spelled so
abbrev pub HasNoTree : List Token → Type 0
HasNoTree tokens = (f : List (ExternalTree Spot)) → WellFormed limit tokens f → ⊥

-- The token with this number, counted from 0, ends the shortest prefix of the tokens that no cut-off file within the limit of
-- depth is spelled by.
pub record BreaksAt (tokens : List Token) (n : ℕ) : Type 0 where
  pub there : n < length tokens
  pub none : CutOff limit (take (n + 1) tokens) → ⊥
  pub shorter : (m : ℕ) → m ≤ n → CutOff limit (take m tokens)

-- there is no such prefix, and the tokens are no file within the limit of depth
pub record BreaksOff (tokens : List Token) : Type 0 where
  pub begun : (m : ℕ) → CutOff limit (take m tokens)
  pub none : HasNoTree tokens

-- a cut-off file of some depth is spelled so
abbrev pub IsBegun : List Token → Type 0
IsBegun tokens = (d : ℕ) × CutOff d tokens

-- Why tokens are no file, and at which token they stop being one; at the end it is the number of tokens. Want of memory says
-- nothing.
abbrev pub IsRefused : List Token → ParseFault → Type 0
IsRefused tokens (fault.Syntax n) = (BreaksAt tokens n × (IsBegun (take (n + 1) tokens) → ⊥)) ⊎ ((n ≡ length tokens) × BreaksOff tokens)
IsRefused tokens (fault.TooDeep n) = BreaksAt tokens n × IsBegun (take (n + 1) tokens)
IsRefused tokens fault.Memory = Unit {0}
