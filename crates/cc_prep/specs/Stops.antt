-- Where the reading of a file stops.
use Rattle.std.specs.Prelude.{◌≡◌, ℕ, List, Option, Some, None, Contains}
use Rattle.cc_base.specs.declared.place.Spot.{Spot}
use Rattle.cc_lex.specs.declared.token.Token.{Token}
use Rattle.cc_prep.specs.Marks.{IsSpotIn, shifted}
use Rattle.cc_prep.specs.declared.fault.Stop.{Stop}
use Rattle.cc_prep.specs.declared.fault.Stop.TheVariants as stop
use Rattle.cc_prep.specs.declared.replacement.Origin.{Origin}
use Rattle.cc_prep.specs.declared.replacement.Origin.TheVariants as origin

-- there are too many tokens, at this spot; or memory was wanting
abbrev pub IsTooManyAt : Spot → Stop → Type 0
IsTooManyAt spot (stop.TooManyTokens at) = at ≡ spot
IsTooManyAt spot stop.Memory = Unit {0}
IsTooManyAt spot _ = ⊥

-- where a token of a text stands in the file of the project
abbrev pub spot_in : Origin → Spot → Spot
spot_in (origin.Project first) spot = shifted first spot
spot_in (origin.Included at) spot = at

-- the tokens of a text that begins at the spot, in a file that is included there or is the project's own
abbrev pub origin_in : Option Spot → Spot → Origin
origin_in None spot = origin.Project spot
origin_in (Some at) spot = origin.Included at

-- there are too many tokens, at one of the text; or memory was wanting
abbrev pub IsTooManyIn : Origin → List Token → Stop → Type 0
IsTooManyIn source tokens (stop.TooManyTokens at) = (token : Token) × Contains tokens token × (at ≡ spot_in source token.spot)
IsTooManyIn source tokens stop.Memory = Unit {0}
IsTooManyIn source tokens _ = ⊥

-- rule `rule` is broken at the spot; or memory was wanting
abbrev pub IsBroken : Spot → Stop → Type 0
IsBroken spot (stop.Directive at rule) = at ≡ spot
IsBroken spot stop.Memory = Unit {0}
IsBroken spot _ = ⊥

-- a lexical fault at a place of the bytes; or memory was wanting
abbrev pub IsLexicalIn : List ℕ → Stop → Type 0
IsLexicalIn bytes (stop.Lexical at rule) = IsSpotIn bytes at
IsLexicalIn bytes stop.Memory = Unit {0}
IsLexicalIn bytes _ = ⊥

-- a directive line is broken at a place of the bytes; or memory was wanting
abbrev pub IsDirectiveIn : List ℕ → Stop → Type 0
IsDirectiveIn bytes (stop.Directive at rule) = IsSpotIn bytes at
IsDirectiveIn bytes stop.Memory = Unit {0}
IsDirectiveIn bytes _ = ⊥

-- a stop at a place of the bytes; or memory was wanting
abbrev pub IsLocalStop : List ℕ → Stop → Type 0
IsLocalStop bytes (stop.Lexical at rule) = IsSpotIn bytes at
IsLocalStop bytes (stop.Directive at rule) = IsSpotIn bytes at
IsLocalStop bytes (stop.TooManyTokens at) = ⊥
IsLocalStop bytes stop.Memory = Unit {0}

-- the spot is one of the project's file, which is this one where it is not included
abbrev pub IsOutermost : List ℕ → Option Spot → Spot → Type 0
IsOutermost bytes None spot = IsSpotIn bytes spot
IsOutermost bytes (Some at) spot = spot ≡ at

-- the reading of the file stops at a place of it; too many tokens stand at one of the project's file
abbrev pub IsStopIn : List ℕ → Option Spot → Stop → Type 0
IsStopIn bytes outermost (stop.Lexical at rule) = IsSpotIn bytes at
IsStopIn bytes outermost (stop.Directive at rule) = IsSpotIn bytes at
IsStopIn bytes outermost (stop.TooManyTokens at) = IsOutermost bytes outermost at
IsStopIn bytes outermost stop.Memory = Unit {0}
