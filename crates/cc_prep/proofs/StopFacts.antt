-- Where stops are, from where their causes are.
use Rattle.std.proofs.Common.{◌≡◌, ℕ, List, sym, subst}
use Rattle.std.specs.Prelude.{Contains, IfSome, Option, Some, None}
use Rattle.std.specs.List.{slice_range}
use Rattle.cc_base.specs.declared.place.Spot.{Spot}
use Rattle.cc_lex.specs.declared.token.Token.{Token}
use Rattle.cc_lex.specs.Cut.{Cut}
use Rattle.cc_prep.specs.Files.{IsIncludeOf}
use Rattle.cc_prep.specs.Kinds.{IsOneString}
use Rattle.cc_prep.specs.Marks.{IsMark, IsSpotIn, shifted}
use Rattle.cc_prep.specs.declared.file.Include.{Include}
use Rattle.cc_prep.specs.declared.mark.Mark.{Mark}
use Rattle.cc_prep.specs.Stops.{IsTooManyAt, IsTooManyIn, IsBroken, IsLexicalIn, IsDirectiveIn, IsLocalStop, IsOutermost, IsStopIn, spot_in, origin_in}
use Rattle.cc_prep.specs.declared.fault.Stop.{Stop}
use Rattle.cc_prep.specs.declared.fault.Stop.TheVariants as stop
use Rattle.cc_prep.specs.declared.replacement.Origin.{Origin}

pub broken_directive : (bytes : List ℕ) (hash : Spot) (s : Stop) → IsSpotIn bytes hash → IsBroken hash s → IsDirectiveIn bytes s
broken_directive bytes hash (stop.Lexical at rule) h b = absurd b
broken_directive bytes hash (stop.Directive at rule) h b = subst (IsSpotIn bytes) (sym b) h
broken_directive bytes hash (stop.TooManyTokens at) h b = absurd b
broken_directive bytes hash stop.Memory h b = tt

pub directive_stop : (bytes : List ℕ) (o : Option Spot) (s : Stop) → IsDirectiveIn bytes s → IsStopIn bytes o s
directive_stop bytes o (stop.Lexical at rule) h = absurd h
directive_stop bytes o (stop.Directive at rule) h = h
directive_stop bytes o (stop.TooManyTokens at) h = absurd h
directive_stop bytes o stop.Memory h = tt

pub broken_stop : (bytes : List ℕ) (o : Option Spot) (hash : Spot) (s : Stop) → IsSpotIn bytes hash → IsBroken hash s → IsStopIn bytes o s
broken_stop bytes o hash s h b = directive_stop bytes o s (broken_directive bytes hash s h b)

pub lexical_stop : (bytes : List ℕ) (o : Option Spot) (s : Stop) → IsLexicalIn bytes s → IsStopIn bytes o s
lexical_stop bytes o (stop.Lexical at rule) h = h
lexical_stop bytes o (stop.Directive at rule) h = absurd h
lexical_stop bytes o (stop.TooManyTokens at) h = absurd h
lexical_stop bytes o stop.Memory h = tt

pub lexical_local : (bytes : List ℕ) (s : Stop) → IsLexicalIn bytes s → IsLocalStop bytes s
lexical_local bytes (stop.Lexical at rule) h = h
lexical_local bytes (stop.Directive at rule) h = absurd h
lexical_local bytes (stop.TooManyTokens at) h = absurd h
lexical_local bytes stop.Memory h = tt

pub broken_local : (bytes : List ℕ) (hash : Spot) (s : Stop) → IsSpotIn bytes hash → IsBroken hash s → IsLocalStop bytes s
broken_local bytes hash (stop.Lexical at rule) h b = absurd b
broken_local bytes hash (stop.Directive at rule) h b = subst (IsSpotIn bytes) (sym b) h
broken_local bytes hash (stop.TooManyTokens at) h b = absurd b
broken_local bytes hash stop.Memory h b = tt

pub local_stop : (bytes : List ℕ) (o : Option Spot) (s : Stop) → IsLocalStop bytes s → IsStopIn bytes o s
local_stop bytes o (stop.Lexical at rule) h = h
local_stop bytes o (stop.Directive at rule) h = h
local_stop bytes o (stop.TooManyTokens at) h = absurd h
local_stop bytes o stop.Memory h = tt

-- a mark's spot is a place
pub mark_spot : (bytes : List ℕ) (m : Mark) → IsMark bytes m → IsSpotIn bytes m.spot
mark_spot bytes m h = (m.at, h.within, h.spot_is)

-- what an `include` line says
pub include_of : (bytes : List ℕ) (from to : ℕ) (tokens : List Token) (hash : Spot) (o : Option Include) → Cut (slice_range bytes from to) tokens → IsSpotIn bytes hash
    → IfSome o (λ include. IsOneString tokens include.name) → IfSome o (λ include. include.hash ≡ hash) → IfSome o (IsIncludeOf bytes)
include_of bytes from to tokens hash None cut h name at = tt
include_of bytes from to tokens hash (Some include) cut h name at =
    record { named = record { from = from; to = to; tokens = tokens; cut = cut; only = name }; hash = subst (IsSpotIn bytes) (sym at) h }

pub too_many_stop : (bytes : List ℕ) (o : Option Spot) (first : Spot) (tokens : List Token) (s : Stop) → ((t : Token) → Contains tokens t → IsSpotIn bytes (shifted first t.spot))
    → IsTooManyIn (origin_in o first) tokens s → IsStopIn bytes o s
too_many_stop bytes o first tokens (stop.Lexical at rule) h b = absurd b
too_many_stop bytes o first tokens (stop.Directive at rule) h b = absurd b
too_many_stop bytes None first tokens (stop.TooManyTokens at) h b = subst (IsSpotIn bytes) (sym b.2) (h b.0 b.1)
too_many_stop bytes (Some a) first tokens (stop.TooManyTokens at) h b = b.2
too_many_stop bytes o first tokens stop.Memory h b = tt

-- a token among the others
pub too_many_one : (source : Origin) (tokens : List Token) (t : Token) (s : Stop) → Contains tokens t → IsTooManyAt (spot_in source t.spot) s → IsTooManyIn source tokens s
too_many_one source tokens t (stop.Lexical at rule) among h = absurd h
too_many_one source tokens t (stop.Directive at rule) among h = absurd h
too_many_one source tokens t (stop.TooManyTokens at) among h = (t, among, h)
too_many_one source tokens t stop.Memory among h = tt
