-- Initialisers are read back.
use Rattle.std.proofs.Common.{◌≡◌, ◌≤◌, ◌<◌, refl, ℕ, zero, suc, Bool, true, false, List, [], ◌∷◌, length, Option, Some, None, Ok, arith, sym, ap, subst}
use Rattle.cc_base.specs.declared.place.Spot.{Spot}
use Rattle.cc_lex.specs.declared.token.Token.{Token}
use Rattle.cc_lex.specs.declared.punct.Punct.TheVariants as the_punct
use Rattle.cc_tree.specs.Trees.{ExprTree, ValueTree, single, braces, ValueTrees, no_values, more_values}
use Rattle.cc_tree.specs.Views.{gathered_values}
use Rattle.cc_grammar.specs.Outline.{end}
use Rattle.cc_grammar.specs.Outlines as outlines
use Rattle.cc_grammar.specs.Levels.{level}
use Rattle.cc_grammar.specs.Names.{Names}
use Rattle.cc_grammar.specs.Classes.{next_is, skip, binds}
use Rattle.cc_grammar.specs.Reading.{readers, enclosed, value, given}
use Rattle.cc_parse_laws.proofs.Spans.{Reads}
use Rattle.cc_parse_laws.proofs.Steps.{reads_length}
use Rattle.cc_parse_laws.proofs.Inner.{CompleteInner, Ends}
use Rattle.cc_parse_laws.proofs.Lists.{Span, Others, Separated, Enclosed, Braced, Again, Shorter, enclosed_again}
use Rattle.cc_parse_laws.proofs.Peeks.{after, inside, punct_tail, punct_other, punct_ends}
use Rattle.cc_parse_laws.proofs.Firsts.{inside_sinks, first_operand, opens_not}
use Rattle.cc_parse_laws.proofs.Edges.{operand_shorter}
use Rattle.cc_parse_laws.proofs.Pieces.{comes, only, only_counted}

-- an initialiser has tokens
value_shorter : (names : Names) (v : ValueTree Spot) (d : ℕ) (ts r : List Token) → Reads (outlines.value names v) d ts r → length r < length ts
value_shorter names (single e) d ts r x = let y = only_counted (2 ≤ level e) (outlines.expr names e) d ts r x in operand_shorter names e d ts r y.1
value_shorter names (braces n vs b) d ts r x = omega (arith, reads_length (outlines.value names (braces n vs b)) d ts r x)

-- ---- Lists of initialisers

listed : ValueTrees Spot → List (ValueTree Spot)
listed no_values = []
listed (more_values v vs) = v ∷ listed vs

gathered_listed : (vs : ValueTrees Spot) → gathered_values (listed vs) ≡ vs
unfolding listed
gathered_listed no_values = refl
gathered_listed (more_values v vs) = ap (more_values v) (gathered_listed vs)

-- an initialiser, and what may follow it
abbrev Spanned : Names → ℕ → Span (ValueTree Spot)
Spanned names d v ts r = Reads (outlines.value names v) d ts r × Ends 2 r

further_ends : (names : Names) (vs : ValueTrees Spot) (d : ℕ) (ts r : List Token) → Reads (outlines.further_values names vs) d ts r → Ends 2 r → Ends 2 ts
further_ends names no_values d ts r x e = subst (Ends 2) (sym x) e
further_ends names (more_values v vs) d ts r x e = punct_ends 2 the_punct.Comma ts (omega arith) (comes the_punct.Comma None (after (outlines.further_values names (more_values v vs))) d ts r x).is

further_others : (names : Names) (vs : ValueTrees Spot) (d : ℕ) (ts r : List Token) → Reads (outlines.further_values names vs) d ts r → Ends 2 r → Others (Spanned names d) (listed vs) ts r
unfolding listed
further_others names no_values d ts r x e = x
further_others names (more_values v vs) d ts r x e =
    let comma = comes the_punct.Comma None (after (outlines.further_values names (more_values v vs))) d ts r x in
    let y = comma.then in
    let z = only (outlines.further_values names vs) d y.0 r y.3 in
    (y.0, comma.is, (y.2, further_ends names vs d y.0 r z e), further_others names vs d y.0 r z e)

values_separated : (names : Names) (vs : ValueTrees Spot) (d : ℕ) (ts r : List Token) → outlines.HasValues vs → Reads (outlines.values names vs) d ts r → Ends 2 r → Separated (Spanned names d) (listed vs) ts r
unfolding listed
values_separated names no_values d ts r h x e = absurd h
values_separated names (more_values v vs) d ts r h x e =
    let z = only (outlines.further_values names vs) d x.0 r x.3 in
    (x.0, (x.2, further_ends names vs d x.0 r z e), further_others names vs d x.0 r z e)

-- behind the first brace
closed : (names : Names) (vs : ValueTrees Spot) (last : Bool) (d : ℕ) (ts r : List Token) → outlines.HasValues vs
    → Reads (outlines.within (outlines.values names vs) (outlines.within (outlines.trailing_comma last) (outlines.punct the_punct.RightBrace end))) d ts r → Enclosed (Spanned names d) (listed vs) last ts r
closed names vs true d ts r h x =
    let comma = comes the_punct.Comma None end d x.0 x.3.0 x.3.2 in
    let brace = comes the_punct.RightBrace None end d (skip x.0) r (subst (λ q. Reads (outlines.punct the_punct.RightBrace end) d q r) (sym comma.then) x.3.3) in
    (x.0, values_separated names vs d ts x.0 h x.2 (punct_ends 2 the_punct.Comma x.0 (omega arith) comma.is), comma.is, brace.is, brace.then)
closed names vs false d ts r h x =
    let brace = comes the_punct.RightBrace None end d x.0 r (subst (λ q. Reads (outlines.punct the_punct.RightBrace end) d q r) (sym x.3.2) x.3.3) in
    (x.0, values_separated names vs d ts x.0 h x.2 (punct_ends 2 the_punct.RightBrace x.0 (omega arith) brace.is), brace.is, brace.then)

-- ---- Initialisers

no_equal : (ts : List Token) → Ends 2 ts → next_is the_punct.Equal ts ≡ false
no_equal ts e = by (next_is the_punct.Equal ts) refl
  where
    by : (b : Bool) → next_is the_punct.Equal ts ≡ b → next_is the_punct.Equal ts ≡ false
    by false y = y
    by true y = let same = punct_tail the_punct.Equal ts y in absurd (omega (arith, e.looser, ap binds same))

opens : (names : Names) (d : ℕ) (v : ValueTree Spot) (ts r : List Token) → Spanned names d v ts r → next_is the_punct.RightBrace ts ≡ false
opens names d (single e) ts r x = let y = only_counted (2 ≤ level e) (outlines.expr names e) d ts r x.0 in opens_not names the_punct.RightBrace ts refl (first_operand names e d ts r y.1)
opens names d (braces n vs b) ts r x =
    let i = inside (outlines.value names (braces n vs b)) in
    let y = only_counted (outlines.HasValues vs) i d ts r x.0 in
    punct_other the_punct.RightBrace the_punct.LeftBrace ts refl (comes the_punct.LeftBrace (Some n) (after i) d ts r (inside_sinks true i d ts r y.1)).is

module _ (readers_complete : (names : Names) (d : ℕ) → CompleteInner names (readers names d) d) where
  single_again : (names : Names) (d : ℕ) (e : ExprTree Spot) (ts r : List Token) → Reads (outlines.value names (single e)) (suc d) ts r → Ends 2 r → value names (suc d) ts ≡ Ok (single e, r)
  single_again names d e ts r x ends =
      let y = only_counted (2 ≤ level e) (outlines.expr names e) (suc d) ts r x in
      let read : (readers names (suc d)).expr 2 ts ≡ Ok (e, r) = (readers_complete names (suc d)).expr 2 e ts r y.0 y.1 ends in
      let other : next_is the_punct.LeftBrace ts ≡ false = opens_not names the_punct.LeftBrace ts refl (first_operand names e (suc d) ts r y.1) in
      rw (other, read) refl

  braces_again : (names : Names) (d : ℕ) (n : Spot) (vs : ValueTrees Spot) (last : Bool) (ts r : List Token) → ((v : ValueTree Spot) → Again (value names d) (Spanned names d) (Ends 2) v)
      → Reads (outlines.value names (braces n vs last)) (suc d) ts r → value names (suc d) ts ≡ Ok (braces n vs last, r)
  braces_again names d n vs last ts r again x =
      let i = inside (outlines.value names (braces n vs last)) in
      let y = only_counted (outlines.HasValues vs) i (suc d) ts r x in
      let brace = comes the_punct.LeftBrace (Some n) (after i) d ts r y.1 in
      let shorter : Shorter (Spanned names d) = λ v us q z. value_shorter names v d us q z.0 in
      let spans : Braced (Spanned names d) (listed vs) last ts r = (brace.is, closed names vs last d (skip ts) r y.0 brace.then) in
      let read : enclosed (value names d) ts ≡ Ok ((listed vs, last), r) =
      enclosed_again (value names d) (Spanned names d) (Ends 2) again shorter (λ us e. punct_ends 2 the_punct.Comma us (omega arith) e) (λ us e. punct_ends 2 the_punct.RightBrace us (omega arith) e) (opens names d) (listed vs) last ts r spans in
      rw (brace.is, brace.at, read, gathered_listed vs) refl

  pub value_again : (names : Names) (d : ℕ) (v : ValueTree Spot) (ts r : List Token) → Reads (outlines.value names v) d ts r → Ends 2 r → value names d ts ≡ Ok (v, r)
  value_again names zero (single e) ts r x ends = absurd x.2
  value_again names zero (braces n vs b) ts r x ends = absurd x.2
  value_again names (suc d) (single e) ts r x ends = single_again names d e ts r x ends
  value_again names (suc d) (braces n vs b) ts r x ends = braces_again names d n vs b ts r (λ v us q z. value_again names d v us q z.0) x

  -- or none
  pub given_again : (names : Names) (d : ℕ) (v : Option (ValueTree Spot)) (ts r : List Token) → Reads (outlines.given names v) d ts r → Ends 2 r → given names d ts ≡ Ok (v, r)
  given_again names d None ts r x ends = rw (x, no_equal r ends) refl
  given_again names d (Some v) ts r x ends =
      let equal = comes the_punct.Equal None (after (outlines.given names (Some v))) d ts r x in
      rw (equal.is, value_again names d v (skip ts) r (only (outlines.value names v) d (skip ts) r equal.then) ends) refl
