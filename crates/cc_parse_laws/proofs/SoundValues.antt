-- What is read as an initialiser is there.
use Rattle.std.proofs.Common.{◌≡◌, refl, ℕ, zero, suc, Bool, true, false, List, [], ◌∷◌, Option, Some, None, Ok, arith, subst, inl, inr}
use Rattle.cc_base.specs.declared.place.Spot.{Spot}
use Rattle.cc_lex.specs.declared.token.Token.{Token}
use Rattle.cc_lex.specs.declared.punct.Punct.TheVariants as the_punct
use Rattle.cc_tree.specs.Trees.{ValueTree, single, braces}
use Rattle.cc_tree.specs.Views.{gathered_values}
use Rattle.cc_grammar.specs.Outline.{Outline, end, ◌▸◌}
use Rattle.cc_grammar.specs.Outlines as outlines
use Rattle.cc_grammar.specs.Names.{Names}
use Rattle.cc_grammar.specs.Classes.{next_is, skip, spot}
use Rattle.cc_grammar.specs.Outcomes.{and_then, pure, ◌<$>◌}
use Rattle.cc_grammar.specs.Reading.{placed, skipping, enclosed, readers, value, given}
use Rattle.cc_parse_laws.proofs.Spans.{Reads}
use Rattle.cc_parse_laws.proofs.Steps.{map_ok, ok_is, branched, next_reads}
use Rattle.cc_parse_laws.proofs.Lists.{IsSound, Others, Separated, Enclosed, Braced, enclosed_sound}
use Rattle.cc_parse_laws.proofs.Inner.{SoundInner}
use Rattle.cc_parse_laws.proofs.Endings.{ReadsTo}

-- an initialiser, from some tokens to others
abbrev pub ReadsValue : Names → ℕ → ValueTree Spot → List Token → List Token → Type 0
ReadsValue names d v ts r = Reads (outlines.value names v) d ts r

abbrev pub ReadsGiven : Names → ℕ → Option (ValueTree Spot) → List Token → List Token → Type 0
ReadsGiven names d v ts r = Reads (outlines.given names v) d ts r

further_values : (names : Names) (d : ℕ) (vs : List (ValueTree Spot)) (ts r : List Token) → Others (ReadsValue names d) vs ts r → Reads (outlines.further_values names (gathered_values vs)) d ts r
further_values names d [] ts r s = s
further_values names d (v ∷ vs) ts r s =
    let more = further_values names d vs s.0 r s.3 in
    next_reads the_punct.Comma None (outlines.within (outlines.value names v) ▸ outlines.within (outlines.further_values names (gathered_values vs)) ▸ end) d ts r s.1 tt (s.0, tt, s.2, (r, tt, more, refl))

some_values : (names : Names) (d : ℕ) (vs : List (ValueTree Spot)) (ts r : List Token) → Separated (ReadsValue names d) vs ts r → Reads (outlines.values names (gathered_values vs)) d ts r
some_values names d [] ts r s = absurd s
some_values names d (v ∷ vs) ts r s = (s.0, tt, s.1, (r, tt, further_values names d vs s.0 r s.2, refl))

has_values : (names : Names) (d : ℕ) (vs : List (ValueTree Spot)) (ts r : List Token) → Separated (ReadsValue names d) vs ts r → outlines.HasValues (gathered_values vs)
has_values names d [] ts r s = absurd s
has_values names d (v ∷ vs) ts r s = tt

-- the outline of what stands behind the first brace
abbrev behind_brace : Names → List (ValueTree Spot) → Bool → Outline
behind_brace names vs trailing = outlines.within (outlines.values names (gathered_values vs)) ▸ outlines.within (outlines.trailing_comma trailing) ▸ outlines.punct the_punct.RightBrace ▸ end

closing : (d : ℕ) (ts r : List Token) → next_is the_punct.RightBrace ts ≡ true → skip ts ≡ r → Reads (outlines.punct the_punct.RightBrace ▸ end) d ts r
closing d ts r e s = next_reads the_punct.RightBrace None end d ts r e tt s

enclosed_values : (names : Names) (d : ℕ) (vs : List (ValueTree Spot)) (trailing : Bool) (ts r : List Token) → Enclosed (ReadsValue names d) vs trailing ts r → outlines.HasValues (gathered_values vs) × Reads (behind_brace names vs trailing) d ts r
enclosed_values names d vs true ts r s =
    let comma : Reads (outlines.punct the_punct.Comma ▸ end) d s.0 (skip s.0) = next_reads the_punct.Comma None end d s.0 (skip s.0) s.2 tt refl in
    (has_values names d vs ts s.0 s.1, (s.0, tt, some_values names d vs ts s.0 s.1, (skip s.0, tt, comma, closing d (skip s.0) r s.3 s.4)))
enclosed_values names d vs false ts r s =
    (has_values names d vs ts s.0 s.1, (s.0, tt, some_values names d vs ts s.0 s.1, (s.0, tt, refl, closing d s.0 r s.2 s.3)))

braced : (names : Names) (d : ℕ) (vs : List (ValueTree Spot)) (trailing : Bool) (ts r : List Token) → Braced (ReadsValue names d) vs trailing ts r → ReadsValue names (suc d) (braces (spot ts) (gathered_values vs) trailing) ts r
braced names d vs trailing ts r s =
    let inside = enclosed_values names d vs trailing (skip ts) r s.1 in
    (r, inside.0, next_reads the_punct.LeftBrace (Some (spot ts)) (behind_brace names vs trailing) d ts r s.0 refl inside.1, refl)

module _ (readers_sound : (names : Names) (d : ℕ) → SoundInner names (readers names d) d) where
  single_sound : (names : Names) (d : ℕ) (ts : List Token) (x : ValueTree Spot × List Token) → and_then ((readers names d).expr 2 ts) (λ e s. Ok (single e, s)) ≡ Ok x → ReadsValue names d x.0 ts x.1
  single_sound names d ts x e =
      let m = map_ok ((readers names d).expr 2 ts) single x e in
      let s = (readers_sound names d).expr 2 (omega arith) ts m.0 m.1 in
      subst (ReadsTo (ReadsValue names d) ts) m.2 (m.0.1, s.0, s.1, refl)

  pub value_sound : (names : Names) (d : ℕ) → IsSound (value names d) (ReadsValue names d)
  value_sound names zero ts x e = absurd cc
  value_sound names (suc d) ts x e =
      elim (branched (next_is the_punct.LeftBrace ts) (placed (λ n. (λ vs. braces n (gathered_values vs.0) vs.1) <$> enclosed (value names d))) (single <$> (readers names (suc d)).expr 2) ts (Ok x) e) [
        | inl c ↦
            let m = map_ok (enclosed (value names d) ts) (λ (vs : List (ValueTree Spot) × Bool). braces (spot ts) (gathered_values vs.0) vs.1) x c.1 in
            let s = enclosed_sound (value names d) (ReadsValue names d) (value_sound names d) ts m.0 m.1 in
            subst (ReadsTo (ReadsValue names (suc d)) ts) m.2 (braced names d m.0.0.0 m.0.0.1 ts m.0.1 s)
        | inr c ↦ single_sound names (suc d) ts x c.1
      ]

  pub given_sound : (names : Names) (d : ℕ) → IsSound (given names d) (ReadsGiven names d)
  given_sound names d ts x e =
      elim (branched (next_is the_punct.Equal ts) (skipping (Some <$> value names d)) (pure None) ts (Ok x) e) [
        | inl c ↦
            let m = map_ok (value names d (skip ts)) Some x c.1 in
            let s = value_sound names d (skip ts) m.0 m.1 in
            subst (ReadsTo (ReadsGiven names d) ts) m.2
            (next_reads the_punct.Equal None (outlines.within (outlines.value names m.0.0) ▸ end) d ts m.0.1 c.0 tt (m.0.1, tt, s, refl))
        | inr c ↦ subst (ReadsTo (ReadsGiven names d) ts) (ok_is (None, ts) x c.1) refl
      ]
