-- How the reader of declarators comes to a declarator with tokens still to be looked at.
use Rattle.std.proofs.Common.{◌≡◌, ◌≤◌, ◌<◌, ◌+◌, refl, ℕ, zero, suc, true, false, List, Some, None, Ok, arith, ap, ◌∙◌}
use Rattle.std.specs.Prelude.{◌&&◌, ◌||◌, nat_lt}
use Rattle.std.proofs.lemmas.Bool.{lt-ltb, and_left, and_from, or_from}
use Rattle.cc_base.specs.declared.place.Spot.{Spot}
use Rattle.cc_lex.specs.declared.token.Token.{Token}
use Rattle.cc_lex.specs.declared.token.TokenKind.TheVariants as kind
use Rattle.cc_lex.specs.declared.punct.Punct.TheVariants as the_punct
use Rattle.cc_tree.specs.Trees.{DeclTree, declared, nameless, pointer, array, function, grouped}
use Rattle.cc_tree.specs.Depth.{declarator_depth}
use Rattle.cc_grammar.specs.Names.{Names, is_type}
use Rattle.cc_grammar.specs.Outline.{end, part, depth, deeper}
use Rattle.cc_grammar.specs.Outlines as outlines
use Rattle.cc_grammar.specs.Classes.{next_is, is_punct, skip, next_ident, starts_spec}
use Rattle.cc_grammar.specs.Outcomes.{and_then, pure, ◌>>=◌}
use Rattle.cc_grammar.specs.Reading.{Inner, Mode, direct, suffix, suffixes, suffix_comes}
use Rattle.cc_parse_laws.proofs.Spans.{Reads, reads_depth}
use Rattle.cc_parse_laws.proofs.Steps.{branch_true, branch_false}
use Rattle.cc_parse_laws.proofs.Depths as depths
use Rattle.cc_parse_laws.proofs.Peeks.{after, inside, at_token}
use Rattle.cc_parse_laws.proofs.Firsts.{inside_sinks}
use Rattle.cc_parse_laws.proofs.Climbs.{bound}
use Rattle.cc_parse_laws.proofs.Inner.{ReadsDeclarator, Suits, EndsDeclarator}

-- ---- What follows a left declarator

-- parameters or an array's length, or what ends the whole
pub record Suffixed (names : Names) (r : List Token) : Type 0 where
  pub no_name : next_ident r ≡ None
  pub paren : next_is the_punct.LeftParen r ≡ true → (next_is the_punct.RightParen (skip r) || starts_spec names (skip r)) ≡ true

-- no direct declarator begins with a star
pub no_star : (names : Names) (f : DeclTree Spot) (d : ℕ) (ts r : List Token) → outlines.is_direct f ≡ true → Reads (outlines.declarator names f) d ts r → next_is the_punct.Star r ≡ false → next_is the_punct.Star ts ≡ false
no_star names (declared n x) d ts r e y z = at_token (next_is the_punct.Star) (is_punct the_punct.Star) (λ t us. refl) (is_type names x ≡ false) (kind.Identifier x) (Some n) end d ts r y
no_star names nameless d ts r e y z = ap (next_is the_punct.Star) y ∙ z
no_star names (pointer n c f) d ts r e y z = absurd cc
no_star names (array n f l) d ts r e y z =
    no_star names f d ts y.2.0 y.2.1 (inside_sinks (outlines.is_written f) (outlines.declarator names f) d ts y.2.0 y.2.2)
    (at_token (next_is the_punct.Star) (is_punct the_punct.Star) (λ t us. refl) (Unit {0}) (kind.Punct the_punct.LeftBracket) (outlines.suffix_spot f n) (after (after (inside (outlines.declarator names (array n f l))))) d y.2.0 y.0 y.2.3)
no_star names (function n f ps) d ts r e y z =
    no_star names f d ts y.2.0 y.2.1 (inside_sinks (outlines.is_written f) (outlines.declarator names f) d ts y.2.0 y.2.2)
    (at_token (next_is the_punct.Star) (is_punct the_punct.Star) (λ t us. refl) (Unit {0}) (kind.Punct the_punct.LeftParen) (outlines.suffix_spot f n) (after (after (inside (outlines.declarator names (function n f ps))))) d y.2.0 y.0 y.2.3)
no_star names (grouped n f) d ts r e y z =
    at_token (next_is the_punct.Star) (is_punct the_punct.Star) (λ t us. refl) (Unit {0}) (kind.Punct the_punct.LeftParen) (outlines.opening_spot f n) (after (inside (outlines.declarator names (grouped n f)))) d ts y.0 y.2

-- a left declarator is less deep
pub left_depth : (names : Names) (f : DeclTree Spot) (d : ℕ) (ts m : List Token) → ReadsDeclarator names d f ts m → declarator_depth f < suc d
left_depth names f d ts m y =
    let low : depth (part (outlines.is_written f) (Unit {0}) (outlines.declarator names f) end) ≤ d = reads_depth (part (outlines.is_written f) (Unit {0}) (outlines.declarator names f) end) d ts m (m, tt, y, refl) in
    omega (arith, depths.declarator_depth names f, low)

module _ (names : Names) (inner : Inner) (d : ℕ) where
  -- Reading these tokens comes to the declarator, with others still to be looked at.
  pub record Grows (mode : Mode) (ts : List Token) (f : DeclTree Spot) (m : List Token) : Type 0 where
    pub turns : ℕ
    pub enough : suc d ≤ turns + declarator_depth f
    pub same : and_then (direct names inner (suc d) mode ts) (suffixes names inner (suc d) (suc d)) ≡ suffixes names inner (suc d) turns f m

  grown_at : (mode : Mode) (turns : ℕ) (ts : List Token) (a f : DeclTree Spot) (m r : List Token) → suc d ≤ turns + declarator_depth a
      → and_then (direct names inner (suc d) mode ts) (suffixes names inner (suc d) (suc d)) ≡ suffixes names inner (suc d) turns a m
      → suffix_comes names inner (suc d) m ≡ true → declarator_depth a < suc d → declarator_depth a < declarator_depth f → suffix names inner (suc d) a m ≡ Ok (f, r) → Grows mode ts f r
  grown_at mode zero ts a f m r enough same comes h deeper read = absurd (omega (arith, enough, h))
  grown_at mode (suc turns) ts a f m r enough same comes h deeper read =
      record {
        turns = turns;
        enough = omega (arith, enough, deeper);
        same =
            same
            ∙ branch_true (suffix_comes names inner (suc d) m && nat_lt (declarator_depth a) (suc d)) (suffix names inner (suc d) a >>= suffixes names inner (suc d) turns) (pure a) m
            (and_from (suffix_comes names inner (suc d) m) (nat_lt (declarator_depth a) (suc d)) comes (lt-ltb _ _ h))
            ∙ bound (suffixes names inner (suc d) turns) (suffix names inner (suc d) a m) f r read;
      }

  pub grown : (mode : Mode) (ts : List Token) (a f : DeclTree Spot) (m r : List Token) → Grows mode ts a m → suffix_comes names inner (suc d) m ≡ true → declarator_depth a < suc d → declarator_depth a < declarator_depth f
      → suffix names inner (suc d) a m ≡ Ok (f, r) → Grows mode ts f r
  grown mode ts a f m r g comes h deeper read = grown_at mode g.turns ts a f m r g.enough g.same comes h deeper read

  pub rooted : (mode : Mode) (ts : List Token) (f : DeclTree Spot) (m : List Token) → direct names inner (suc d) mode ts ≡ Ok (f, m) → Grows mode ts f m
  rooted mode ts f m read =
      record {
        turns = suc d;
        enough = omega arith;
        same = bound (suffixes names inner (suc d) (suc d)) (direct names inner (suc d) mode ts) f m read;
      }

  pub done_at : (turns : ℕ) (f : DeclTree Spot) (r : List Token) → EndsDeclarator r → suffixes names inner (suc d) turns f r ≡ Ok (f, r)
  done_at zero f r e = refl
  done_at (suc turns) f r e =
      branch_false (suffix_comes names inner (suc d) r && nat_lt (declarator_depth f) (suc d)) (suffix names inner (suc d) f >>= suffixes names inner (suc d) turns) (pure f) r
      (and_left (suffix_comes names inner (suc d) r) (nat_lt (declarator_depth f) (suc d)) (or_from (next_is the_punct.LeftBracket r) (next_is the_punct.LeftParen r) e.no_bracket e.no_paren))

  -- Reading what the declarator is read of comes to it, whatever follows; where none is written, what could follow a left declarator.
  abbrev pub IsGrown : DeclTree Spot → Type 0
  IsGrown f = (mode : Mode) (ts r : List Token) → Suits mode f → Reads (outlines.declarator names f) d ts r → (outlines.is_written f ≡ false → Suffixed names r) → Grows mode ts f r
