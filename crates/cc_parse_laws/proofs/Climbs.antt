-- How the reader of expressions comes to a tree with tokens still to be looked at.
use Rattle.std.proofs.Common.{◌≡◌, ◌≤◌, ◌<◌, ◌+◌, refl, ℕ, zero, suc, true, false, List, Ok, arith, ap, ◌∙◌}
use Rattle.std.specs.Prelude.{◌==◌}
use Rattle.std.proofs.lemmas.Bool.{lt-ltb, le-leb, lt-leb, ne_eqb}
use Rattle.cc_base.specs.declared.place.Spot.{Spot}
use Rattle.cc_lex.specs.declared.token.Token.{Token}
use Rattle.cc_tree.specs.Trees.{ExprTree}
use Rattle.cc_tree.specs.Depth.{expr_depth}
use Rattle.cc_grammar.specs.Levels.{level}
use Rattle.cc_grammar.specs.Names.{Names}
use Rattle.cc_grammar.specs.Outlines as outlines
use Rattle.cc_grammar.specs.Classes.{skip, spot, start, tail, Tail, binds, left_level}
use Rattle.cc_grammar.specs.Outcomes.{Outcome, Parser, and_then, pure, refuse}
use Rattle.cc_grammar.specs.Reading.{Inner, prefix, climb, go_on, goes_on, expression}
use Rattle.cc_parse_laws.proofs.Spans.{Reads, reads_depth}
use Rattle.cc_parse_laws.proofs.Steps.{branch_true, branch_false}
use Rattle.cc_parse_laws.proofs.Depths as depths
use Rattle.cc_parse_laws.proofs.Edges.{edge}
use Rattle.cc_parse_laws.proofs.Inner.{Ends, ReadsExpr}

pub bound : {A B : Type 0} (f : A → Parser B) (r : Outcome A) (a : A) (m : List Token) → r ≡ Ok (a, m) → and_then r f ≡ f a m
bound f r a m e = ap (λ z. and_then z f) e

pub mapped : {A B : Type 0} (f : A → B) (r : Outcome A) (a : A) (m : List Token) → r ≡ Ok (a, m) → and_then r (λ x s. Ok (f x, s)) ≡ Ok (f a, m)
mapped f r a m e = ap (λ z. and_then z (λ x s. Ok (f x, s))) e

abbrev pub done : {A : Type 0} → A → List Token → Outcome A
done a m = Ok (a, m)

pub rest_is : {A : Type 0} (a : A) (m r : List Token) → m ≡ r → done a m ≡ done a r
rest_is a m r e = ap (done a) e

pub not_zero : (d : ℕ) → (suc d == 0) ≡ false
not_zero d = ne_eqb (suc d) 0 (λ z. omega (arith, z))

pub goes_on_is : (names : Names) (inner : Inner) (d least : ℕ) (left : ExprTree Spot) (t : Tail) → least ≤ binds t → left_level t ≤ level left → expr_depth left < d → goes_on names inner d least left t ≡ true
goes_on_is names inner d least left t a b c = rw (le-leb _ _ a, le-leb _ _ b, lt-ltb _ _ c) refl

stops_at : (names : Names) (inner : Inner) (d least : ℕ) (left : ExprTree Spot) (t : Tail) → binds t < least → goes_on names inner d least left t ≡ false
stops_at names inner d least left t h = rw (lt-leb _ _ h) refl

module _ (names : Names) (inner : Inner) (d : ℕ) where
  -- Reading these tokens comes to the tree, with others still to be looked at.
  pub record Climbs (least : ℕ) (ts : List Token) (e : ExprTree Spot) (m : List Token) : Type 0 where
    pub turns : ℕ
    pub enough : suc d ≤ turns + expr_depth e
    pub same : expression names inner (suc d) least ts ≡ climb names inner (suc d) least turns e m

  step_at : (least turns : ℕ) (ts : List Token) (a e : ExprTree Spot) (m r : List Token) → suc d ≤ turns + expr_depth a → expression names inner (suc d) least ts ≡ climb names inner (suc d) least turns a m
      → least ≤ binds (tail m) → left_level (tail m) ≤ level a → expr_depth a < suc d → expr_depth a < expr_depth e → go_on names inner (suc d) a (tail m) (spot m) (skip m) ≡ Ok (e, r) → Climbs least ts e r
  step_at least zero ts a e m r enough same p q h deeper read = absurd (omega (arith, enough, h))
  step_at least (suc turns) ts a e m r enough same p q h deeper read =
      record {
        turns = turns;
        enough = omega (arith, enough, deeper);
        same =
            same
            ∙ branch_true (goes_on names inner (suc d) least a (tail m)) (λ us. and_then (go_on names inner (suc d) a (tail us) (spot us) (skip us)) (climb names inner (suc d) least turns)) (pure a) m (goes_on_is names inner (suc d) least a (tail m) p q h)
            ∙ ap (λ z. and_then z (climb names inner (suc d) least turns)) read;
      }

  pub climbed : (least : ℕ) (ts : List Token) (a e : ExprTree Spot) (m r : List Token) → Climbs least ts a m
      → least ≤ binds (tail m) → left_level (tail m) ≤ level a → expr_depth a < suc d → expr_depth a < expr_depth e → go_on names inner (suc d) a (tail m) (spot m) (skip m) ≡ Ok (e, r) → Climbs least ts e r
  climbed least ts a e m r c p q h deeper read = step_at least c.turns ts a e m r c.enough c.same p q h deeper read

  -- after the first form
  pub begun : (least : ℕ) (ts : List Token) (e : ExprTree Spot) (m : List Token) → prefix names inner (suc d) least (start ts) (spot ts) ts ≡ Ok (e, m) → Climbs least ts e m
  begun least ts e m read =
      record {
        turns = suc d;
        enough = omega arith;
        same =
            branch_false (suc d == 0) refuse (λ us. and_then (prefix names inner (suc d) least (start us) (spot us) us) (climb names inner (suc d) least (suc d))) ts (not_zero d)
            ∙ ap (λ z. and_then z (climb names inner (suc d) least (suc d))) read;
      }

  pub ends_at : (least turns : ℕ) (e : ExprTree Spot) (r : List Token) → Ends least r → climb names inner (suc d) least turns e r ≡ Ok (e, r)
  ends_at least zero e r h = refl
  ends_at least (suc turns) e r h =
      branch_false (goes_on names inner (suc d) least e (tail r)) (λ us. and_then (go_on names inner (suc d) e (tail us) (spot us) (skip us)) (climb names inner (suc d) least turns)) (pure e) r (stops_at names inner (suc d) least e (tail r) h.looser)

  -- Reading what the tree is read of comes to the tree, whatever follows that binds less.
  abbrev pub IsRead : ExprTree Spot → Type 0
  IsRead e = (least : ℕ) (ts r : List Token) → least ≤ level e → Reads (outlines.expr names e) d ts r → Ends (edge e) r → Climbs least ts e r

-- a left operand is less deep
pub left_depth : (names : Names) (e : ExprTree Spot) (d : ℕ) (ts r : List Token) → ReadsExpr names d e ts r → expr_depth e < suc d
left_depth names e zero ts r y = absurd y
left_depth names e (suc d) ts r y = omega (arith, depths.expr_depth names e, reads_depth (outlines.expr names e) d ts r y)
