-- A whole tree is a cut-off one.
use Rattle.std.proofs.Common.{◌≡◌, ◌≤◌, refl, ℕ, zero, suc, ◌-◌, max, Bool, true, false, List, [], ◌∷◌, arith, ap, ◌∙◌, subst, sym}
use Rattle.cc_lex.specs.declared.token.Token.{Token}
use Rattle.cc_tree.specs.Trees.{ExternalTree}
use Rattle.cc_base.specs.declared.place.Spot.{Spot}
use Rattle.cc_grammar.specs.Outline.{Outline, end, token, part, Written, AllHold, depth, deeper, size, first, spell, Meets}
use Rattle.cc_grammar.specs.Outlines.{file}
use Rattle.cc_grammar.specs.WellFormed.{WellFormed}
use Rattle.cc_grammar.specs.CutOff.{CutOff}

-- what holds of all holds of the first
pub still_hold : (o : Outline) (n : ℕ) → AllHold o → AllHold (first n o)
still_hold o zero h = tt
still_hold end (suc n) h = tt
still_hold (token a k s o) (suc n) h = (h.0, still_hold o n h.1)
still_hold (part c a i o) (suc n) h = (h.0, still_hold i (suc n) h.1, still_hold o (suc n - size i) h.2)

deeper_less : (c : Bool) (m n : ℕ) → m ≤ n → deeper c m ≤ deeper c n
deeper_less true m n h = omega (arith, h)
deeper_less false m n h = h

both_less : (a b c d : ℕ) → a ≤ c → b ≤ d → max a b ≤ max c d
both_less a b c d h i = omega (arith, h, i)

pub no_deeper : (o : Outline) (n : ℕ) → depth (first n o) ≤ depth o
no_deeper o zero = omega arith
no_deeper end (suc n) = omega arith
no_deeper (token a k s o) (suc n) = no_deeper o n
no_deeper (part c a i o) (suc n) = both_less _ _ _ _ (deeper_less c _ _ (no_deeper i (suc n))) (no_deeper o (suc n - size i))

unwritten : (o : Outline) (r : List Written) → size o ≡ 0 → spell o r ≡ r
unwritten end r e = refl
unwritten (token a k s o) r e = absurd (omega (arith, e))
unwritten (part c a i o) r e = unwritten i (spell o r) (omega (arith, e)) ∙ unwritten o r (omega (arith, e))

pub all_spelled : (o : Outline) (n : ℕ) (r : List Written) → size o ≤ n → spell (first n o) r ≡ spell o r
all_spelled o zero r h = sym (unwritten o r (omega (arith, h)))
all_spelled end (suc n) r h = refl
all_spelled (token a k s o) (suc n) r h = ap (λ z. record { kind = k; spot = s } ∷ z) (all_spelled o n r (omega (arith, h)))
all_spelled (part c a i o) (suc n) r h =
    all_spelled i (suc n) (spell (first (suc n - size i) o) r) (omega (arith, h)) ∙ ap (spell i) (all_spelled o (suc n - size i) r (omega (arith, h)))

pub whole_is_cut_off : (deepest : ℕ) (tokens : List Token) (f : List (ExternalTree Spot)) → WellFormed deepest tokens f → CutOff deepest tokens
whole_is_cut_off deepest tokens f w =
    let n = size (file f) in
    record {
      tree = f;
      there = n;
      orderly = still_hold (file f) n w.orderly;
      shallow = omega (arith, no_deeper (file f) n, w.shallow);
      spelled = subst (Meets tokens) (sym (all_spelled (file f) n [] (omega arith))) w.spelled;
    }
