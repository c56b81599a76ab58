-- Initialisers that are begun are taken.
use Rattle.std.proofs.Common.{◌≡◌, ◌≤◌, ◌<◌, refl, ℕ, zero, suc, Bool, true, false, List, [], ◌∷◌, ◌++◌, length, Option, Some, None, arith, sym, ap, subst, ◌∙◌, inl, inr}
use Rattle.cc_base.specs.declared.place.Spot.{Spot}
use Rattle.cc_base.specs.Spots as spots
use Rattle.cc_lex.specs.declared.token.Token.{Token}
use Rattle.cc_lex.specs.declared.token.TokenKind.TheVariants as kind
use Rattle.cc_lex.specs.declared.punct.Punct.TheVariants as the_punct
use Rattle.cc_tree.specs.Trees.{ExprTree, name, ValueTree, single, braces, ValueTrees, no_values, more_values}
use Rattle.cc_tree.specs.Views.{gathered_values}
use Rattle.cc_grammar.specs.Levels.{level}
use Rattle.cc_grammar.specs.Names.{Names}
use Rattle.cc_grammar.specs.Outline.{end, ◌▸◌}
use Rattle.cc_grammar.specs.Outlines as outlines
use Rattle.cc_grammar.specs.Classes.{next_is, is_punct, skip, spot}
use Rattle.cc_grammar.specs.Outcomes.{Parser, take, pure, ◌<$>◌}
use Rattle.cc_grammar.specs.Reading.{readers, value, given, enclosed, enclosed_by, placed, skipping}
use Rattle.cc_parse_laws.proofs.Spans.{Reads}
use Rattle.cc_parse_laws.proofs.Steps.{branch_true, branch_false, reads_length, reads_next}
use Rattle.cc_parse_laws.proofs.Lists.{takes}
use Rattle.cc_parse_laws.proofs.Peeks.{punct_ends, punct_other}
use Rattle.cc_parse_laws.proofs.NextTokens.{NextKind, kind_reads}
use Rattle.cc_parse_laws.proofs.Inner.{Ends}
use Rattle.cc_parse_laws.proofs.Firsts.{inside_sinks, first_operand, opens_not}
use Rattle.cc_parse_laws.proofs.Climbs.{bound}
use Rattle.cc_parse_laws.proofs.CompleteReaders.{readers_complete}
use Rattle.cc_parse_laws.proofs.CompleteValues.{value_again}
use Rattle.cc_parse_places.proofs.Begun.{Begun}
use Rattle.cc_parse_places.proofs.Spent.{Spent, spent_map, spent_is, HasNext, no_next, Within, token_elim, part_elim, last_within, begun_sinks, at_kind, next_kind_punct}
use Rattle.cc_parse_places.proofs.SpentFirsts.{begun_opens}
use Rattle.cc_parse_places.proofs.SpentLists.{OthersCut, SomeCut, enclosed_by_spent}
use Rattle.cc_parse_places.proofs.SpentTypes.{by_next}
use Rattle.cc_parse_places.proofs.SpentReaders.{readers_spent, no_list}

abbrev listed : ValueTrees Spot → List (ValueTree Spot)
listed no_values = []
listed (more_values v vs) = v ∷ listed vs

abbrev ValueSpan : Names → ℕ → ValueTree Spot → List Token → List Token → Type 0
ValueSpan names d v ts r = Reads (outlines.value names v) d ts r

abbrev ValueCut : Names → ℕ → ValueTree Spot → List Token → Type 0
ValueCut names d v ts = Within false (Unit {0}) (outlines.value names v) d ts

other_values : (names : Names) (d : ℕ) (vs : ValueTrees Spot) (m : List Token) → Within false (Unit {0}) (outlines.further_values names vs) d m → OthersCut (ValueSpan names d) (ValueCut names d) (listed vs) m
other_values names d no_values m (inl e) = e
other_values names d no_values m (inr z) = let x = z.1 in x.cut
other_values names d (more_values v vs) m (inl z) = inl z
other_values names d (more_values v vs) m (inr z) =
    token_elim m z.1 (λ n. inl n) (λ u next st right. inr (next_kind_punct the_punct.Comma m next, part_elim (skip m) right (λ w. inl w) (λ q more h y rest. inr (q, more, y, other_values names d vs q (last_within q rest)))))

some_values : (names : Names) (d : ℕ) (v : ValueTree Spot) (vs : ValueTrees Spot) (ts : List Token) → Begun (outlines.values names (more_values v vs)) d ts [] → SomeCut (ValueSpan names d) (ValueCut names d) v (listed vs) ts
some_values names d v vs ts x = part_elim ts x (λ w. inl w) (λ m more h y rest. inr (m, more, y, other_values names d vs m (last_within m rest)))

abbrev filler : ValueTree Spot
filler = single (name spots.start [])

longer : (names : Names) (d : ℕ) (vs : ValueTrees Spot) (m q : List Token) → Reads (outlines.further_values names vs) d m q → HasNext q → HasNext m
longer names d no_values m q y more = subst HasNext (sym y) more
longer names d (more_values v vs) [] q y more = absurd y
longer names d (more_values v vs) (t ∷ m) q y more = tt

-- a last comma, and nothing behind it
values_comma : (names : Names) (d : ℕ) (vs : ValueTrees Spot) (m q : List Token) → Reads (outlines.further_values names vs) d m q → HasNext q → next_is the_punct.Comma q ≡ true → skip q ≡ [] → OthersCut (ValueSpan names d) (ValueCut names d) (listed vs ++ filler ∷ []) m
values_comma names d no_values m q y more c e = inr (ap (next_is the_punct.Comma) y ∙ c, inl (inl (ap skip y ∙ e)))
values_comma names d (more_values v vs) [] q y more c e = absurd y
values_comma names d (more_values v vs) (t ∷ m) q y more c e =
    let z = y.3 in
    let rest : Reads (outlines.further_values names vs) d z.0 q = subst (Reads (outlines.further_values names vs) d z.0) z.3.3 z.3.2 in
    inr (next_kind_punct the_punct.Comma (t ∷ m) y.1, inr (z.0, longer names d vs z.0 q rest more, z.2, values_comma names d vs z.0 q rest more c e))

-- ---- No initialiser begins with a closing brace

read_not : (names : Names) (d : ℕ) (v : ValueTree Spot) (ts r : List Token) → ValueSpan names d v ts r → next_is the_punct.RightBrace ts ≡ false
read_not names d (single e) ts r x = opens_not names the_punct.RightBrace ts refl (first_operand names e d ts x.0 x.2)
read_not names d (braces n vs b) ts r x =
    let i = outlines.punct_of n the_punct.LeftBrace ▸ outlines.within (outlines.values names vs) ▸ outlines.within (outlines.trailing_comma b) ▸ outlines.punct the_punct.RightBrace ▸ end in
    punct_other the_punct.RightBrace the_punct.LeftBrace ts refl (reads_next (Unit {0}) the_punct.LeftBrace (Some n) (outlines.within (outlines.values names vs) ▸ outlines.within (outlines.trailing_comma b) ▸ outlines.punct the_punct.RightBrace ▸ end) d ts x.0 (inside_sinks true i d ts x.0 x.2))

cut_not : (names : Names) (d : ℕ) (v : ValueTree Spot) (ts : List Token) → ValueCut names d v ts → next_is the_punct.RightBrace ts ≡ false
cut_not names d v ts (inl e) = ap (next_is the_punct.RightBrace) e
cut_not names d (single e) ts (inr z) = by (last_within ts z.1)
  where
    by : Within true (2 ≤ level e) (outlines.expr names e) d ts → next_is the_punct.RightBrace ts ≡ false
    by (inl y) = ap (next_is the_punct.RightBrace) y
    by (inr y) = by_next ts (λ q. ap (next_is the_punct.RightBrace) q) (λ more. opens_not names the_punct.RightBrace ts refl (begun_opens names e d ts more (begun_sinks true (outlines.expr names e) d ts [] y.1)))
cut_not names d (braces n vs b) ts (inr z) = by (last_within ts z.1)
  where
    by : Within true (outlines.HasValues vs) (outlines.punct_of n the_punct.LeftBrace ▸ outlines.within (outlines.values names vs) ▸ outlines.within (outlines.trailing_comma b) ▸ outlines.punct the_punct.RightBrace ▸ end) d ts → next_is the_punct.RightBrace ts ≡ false
    by (inl y) = ap (next_is the_punct.RightBrace) y
    by (inr y) = token_elim ts (begun_sinks true (outlines.punct_of n the_punct.LeftBrace ▸ outlines.within (outlines.values names vs) ▸ outlines.within (outlines.trailing_comma b) ▸ outlines.punct the_punct.RightBrace ▸ end) d ts [] y.1) (λ q. ap (next_is the_punct.RightBrace) q)
        (λ u next st rest. at_kind (next_is the_punct.RightBrace) (is_punct the_punct.RightBrace) (λ t us. refl) (kind.Punct the_punct.LeftBrace) ts next)

-- ---- Initialisers

ends_at_all : (n : ℕ) → 0 < n → Ends n []
ends_at_all n h = record { looser = h; no_literal = refl }

pub value_nil : (names : Names) (d : ℕ) (ts : List Token) → ts ≡ [] → Spent (value names d ts)
value_nil names zero ts e = e
value_nil names (suc d) ts e = subst (λ us. Spent (value names (suc d) us)) (sym e) (spent_map ((readers names (suc d)).expr 2 []) single ((readers_spent names (suc d)).expr 2 (name spots.start []) [] (omega arith) (inl refl)))

whole : (names : Names) (d : ℕ) (v : ValueTree Spot) (ts : List Token) → Reads (outlines.value names v) d ts [] → Spent (value names d ts)
whole names d v ts y = spent_is _ _ (value_again readers_complete names d v ts [] y (ends_at_all 2 (omega arith))) refl

abbrev in_braces : Names → ℕ → Parser (ValueTree Spot)
in_braces names d = placed (λ n. (λ vs. braces n (gathered_values vs.0) vs.1) <$> enclosed (value names d))

abbrev alone : Names → ℕ → Parser (ValueTree Spot)
alone names d = single <$> (readers names (suc d)).expr 2

single_spent : (names : Names) (d : ℕ) (e : ExprTree Spot) (ts : List Token) → Within true (2 ≤ level e) (outlines.expr names e) (suc d) ts → Spent (value names (suc d) ts)
single_spent names d e ts (inl y) = value_nil names (suc d) ts y
single_spent names d e ts (inr y) =
    by_next ts (value_nil names (suc d) ts) (λ more.
    spent_is _ _ (branch_false (next_is the_punct.LeftBrace ts) (in_braces names d) (alone names d) ts (opens_not names the_punct.LeftBrace ts refl (begun_opens names e d ts more y.1)))
    (spent_map ((readers names (suc d)).expr 2 ts) single ((readers_spent names (suc d)).expr 2 e ts (omega arith) (inr y))))

list_taken : (names : Names) (d : ℕ) → ((v : ValueTree Spot) (ts : List Token) → ValueCut names d v ts → Spent (value names d ts)) → (v : ValueTree Spot) (vs : List (ValueTree Spot)) (ts : List Token) → NextKind (kind.Punct the_punct.LeftBrace) ts
    → SomeCut (ValueSpan names d) (ValueCut names d) v vs (skip ts) → Spent (value names (suc d) ts)
list_taken names d taken v vs ts next s =
    spent_is _ _ (branch_true (next_is the_punct.LeftBrace ts) (in_braces names d) (alone names d) ts (next_kind_punct the_punct.LeftBrace ts next))
    (spent_map (enclosed (value names d) ts) (λ (vs : List (ValueTree Spot) × Bool). braces (spot ts) (gathered_values vs.0) vs.1)
    (spent_is _ _ (bound (λ u us. enclosed_by (value names d) (length us) us) (take the_punct.LeftBrace ts) tt (skip ts) (takes the_punct.LeftBrace ts (next_kind_punct the_punct.LeftBrace ts next)))
    (enclosed_by_spent (value names d) (ValueSpan names d) (ValueCut names d) (Ends 2) (λ us e. punct_ends 2 the_punct.Comma us (omega arith) e) (λ x us m y f. value_again readers_complete names d x us m y f) (λ x us m y. omega (arith, reads_length (outlines.value names x) d us m y)) taken
    (cut_not names d) (λ x us m y. read_not names d x us m y) (length (skip ts)) vs v (skip ts) (omega arith) s)))

trailing_taken : (names : Names) (d : ℕ) → ((v : ValueTree Spot) (ts : List Token) → ValueCut names d v ts → Spent (value names d ts)) → (v : ValueTree Spot) (vs : ValueTrees Spot) (trailing : Bool) (ts m q : List Token) → NextKind (kind.Punct the_punct.LeftBrace) ts
    → HasNext m → Reads (outlines.value names v) d (skip ts) m → HasNext q → Reads (outlines.further_values names vs) d m q → Within false (Unit {0}) (outlines.trailing_comma trailing) d q → Spent (value names (suc d) ts)
trailing_taken names d taken v vs trailing ts m q next more y more2 z (inl e) = no_next q more2 e
trailing_taken names d taken v vs false ts m q next more y more2 z (inr w) = let x = w.1 in no_next q more2 x.cut
trailing_taken names d taken v vs true ts m q next more y more2 z (inr w) =
    token_elim q w.1 (no_next q more2) (λ u comma st last. list_taken names d taken v (listed vs ++ filler ∷ []) ts next (inr (m, more, y, values_comma names d vs m q z more2 (next_kind_punct the_punct.Comma q comma) last.cut)))

-- all of the list, up to a comma, or up to where it is closed
list_there : (names : Names) (d : ℕ) → ((v : ValueTree Spot) (ts : List Token) → ValueCut names d v ts → Spent (value names d ts)) → (n : Spot) (v : ValueTree Spot) (vs : ValueTrees Spot) (trailing : Bool) (ts q : List Token) → NextKind (kind.Punct the_punct.LeftBrace) ts → spot ts ≡ n
    → HasNext q → Reads (outlines.values names (more_values v vs)) d (skip ts) q → Begun (outlines.within (outlines.trailing_comma trailing) ▸ outlines.punct the_punct.RightBrace ▸ end) d q [] → Spent (value names (suc d) ts)
list_there names d taken n v vs trailing ts q next st more y closing =
    let rest : Reads (outlines.further_values names vs) d y.0 q = subst (Reads (outlines.further_values names vs) d y.0) y.3.3 y.3.2 in
    part_elim q closing (trailing_taken names d taken v vs trailing ts y.0 q next (longer names d vs y.0 q rest more) y.2 more rest)
    (λ g more3 f y3 brace. token_elim g brace (no_next g more3) (λ h last_next s last.
    whole names (suc d) (braces n (more_values v vs) trailing) ts (
      [],
      tt,
      kind_reads (Unit {0}) (kind.Punct the_punct.LeftBrace) (Some n) (outlines.within (outlines.values names (more_values v vs)) ▸ outlines.within (outlines.trailing_comma trailing) ▸ outlines.punct the_punct.RightBrace ▸ end) d ts [] next tt st
          (q, tt, y, (g, tt, y3, kind_reads (Unit {0}) (kind.Punct the_punct.RightBrace) None end d g [] last_next tt tt last.cut)),
      refl,
    )))

braces_spent : (names : Names) (d : ℕ) → ((v : ValueTree Spot) (ts : List Token) → ValueCut names d v ts → Spent (value names d ts)) → (n : Spot) (vs : ValueTrees Spot) (trailing : Bool) (ts : List Token)
    → Within true (outlines.HasValues vs) (outlines.punct_of n the_punct.LeftBrace ▸ outlines.within (outlines.values names vs) ▸ outlines.within (outlines.trailing_comma trailing) ▸ outlines.punct the_punct.RightBrace ▸ end) (suc d) ts → Spent (value names (suc d) ts)
braces_spent names d taken n vs trailing ts (inl e) = value_nil names (suc d) ts e
braces_spent names d taken n no_values trailing ts (inr z) = absurd z.0
braces_spent names d taken n (more_values v vs) trailing ts (inr z) =
    token_elim ts z.1 (value_nil names (suc d) ts) (λ u next st rest.
    part_elim (skip ts) rest (λ w. by next w) (λ q more g y closing. list_there names d taken n v vs trailing ts q next st more y closing))
  where
    by : NextKind (kind.Punct the_punct.LeftBrace) ts → Within false (Unit {0}) (outlines.values names (more_values v vs)) d (skip ts) → Spent (value names (suc d) ts)
    by next (inl e) = list_taken names d taken v (listed vs) ts next (inl (inl e))
    by next (inr w) = list_taken names d taken v (listed vs) ts next (some_values names d v vs (skip ts) w.1)

pub value_spent : (names : Names) (d : ℕ) (v : ValueTree Spot) (ts : List Token) → ValueCut names d v ts → Spent (value names d ts)
value_spent names d v ts (inl e) = value_nil names d ts e
value_spent names zero (single e) ts (inr z) = no_list ts z.1
value_spent names zero (braces n vs b) ts (inr z) = no_list ts z.1
value_spent names (suc d) (single e) ts (inr z) = single_spent names d e ts (last_within ts z.1)
value_spent names (suc d) (braces n vs b) ts (inr z) = braces_spent names d (value_spent names d) n vs b ts (last_within ts z.1)

pub given_spent : (names : Names) (d : ℕ) (v : Option (ValueTree Spot)) (ts : List Token) → Within false (Unit {0}) (outlines.given names v) d ts → Spent (given names d ts)
given_spent names d v ts (inl e) = spent_is _ _ (ap (given names d) e) refl
given_spent names d None ts (inr z) = let x = z.1 in spent_is _ _ (ap (given names d) x.cut) refl
given_spent names d (Some v) ts (inr z) =
    token_elim ts z.1 (λ e. spent_is _ _ (ap (given names d) e) refl) (λ u next st rest.
    spent_is _ _ (branch_true (next_is the_punct.Equal ts) (skipping (Some <$> value names d)) (pure None) ts (next_kind_punct the_punct.Equal ts next)) (spent_map (value names d (skip ts)) Some (value_spent names d v (skip ts) (last_within (skip ts) rest))))
