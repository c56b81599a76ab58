-- Whether a declarator takes the first token doesn't depend on how deep it may be, if it may be there at all.
use Rattle.std.proofs.Common.{◌≡◌, ◌<◌, refl, ℕ, zero, suc, Bool, true, false, List, length, Option, Some, None, Ok, Err, arith, sym, ap, ◌∙◌, ◌⊎◌, inl, inr, nat_lt, ◌&&◌, ◌||◌}
use Rattle.std.proofs.lemmas.Bool.{and_parts, and_left}
use Rattle.cc_base.specs.declared.place.Spot.{Spot}
use Rattle.cc_lex.specs.declared.token.Token.{Token}
use Rattle.cc_lex.specs.declared.punct.Punct.TheVariants as the_punct
use Rattle.cc_tree.specs.Trees.{Name, DeclTree, declared, nameless}
use Rattle.cc_grammar.specs.Names.{Names, is_type}
use Rattle.cc_grammar.specs.Classes.{next_is, next_ident, skip, spot}
use Rattle.cc_grammar.specs.Outcomes.{Outcome, Parser, and_then, pure, refuse, ◌<$>◌}
use Rattle.cc_grammar.specs.Reading as reader
use Rattle.cc_grammar.specs.Reading.{Inner, no_inner, Mode, where_next, placed, skipping, opposite, wants_name, takes_name, readers, id}
use Rattle.cc_parse_laws.proofs.Steps.{branch_true, branch_false}
use Rattle.cc_parse_laws.proofs.NextTokens.{ident_next}
use Rattle.cc_lex.specs.declared.token.TokenKind.TheVariants as kind
use Rattle.cc_parse_places.proofs.Forks.{left}
use Rattle.cc_parse_depths.proofs.Deeper.{Steps, refused, stopped, bind_shrinks, steps_same, Deeper}
use Rattle.cc_parse_depths.proofs.DeeperExpressions.{DeepInner, Further}
use Rattle.cc_parse_depths.proofs.Openings.{same_readers, next_shorter}
use Rattle.cc_parse_depths.proofs.DeeperDeclarators.{name_comes, group_comes, name_same, group_same, suffixed, starred, written_is, deep_behind_star, deep_in_group, suffixes_go, suffixes_halt, suffixes_shrink, go_shrinks, punct_some, suffix_some, name_further, paren_further, star_further, suffix_further}

not_opposite : (b : Bool) → opposite b ≡ true → b ≡ false
not_opposite true e = absurd cc
not_opposite false e = refl

-- where nothing is written
abbrev unwritten : Mode → Parser (DeclTree Spot)
unwritten mode = reader.branch (wants_name mode) refuse (pure nameless)

-- nothing is written at each depth, or the first token is taken at each
abbrev pub Declaring : Names → Mode → List Token → Type 0
Declaring names mode ts = ((i : Inner) (d : ℕ) → reader.declarator names i (suc d) mode ts ≡ unwritten mode ts) ⊎ (Further ts × ((i : Inner) (d : ℕ) → DeepInner i i i → length (left (reader.declarator names i (suc d) mode ts)) < length ts))

module _ (names : Names) (mode : Mode) (ts : List Token) where
  abbrev taken_by : Inner → ℕ → Type 0
  taken_by i d = length (left (reader.declarator names i (suc d) mode ts)) < length ts

  -- a star
  star_taken : next_is the_punct.Star ts ≡ true → (i : Inner) (d : ℕ) → DeepInner i i i → taken_by i d
  star_taken e i d good =
      let all = deep_behind_star names i i i (suc d) (suc d) (suc d) good mode (spot ts) in
      let is : reader.declarator names i (suc d) mode ts ≡ starred names mode i d ts = written_is names mode i d ts ∙ branch_true (next_is the_punct.Star ts) (starred names mode i d) (suffixed names mode i d) ts e in
      let same : length (left (reader.declarator names i (suc d) mode ts)) ≡ length (left (starred names mode i d ts)) = ap (λ o. length (left o)) is in
      omega (arith, same, all.shrinks (skip ts), punct_some the_punct.Star ts e)

  module _ (no_star : next_is the_punct.Star ts ≡ false) where
    abbrev the_name : Parser (DeclTree Spot)
    the_name = placed (λ n. declared n <$> id names)

    abbrev no_name : Inner → ℕ → Parser (DeclTree Spot)
    no_name i d = where_next (group_comes names mode i (suc d)) (reader.group names i (suc d) mode) (reader.nothing names i (suc d) mode)

    suffixed_is : (i : Inner) (d : ℕ) (o : Outcome (DeclTree Spot)) → reader.direct names i (suc d) mode ts ≡ o → reader.declarator names i (suc d) mode ts ≡ and_then o (reader.suffixes names i (suc d) (suc d))
    suffixed_is i d o is =
        written_is names mode i d ts ∙ branch_false (next_is the_punct.Star ts) (starred names mode i d) (suffixed names mode i d) ts no_star ∙ ap (λ z. and_then z (reader.suffixes names i (suc d) (suc d))) is

    direct_taken : (i : Inner) (d : ℕ) (o : Outcome (DeclTree Spot)) → DeepInner i i i → reader.direct names i (suc d) mode ts ≡ o → length (left o) < length ts → taken_by i d
    direct_taken i d o good is lt =
        let same : length (left (reader.declarator names i (suc d) mode ts)) ≡ length (left (and_then o (reader.suffixes names i (suc d) (suc d)))) = ap (λ z. length (left z)) (suffixed_is i d o is) in
        omega (arith, same, lt, bind_shrinks o (reader.suffixes names i (suc d) (suc d)) (suffixes_shrink names i i i (suc d) (suc d) (suc d) good (suc d)))

    -- a name
    name_is : (x : Option Name) → next_ident ts ≡ x → (takes_name mode && reader.is_id names no_inner 0 x) ≡ true → (y : Name) × (id names ts ≡ Ok (y, skip ts)) × (next_ident ts ≡ Some y)
    name_is None is e = absurd (let no = and_parts (takes_name mode) (reader.is_id names no_inner 0 None) e in let never : false ≡ true = no.1 in cc)
    name_is (Some y) is e =
        let two = and_parts (takes_name mode) (reader.is_id names no_inner 0 (Some y)) e in
        (y, ap (λ z. reader.id_by names z ts) is ∙ branch_false (is_type names y) refuse (skipping (pure y)) ts (not_opposite (is_type names y) two.1), is)

    name_taken : name_comes names mode no_inner 0 ts ≡ true → Declaring names mode ts
    name_taken e =
        let got = name_is (next_ident ts) refl e in
        let next = ident_next got.0 ts got.2 in
        inr (
          name_further got.0 ts next,
          λ i d good. direct_taken i d (Ok (declared (spot ts) got.0, skip ts)) good
              (branch_true (name_comes names mode i (suc d) ts) the_name (no_name i d) ts (name_same names mode i no_inner (suc d) 0 ts ∙ e) ∙ ap (λ o. and_then o (λ z. pure (declared (spot ts) z))) got.1)
              (next_shorter (kind.Identifier got.0) ts next),
        )

    module _ (unnamed : name_comes names mode no_inner 0 ts ≡ false) where
      no_name_is : (i : Inner) (d : ℕ) → reader.direct names i (suc d) mode ts ≡ no_name i d ts
      no_name_is i d = branch_false (name_comes names mode i (suc d) ts) the_name (no_name i d) ts (name_same names mode i no_inner (suc d) 0 ts ∙ unnamed)

      -- parentheses
      group_taken : group_comes names mode no_inner 0 ts ≡ true → Declaring names mode ts
      group_taken e =
          let two = and_parts (next_is the_punct.LeftParen ts) (opposite (reader.begins_parameters names no_inner 0 mode ts)) e in
          inr (
            paren_further ts two.0,
            λ i d good.
                let all = deep_in_group names i i i (suc d) (suc d) (suc d) good mode (spot ts) in
                direct_taken i d (reader.group names i (suc d) mode ts) good
                (no_name_is i d ∙ branch_true (group_comes names mode i (suc d) ts) (reader.group names i (suc d) mode) (reader.nothing names i (suc d) mode) ts (group_same names mode i no_inner (suc d) 0 ts ∙ e))
                (omega (arith, all.shrinks (skip ts), punct_some the_punct.LeftParen ts two.0)),
          )

      module _ (ungrouped : group_comes names mode no_inner 0 ts ≡ false) where
        nothing_is : (i : Inner) (d : ℕ) → reader.direct names i (suc d) mode ts ≡ unwritten mode ts
        nothing_is i d = no_name_is i d ∙ branch_false (group_comes names mode i (suc d) ts) (reader.group names i (suc d) mode) (reader.nothing names i (suc d) mode) ts (group_same names mode i no_inner (suc d) 0 ts ∙ ungrouped)

        wanted : wants_name mode ≡ true → Declaring names mode ts
        wanted w =
            let none : unwritten mode ts ≡ Err ts = branch_true (wants_name mode) refuse (pure nameless) ts w in
            inl (λ i d. suffixed_is i d (Err ts) (nothing_is i d ∙ none) ∙ sym none)

        unwanted : wants_name mode ≡ false → Declaring names mode ts
        unwanted w = by (next_is the_punct.LeftBracket ts || next_is the_punct.LeftParen ts) refl
          where
            none : unwritten mode ts ≡ Ok (nameless, ts)
            none = branch_false (wants_name mode) refuse (pure nameless) ts w

            by : (b : Bool) → (next_is the_punct.LeftBracket ts || next_is the_punct.LeftParen ts) ≡ b → Declaring names mode ts
            by true e = inr (
              suffix_further ts (next_is the_punct.LeftBracket ts) (next_is the_punct.LeftParen ts) refl refl e,
              λ i d good.
                  let is : reader.declarator names i (suc d) mode ts ≡ and_then (reader.suffix names i (suc d) nameless ts) (reader.suffixes names i (suc d) d) =
                  suffixed_is i d (Ok (nameless, ts)) (nothing_is i d ∙ none) ∙ suffixes_go names i (suc d) d nameless ts e (omega arith) in
                  let same : length (left (reader.declarator names i (suc d) mode ts)) ≡ length (left (and_then (reader.suffix names i (suc d) nameless ts) (reader.suffixes names i (suc d) d))) = ap (λ o. length (left o)) is in
                  omega (arith, same, go_shrinks names i i i (suc d) (suc d) (suc d) good d nameless ts (suffixes_shrink names i i i (suc d) (suc d) (suc d) good d), suffix_some ts e),
            )
            by false e = inl (λ i d. suffixed_is i d (Ok (nameless, ts)) (nothing_is i d ∙ none) ∙ suffixes_halt names i (suc d) (suc d) nameless ts (and_left (reader.suffix_comes names i (suc d) ts) (nat_lt 0 (suc d)) e) ∙ sym none)

        nothing_comes : Declaring names mode ts
        nothing_comes = by (wants_name mode) refl
          where
            by : (b : Bool) → wants_name mode ≡ b → Declaring names mode ts
            by true w = wanted w
            by false w = unwanted w

      no_name_comes : Declaring names mode ts
      no_name_comes = by (group_comes names mode no_inner 0 ts) refl
        where
          by : (b : Bool) → group_comes names mode no_inner 0 ts ≡ b → Declaring names mode ts
          by true e = group_taken e
          by false e = nothing_comes e

    no_star_comes : Declaring names mode ts
    no_star_comes = by (name_comes names mode no_inner 0 ts) refl
      where
        by : (b : Bool) → name_comes names mode no_inner 0 ts ≡ b → Declaring names mode ts
        by true e = name_taken e
        by false e = no_name_comes e

  pub declaring : Declaring names mode ts
  declaring = by (next_is the_punct.Star ts) refl
    where
      by : (b : Bool) → next_is the_punct.Star ts ≡ b → Declaring names mode ts
      by true e = inr (star_further ts e, star_taken e)
      by false e = no_star_comes e

  -- ---- At the least depth

  unwritten_at : ((i : Inner) (d : ℕ) → reader.declarator names i (suc d) mode ts ≡ unwritten mode ts) → (n : ℕ) → (readers names n).declarator mode ts ≡ unwritten mode ts
  unwritten_at h zero = refl
  unwritten_at h (suc n) = h (readers names n) n

  first_stops : (b : Bool) (m p : Outcome (DeclTree Spot)) → Further ts → length (left m) < length ts → Steps (λ y. Further) (reader.branch b refuse (pure nameless) ts) m p
  first_stops true m p further lt = refused ts m p lt
  first_stops false m p further lt = stopped nameless ts m p further lt

  pub first_declarator : (f : ℕ) → Steps (λ y. Further) ((readers names 0).declarator mode ts) ((readers names 2).declarator mode ts) ((readers names f).declarator mode ts)
  first_declarator f = by declaring
    where
      by : Declaring names mode ts → Steps (λ y. Further) (unwritten mode ts) ((readers names 2).declarator mode ts) ((readers names f).declarator mode ts)
      by (inl h) = steps_same (unwritten_at h 2) (unwritten_at h f)
      by (inr h) = first_stops (wants_name mode) _ _ h.0 (h.1 (readers names 1) 1 (same_readers names 1))

pub deep_first_declarator : (names : Names) (mode : Mode) (f : ℕ) → Deeper (λ y. Further) ((readers names 0).declarator mode) ((readers names 2).declarator mode) ((readers names f).declarator mode)
deep_first_declarator names mode f = let same = same_readers names 2 in let one = same.declarator mode in record { steps = λ ts. first_declarator names mode ts f; shrinks = one.shrinks }
