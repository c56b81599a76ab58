-- The items of a block round by round are those of the grammar, and so are the names after them.
use Rattle.std.proofs.Common.{◌≡◌, refl, ℕ, zero, suc, Bool, true, false, List, [], ◌∷◌, ◌++◌, length, Ok, Err, sym, ap, ◌∙◌}
use Rattle.std.proofs.lemmas.List.{append-nil}
use Rattle.cc_base.specs.declared.place.Spot.{Spot}
use Rattle.cc_lex.specs.declared.token.Token.{Token}
use Rattle.cc_lex.specs.declared.punct.Punct.TheVariants as the_punct
use Rattle.cc_tree.specs.Trees.{StmtTree, ItemTree}
use Rattle.cc_tree.specs.Views.{gathered_items}
use Rattle.cc_grammar.specs.Classes.{next_is, skip}
use Rattle.cc_grammar.specs.Names.{Names, after_item, after_items}
use Rattle.cc_grammar.specs.Outcomes.{Outcome, Parser, and_then, ◌>>=◌, pure, ◌<$>◌}
use Rattle.cc_grammar.specs.Reading.{branch, skipping, item, items_by, items}
use Rattle.cc_parse_tokens.proofs.ByRounds.{before, nothing_before, one_more}
use Rattle.cc_parse_files.specs.Rounds.{items_from}

module _ (inner : Names → Parser (StmtTree Spot)) (d : ℕ) where
  abbrev Same : ℕ → Type 0
  Same rounds = (names : Names) (found : List (ItemTree Spot)) (ts : List Token) → items_from inner d rounds names found ts ≡ before found (items_by inner d rounds names ts)

  next_item : (rounds : ℕ) → Same rounds → (names : Names) (found : List (ItemTree Spot)) (o : Outcome (ItemTree Spot))
      → and_then o (λ i. items_from inner d rounds (after_item i names) (found ++ i ∷ [])) ≡ before found (and_then o (λ i. (λ is. i ∷ is) <$> items_by inner d rounds (after_item i names)))
  next_item rounds again names found (Ok y) = again (after_item y.0 names) (found ++ y.0 ∷ []) y.1 ∙ one_more found y.0 (items_by inner d rounds (after_item y.0 names) y.1)
  next_item rounds again names found (Err r) = refl

  one_round : (rounds : ℕ) → Same rounds → (names : Names) (found : List (ItemTree Spot)) (ts : List Token) (b : Bool)
      → branch b (skipping (pure found)) (item inner d names >>= (λ i. items_from inner d rounds (after_item i names) (found ++ i ∷ []))) ts
      ≡ before found (branch b (skipping (pure [])) (item inner d names >>= (λ i. (λ is. i ∷ is) <$> items_by inner d rounds (after_item i names))) ts)
  one_round rounds again names found ts true = ap (λ is. Ok (is, skip ts)) (sym (append-nil found))
  one_round rounds again names found ts false = next_item rounds again names found (item inner d names ts)

  items_rounds : (rounds : ℕ) → Same rounds
  unfolding items_from
  items_rounds zero names found ts = refl
  items_rounds (suc rounds) names found ts = one_round rounds (items_rounds rounds) names found ts (next_is the_punct.RightBrace ts)

  pub items_is : (names : Names) (ts : List Token) → items inner d names ts ≡ items_from inner d (suc (length ts)) names [] ts
  items_is names ts = sym (nothing_before (items_by inner d (suc (length ts)) names ts)) ∙ sym (items_rounds (suc (length ts)) names [] ts)

-- one more item
pub after_push : (is : List (ItemTree Spot)) (i : ItemTree Spot) (names : Names) → after_items (gathered_items (is ++ i ∷ [])) names ≡ after_item i (after_items (gathered_items is) names)
after_push [] i names = refl
after_push (j ∷ is) i names = after_push is i (after_item j names)

-- ---- One round

module _ (inner : Names → Parser (StmtTree Spot)) (d rounds : ℕ) (names : Names) (found : List (ItemTree Spot)) (ts : List Token) where
  pub closes : next_is the_punct.RightBrace ts ≡ true → items_from inner d (suc rounds) names found ts ≡ Ok (found, skip ts)
  unfolding items_from
  closes n = rw n refl

  pub item_fails : (r : List Token) → next_is the_punct.RightBrace ts ≡ false → item inner d names ts ≡ Err r → items_from inner d (suc rounds) names found ts ≡ Err r
  unfolding items_from
  item_fails r n f = rw (n, f) refl

  pub goes_on : (i : ItemTree Spot) (us : List Token) → next_is the_punct.RightBrace ts ≡ false → item inner d names ts ≡ Ok (i, us) → items_from inner d (suc rounds) names found ts ≡ items_from inner d rounds (after_item i names) (found ++ i ∷ []) us
  unfolding items_from
  goes_on i us n r = rw (n, r) refl
