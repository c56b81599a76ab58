-- What stands in a file, round by round, is what the grammar's reader gives.
use Rattle.std.proofs.Common.{◌≡◌, refl, ℕ, zero, suc, Bool, true, false, List, [], ◌∷◌, ◌++◌, length, Ok, Err, sym, ap, ◌∙◌}
use Rattle.std.proofs.lemmas.List.{append-nil}
use Rattle.cc_base.specs.declared.place.Spot.{Spot}
use Rattle.cc_lex.specs.declared.token.Token.{Token}
use Rattle.cc_tree.specs.Trees.{ExternalTree}
use Rattle.cc_grammar.specs.Names.{Names, after_external}
use Rattle.cc_grammar.specs.Outcomes.{Outcome, and_then, ◌>>=◌, pure, ◌<$>◌}
use Rattle.cc_grammar.specs.Reading.{branch, ended, external, externals_by, reading}
use Rattle.cc_parse_tokens.proofs.ByRounds.{before, nothing_before, one_more}
use Rattle.cc_parse_files.specs.Rounds.{externals_from}

abbrev Same : ℕ → ℕ → Type 0
Same d rounds = (names : Names) (found : List (ExternalTree Spot)) (ts : List Token) → externals_from d rounds names found ts ≡ before found (externals_by d rounds names ts)

behind_one : (d rounds : ℕ) → Same d rounds → (names : Names) (found : List (ExternalTree Spot)) (o : Outcome (ExternalTree Spot))
    → and_then o (λ x. externals_from d rounds (after_external x names) (found ++ x ∷ [])) ≡ before found (and_then o (λ x. (λ xs. x ∷ xs) <$> externals_by d rounds (after_external x names)))
behind_one d rounds again names found (Ok y) = again (after_external y.0 names) (found ++ y.0 ∷ []) y.1 ∙ one_more found y.0 (externals_by d rounds (after_external y.0 names) y.1)
behind_one d rounds again names found (Err r) = refl

at_round : (d rounds : ℕ) → Same d rounds → (names : Names) (found : List (ExternalTree Spot)) (ts : List Token) (b : Bool)
    → branch b (pure found) (external d names >>= (λ x. externals_from d rounds (after_external x names) (found ++ x ∷ []))) ts
    ≡ before found (branch b (pure []) (external d names >>= (λ x. (λ xs. x ∷ xs) <$> externals_by d rounds (after_external x names))) ts)
at_round d rounds again names found ts true = ap (λ xs. Ok (xs, ts)) (sym (append-nil found))
at_round d rounds again names found ts false = behind_one d rounds again names found (external d names ts)

pub externals_rounds : (d rounds : ℕ) → Same d rounds
unfolding externals_from
externals_rounds d zero names found ts = refl
externals_rounds d (suc rounds) names found ts = at_round d rounds (externals_rounds d rounds) names found ts (ended ts)

pub externals_is : (d rounds : ℕ) (names : Names) (ts : List Token) → externals_by d rounds names ts ≡ externals_from d rounds names [] ts
externals_is d rounds names ts = sym (nothing_before (externals_by d rounds names ts)) ∙ sym (externals_rounds d rounds names [] ts)

pub reading_is : (d : ℕ) (ts : List Token) → reading d ts ≡ externals_by d (suc (length ts)) [] ts
unfolding reading
reading_is d ts = refl

-- ---- One round

module _ (d rounds : ℕ) (names : Names) (found : List (ExternalTree Spot)) (ts : List Token) where
  pub all_read : ended ts ≡ true → externals_from d (suc rounds) names found ts ≡ Ok (found, ts)
  unfolding externals_from
  all_read e = rw e refl

  pub one_fails : (r : List Token) → ended ts ≡ false → external d names ts ≡ Err r → externals_from d (suc rounds) names found ts ≡ Err r
  unfolding externals_from
  one_fails r e x = rw (e, x) refl

  pub one_read : (x : ExternalTree Spot) (us : List Token) (after : Names) → ended ts ≡ false → external d names ts ≡ Ok (x, us) → after ≡ after_external x names
      → externals_from d (suc rounds) names found ts ≡ externals_from d rounds after (found ++ x ∷ []) us
  unfolding externals_from
  one_read x us after e r is = rw (is, e, r) refl
