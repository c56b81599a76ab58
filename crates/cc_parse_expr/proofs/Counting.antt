-- The `const` behind a `*`, round by round.
use Rattle.std.proofs.Common.{◌≡◌, ◌+◌, ◌-◌, ◌<◌, ◌≤◌, refl, ℕ, Bool, true, false, List, length, Ok, Err, arith, ap, ◌∙◌}
use Rattle.cc_lex.specs.declared.token.Token.{Token}
use Rattle.cc_lex.specs.declared.keyword.Keyword.TheVariants as the_keyword
use Rattle.cc_grammar.specs.Names.{Names}
use Rattle.cc_grammar.specs.Classes.{next_is_keyword, skip}
use Rattle.cc_grammar.specs.Outcomes.{Outcome, and_then, ◌<$>◌, pure}
use Rattle.cc_grammar.specs.Reading.{Inner, branch, skipping, consts_by}
use Rattle.cc_parse_tokens.proofs.Rounds.{one_more, no_more}

-- as many as were counted, and those that are read
abbrev pub counted : ℕ → Outcome ℕ → Outcome ℕ
counted count (Ok x) = Ok (x.0 + count, x.1)
counted count (Err r) = Err r

one_counted : (count : ℕ) (o : Outcome ℕ) → counted count (and_then o (λ c. pure (c + 1))) ≡ counted (count + 1) o
one_counted count (Ok x) = let more : x.0 + 1 + count ≡ x.0 + (count + 1) = omega arith in ap (λ n. Ok (n, x.1)) more
one_counted count (Err r) = refl

none_more : (count : ℕ) (ts : List Token) → counted count (Ok (0, ts)) ≡ Ok (count, ts)
none_more count ts = let same : 0 + count ≡ count = omega arith in ap (λ n. Ok (n, ts)) same

starts : (o : Outcome ℕ) → o ≡ counted 0 o
starts (Ok x) = let same : x.0 ≡ x.0 + 0 = omega arith in ap (λ n. Ok (n, x.1)) same
starts (Err r) = refl

module _ (names : Names) (inner : Inner) (d : ℕ) where
  -- the loop stands here: so much was counted, and so many rounds are left
  abbrev pub Counting : Outcome ℕ → ℕ → ℕ → List Token → Type 0
  Counting total count rounds ts = total ≡ counted count (consts_by names inner d rounds ts)

  by_next : (count rounds : ℕ) (ts : List Token) (b : Bool) → true ≡ b → counted count (branch b (skipping ((λ c. c + 1) <$> consts_by names inner d rounds)) (pure 0) ts) ≡ counted (count + 1) (consts_by names inner d rounds (skip ts))
  by_next count rounds ts true e = one_counted count (consts_by names inner d rounds (skip ts))
  by_next count rounds ts false e = absurd cc

  pub counts : (total : Outcome ℕ) (count n at : ℕ) (ts : List Token) → at < n → Counting total count (n - at) ts → true ≡ next_is_keyword the_keyword.Const ts → Counting total (count + 1) (n - (at + 1)) (skip ts)
  counts total count n at ts below e is =
      one_more (λ rounds. counted count (consts_by names inner d rounds ts)) n at below e ∙ by_next count (n - (at + 1)) ts (next_is_keyword the_keyword.Const ts) is

  stops_at : (count rounds : ℕ) (ts : List Token) (b : Bool) → false ≡ b → counted count (branch b (skipping ((λ c. c + 1) <$> consts_by names inner d rounds)) (pure 0) ts) ≡ Ok (count, ts)
  stops_at count rounds ts true e = absurd cc
  stops_at count rounds ts false e = none_more count ts

  pub stops : (total : Outcome ℕ) (count n at : ℕ) (ts : List Token) → at < n → Counting total count (n - at) ts → false ≡ next_is_keyword the_keyword.Const ts → total ≡ Ok (count, ts)
  stops total count n at ts below e is =
      one_more (λ rounds. counted count (consts_by names inner d rounds ts)) n at below e ∙ stops_at count (n - (at + 1)) ts (next_is_keyword the_keyword.Const ts) is

  pub ends : (total : Outcome ℕ) (count n at : ℕ) (ts : List Token) → n ≤ at → Counting total count (n - at) ts → total ≡ Ok (count, ts)
  ends total count n at ts done e = no_more (λ rounds. counted count (consts_by names inner d rounds ts)) n at done e ∙ none_more count ts

  pub starting : (ts : List Token) (n : ℕ) → n ≡ length ts → Counting (consts_by names inner d (length ts) ts) 0 (n - 0) ts
  starting ts n e = let all : length ts ≡ n - 0 = omega (arith, e) in starts (consts_by names inner d (length ts) ts) ∙ ap (λ rounds. counted 0 (consts_by names inner d rounds ts)) all
