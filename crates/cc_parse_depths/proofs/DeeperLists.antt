-- Lists, tokens and identifiers at three depths.
use Rattle.std.proofs.Common.{◌≡◌, ◌≤◌, ◌<◌, refl, ℕ, zero, suc, Bool, true, false, List, [], ◌∷◌, length, Option, Some, None, Ok, Err, arith, sym, ap, subst, if◌then◌else◌}
use Rattle.cc_lex.specs.declared.token.Token.{Token}
use Rattle.cc_lex.specs.declared.keyword.Keyword.{Keyword}
use Rattle.cc_lex.specs.declared.punct.Punct.{Punct}
use Rattle.cc_lex.specs.declared.punct.Punct.TheVariants as the_punct
use Rattle.cc_tree.specs.Trees.{Name}
use Rattle.cc_grammar.specs.Names.{Names, is_type}
use Rattle.cc_grammar.specs.Classes.{next_is, next_is_keyword, next_ident, skip, tail, tail_punct, binds}
use Rattle.cc_grammar.specs.Outcomes.{Parser, and_then, pure, refuse, take, take_keyword, ◌>>◌, ◌<$>◌}
use Rattle.cc_grammar.specs.Reading as reader
use Rattle.cc_grammar.specs.Reading.{branch, where_next, skipping}
use Rattle.cc_parse_laws.proofs.Peeks.{punct_tail}
use Rattle.cc_parse_places.proofs.Forks.{left}
use Rattle.cc_parse_places.proofs.Spent.{HasNext}
use Rattle.cc_parse_depths.proofs.Deeper.{Steps, steps_are, Never, Halts, refuses, halts_with, halts_is, halts_else, Shrinks, skip_shrinks, bind_shrinks, Deeper, deep_same, deep_pure, deep_refuse, deep_then, deep_bind, deep_map, deep_map_never, deep_skipping, deep_view, deep_where}

-- ---- Tokens

abbrev take_by : Bool → Parser (Unit {0})
take_by b = λ ts. if b then Ok (tt, skip ts) else Err ts

take_by_shrinks : (b : Bool) → Shrinks (take_by b)
take_by_shrinks true ts = skip_shrinks ts
take_by_shrinks false ts = omega arith

pub deep_take : {S : Unit {0} → List Token → Type 0} (s : Punct) → Deeper S (take s) (take s) (take s)
deep_take s = deep_same (λ ts. take_by_shrinks (next_is s ts) ts)

pub deep_take_keyword : {S : Unit {0} → List Token → Type 0} (w : Keyword) → Deeper S (take_keyword w) (take_keyword w) (take_keyword w)
deep_take_keyword w = deep_same (λ ts. take_by_shrinks (next_is_keyword w ts) ts)

-- what stands before a token that ends it
pub deep_until : {A : Type 0} {S : A → List Token → Type 0} (s : Punct) (a : A) → Deeper S (take s >> pure a) (take s >> pure a) (take s >> pure a)
deep_until s a = deep_bind (deep_take s) (λ z. deep_pure a)

id_by_shrinks : (names : Names) (x : Option Name) → Shrinks (reader.id_by names x)
id_by_shrinks names None ts = omega arith
id_by_shrinks names (Some x) ts = by (is_type names x)
  where
    by : (b : Bool) → length (left (branch b refuse (skipping (pure x)) ts)) ≤ length ts
    by true = omega arith
    by false = skip_shrinks ts

pub deep_id : {S : Name → List Token → Type 0} (names : Names) → Deeper S (reader.id names) (reader.id names) (reader.id names)
deep_id names = deep_same (λ ts. id_by_shrinks names (next_ident ts) ts)

-- ---- Where no such token comes

pub no_take : (s : Punct) (ts : List Token) → next_is s ts ≡ false → take s ts ≡ Err ts
no_take s ts e = rw e refl

pub halts_take : {A : Type 0} {T : A → List Token → Type 0} (s : Punct) (f : Unit {0} → Parser A) (r : List Token) → next_is s r ≡ false → Halts T (and_then (take s r) f) r
halts_take s f r e = halts_is (ap (λ z. and_then z f) (no_take s r e)) (refuses r)

-- the next token binds as tightly as this
abbrev pub Binding : ℕ → List Token → Type 0
Binding n r = n ≤ binds (tail r)

pub unbound : (s : Punct) (n : ℕ) (r : List Token) → binds (tail_punct s) < n → Binding n r → next_is s r ≡ false
unbound s n r low b = by (next_is s r) refl
  where
    by : (c : Bool) → next_is s r ≡ c → next_is s r ≡ false
    by true e = absurd (let same : binds (tail r) ≡ binds (tail_punct s) = ap binds (punct_tail s r e) in omega (arith, low, b, same))
    by false e = e

pub binding_some : (n : ℕ) (r : List Token) → 0 < n → Binding n r → length (skip r) < length r
binding_some n [] some b = absurd (omega (arith, some, b))
binding_some n (t ∷ r) some b = omega arith

-- ---- Lists

-- in as many turns as there are tokens
pub deep_turns : {A : Type 0} {S : A → List Token → Type 0} (turns : ℕ → ℕ) {p q s : ℕ → Parser A} → ((k : ℕ) → Deeper S (p k) (q k) (s k)) → Deeper S (λ ts. p (turns (length ts)) ts) (λ ts. q (turns (length ts)) ts) (λ ts. s (turns (length ts)) ts)
deep_turns turns h = deep_view (λ ts. turns (length ts)) h

module _ {A : Type 0} (P : List Token → Type 0) {p q s : Parser A} where
  -- where each stops before a token that is no comma
  module _ (no_comma : (r : List Token) → P r → next_is the_punct.Comma r ≡ false) (one : Deeper (λ x. P) p q s) where
    deep_separated_by : (turns : ℕ) → Deeper (λ xs. P) (reader.separated_by p turns) (reader.separated_by q turns) (reader.separated_by s turns)
    deep_separated_by zero = deep_refuse
    deep_separated_by (suc turns) =
        deep_then one (λ x. deep_where (next_is the_punct.Comma) (deep_skipping (deep_map (λ xs. x ∷ xs) (deep_separated_by turns) (λ xs r h. h))) (deep_pure (x ∷ [])))
        (λ x r h. halts_else (next_is the_punct.Comma) _ _ r (no_comma r h) (halts_with (x ∷ []) r h))

    pub deep_separated : Deeper (λ xs. P) (reader.separated p) (reader.separated q) (reader.separated s)
    deep_separated = deep_turns (λ n. n) deep_separated_by

    -- nor a brace
    module _ (no_brace : (r : List Token) → P r → next_is the_punct.RightBrace r ≡ false) where
      deep_enclosed_by : (turns : ℕ) → Deeper Never (reader.enclosed_by p turns) (reader.enclosed_by q turns) (reader.enclosed_by s turns)
      deep_enclosed_by zero = deep_refuse
      deep_enclosed_by (suc turns) =
          deep_then one (λ x. deep_where (next_is the_punct.Comma)
          (deep_skipping (deep_where (next_is the_punct.RightBrace) (deep_skipping (deep_pure (x ∷ [], true))) (deep_map_never (λ (xs : List A × Bool). (x ∷ xs.0, xs.1)) (deep_enclosed_by turns))))
          (deep_until the_punct.RightBrace (x ∷ [], false)))
          (λ x r h. halts_else (next_is the_punct.Comma) _ _ r (no_comma r h) (halts_take the_punct.RightBrace _ r (no_brace r h)))

      -- behind the first brace
      pub deep_enclosed_behind : Deeper Never (λ ts. reader.enclosed_by p (length ts) ts) (λ ts. reader.enclosed_by q (length ts) ts) (λ ts. reader.enclosed_by s (length ts) ts)
      deep_enclosed_behind = deep_turns (λ n. n) deep_enclosed_by

      pub deep_enclosed : Deeper Never (reader.enclosed p) (reader.enclosed q) (reader.enclosed s)
      deep_enclosed = deep_bind (deep_take the_punct.LeftBrace) (λ z. deep_enclosed_behind)

-- by tests that say the same
module _ (a b c : List Token → Bool) (ab : (ts : List Token) → b ts ≡ a ts) (ac : (ts : List Token) → c ts ≡ a ts) where
  steps_tests : {B : Type 0} {S : B → List Token → Type 0} (p q s u v w : Parser B) (ts : List Token) → Steps S (where_next a p u ts) (where_next a q v ts) (where_next a s w ts) → Steps S (where_next a p u ts) (where_next b q v ts) (where_next c s w ts)
  steps_tests p q s u v w ts h = steps_are {a = where_next a p u ts} refl (ap (λ z. branch z q v ts) (ab ts)) (ap (λ z. branch z s w ts) (ac ts)) h

  test_shrinks : {B : Type 0} (q v : Parser B) (ts : List Token) → length (left (where_next a q v ts)) ≤ length ts → length (left (where_next b q v ts)) ≤ length ts
  test_shrinks q v ts h = subst (λ z. length (left (branch z q v ts)) ≤ length ts) (sym (ab ts)) h

  pub deep_tests : {B : Type 0} {S : B → List Token → Type 0} {p q s u v w : Parser B} → Deeper S p q s → Deeper S u v w → Deeper S (where_next a p u) (where_next b q v) (where_next c s w)
  deep_tests {B} {S} {p} {q} {s} {u} {v} {w} x y = let d = deep_where a x y in record { steps = λ ts. steps_tests p q s u v w ts (d.steps ts); shrinks = λ ts. test_shrinks q v ts (d.shrinks ts) }

  -- as long as others begin
  module _ {A : Type 0} {p q s : Parser A} (one : Deeper Never p q s) where
    deep_repeated_by : (turns : ℕ) → Deeper Never (reader.repeated_by a p turns) (reader.repeated_by b q turns) (reader.repeated_by c s turns)
    deep_repeated_by zero = deep_refuse
    deep_repeated_by (suc turns) = deep_bind one (λ x. deep_tests (deep_map_never (λ xs. x ∷ xs) (deep_repeated_by turns)) (deep_pure (x ∷ [])))

    pub deep_repeated : Deeper Never (reader.repeated a p) (reader.repeated b q) (reader.repeated c s)
    deep_repeated = deep_turns (λ n. n) deep_repeated_by

    -- behind the first, where there is a token
    pub behind_first : (ts : List Token) → HasNext ts → length (left (reader.repeated b q ts)) ≤ length (left (q ts))
    behind_first [] some = absurd some
    behind_first (t ∷ ts) some =
        bind_shrinks (q (t ∷ ts)) (λ x. where_next b ((λ xs. x ∷ xs) <$> reader.repeated_by b q (length ts)) (pure (x ∷ [])))
        (λ x. let others = deep_tests {S = Never} (deep_map_never (λ xs. x ∷ xs) (deep_repeated_by (length ts))) (deep_pure (x ∷ [])) in others.shrinks)
