-- Whether an expression takes the first token doesn't depend on how deep it may be, if it may be there at all.
use Rattle.std.proofs.Common.{◌≡◌, ◌≤◌, ◌<◌, refl, ℕ, zero, suc, Bool, true, false, List, [], ◌∷◌, length, Some, Ok, Err, arith, sym, ap, ◌∙◌, ◌⊎◌, inl, inr, nat_le, ◌&&◌, ◌==◌}
use Rattle.std.proofs.lemmas.Bool.{and_left, and_right, and_from, ne_eqb}
use Rattle.cc_base.specs.declared.place.Spot.{Spot}
use Rattle.cc_base.specs.Spots as spots
use Rattle.cc_lex.specs.declared.token.Token.{Token}
use Rattle.cc_lex.specs.declared.token.TokenKind.{TokenKind}
use Rattle.cc_lex.specs.declared.token.TokenKind.TheVariants as kind
use Rattle.cc_lex.specs.declared.punct.Punct.TheVariants as the_punct
use Rattle.cc_lex.specs.declared.keyword.Keyword.TheVariants as the_keyword
use Rattle.cc_tree.specs.declared.operator.Side.TheVariants as side
use Rattle.cc_tree.specs.Trees.{Name, ExprTree, name, string, paren, unary, step, cast, size_expr}
use Rattle.cc_grammar.specs.Levels.{unary_punct, step_punct}
use Rattle.cc_grammar.specs.Names.{Names}
use Rattle.cc_grammar.specs.Classes.{is_punct, next_is, literal, skip, spot, starts_spec, start, start_kind, Start, begins_name, begins_integer, begins_character, begins_string, begins_paren, begins_unary, begins_step, begins_sizeof, begins_nothing}
use Rattle.cc_grammar.specs.Outcomes.{Outcome, Parser, and_then, pure, refuse, take, ◌<$>◌, ◌>>=◌, ◌>>◌}
use Rattle.cc_grammar.specs.Reading as reader
use Rattle.cc_grammar.specs.Reading.{Inner, without_name, where_next, skipping, readers, id}
use Rattle.cc_parse_laws.proofs.Steps.{branch_true, branch_false, punct_kind}
use Rattle.cc_parse_laws.proofs.NextTokens.{NextKind, start_token, start_next, id_ok}
use Rattle.cc_parse_laws.proofs.Climbs.{not_zero}
use Rattle.cc_parse_places.proofs.Failures.{id_err}
use Rattle.cc_parse_places.proofs.Forks.{Fork, left, ending_length}
use Rattle.cc_parse_places.proofs.ForkedSpecifiers.{tame_readers}
use Rattle.cc_parse_depths.proofs.Deeper.{Steps, refused, Never, Shrinks, bind_shrinks, steps_are, steps_same, Deeper, deep_same, deep_refuse, deep_skipping, deep_where}
use Rattle.cc_parse_depths.proofs.DeeperLists.{deep_until}
use Rattle.cc_parse_depths.proofs.DeeperExpressions.{DeepInner, Held, sized_operand, literals_behind, deep_behind_paren, deep_behind_sizeof, deep_operand, climb_shrinks}

-- ---- The readers of one depth

a_fork : Fork
a_fork = record { token = record { kind = kind.Punct the_punct.Comma; spot = spots.start }; after = []; other = [] }

pub same_readers : (names : Names) (d : ℕ) → DeepInner (readers names d) (readers names d) (readers names d)
same_readers names d =
    let tame = tame_readers {t = a_fork} {u = 0} names d in
    record {
      expr = λ least some low. deep_same (λ ts. let one = tame.expr least in ending_length ts (left ((readers names d).expr least ts)) (one.ends ts));
      specs = deep_same (λ ts. let one = tame.specs in ending_length ts (left ((readers names d).specs ts)) (one.ends ts));
      declarator = λ mode. deep_same (λ ts. let one = tame.declarator mode in ending_length ts (left ((readers names d).declarator mode ts)) (one.ends ts));
    }

-- ---- The first token

pub next_shorter : (k : TokenKind) (ts : List Token) → NextKind k ts → length (skip ts) < length ts
next_shorter k [] n = absurd n
next_shorter k (t ∷ ts) n = omega arith

abbrev Whole : Inner → Type 0
Whole i = DeepInner i i i

-- it is refused at each depth, or taken at each
abbrev pub Opening : Names → ℕ → List Token → Type 0
Opening names least ts = ((i : Inner) (d : ℕ) → reader.expression names i (suc d) least ts ≡ Err ts) ⊎ ((i : Inner) (d : ℕ) → DeepInner i i i → length (left (reader.expression names i (suc d) least ts)) < length ts)

module _ (names : Names) (least : ℕ) (ts : List Token) where
  abbrev behind : Inner → ℕ → Start → Outcome (ExprTree Spot)
  behind i d st = and_then (reader.prefix names i (suc d) least st (spot ts) ts) (reader.climb names i (suc d) least (suc d))

  opens_so : (i : Inner) (d : ℕ) (st : Start) → start ts ≡ st → reader.expression names i (suc d) least ts ≡ behind i d st
  opens_so i d st e =
      branch_false (suc d == 0) refuse (λ us. and_then (reader.prefix names i (suc d) least (start us) (spot us) us) (reader.climb names i (suc d) least (suc d))) ts (not_zero d) ∙ ap (λ z. behind i d z) e

  taken : (i : Inner) (d : ℕ) (st : Start) → Whole i → start ts ≡ st → length (left (reader.prefix names i (suc d) least st (spot ts) ts)) < length ts → length (left (reader.expression names i (suc d) least ts)) < length ts
  taken i d st good e lt =
      let same : length (left (reader.expression names i (suc d) least ts)) ≡ length (left (behind i d st)) = ap (λ o. length (left o)) (opens_so i d st e) in
      omega (arith, same, lt, bind_shrinks (reader.prefix names i (suc d) least st (spot ts) ts) (reader.climb names i (suc d) least (suc d)) (climb_shrinks names i i i (suc d) (suc d) (suc d) good least (suc d)))

  -- a token comes
  some : (k : TokenKind) (st : Start) → start_token st ≡ Some k → start ts ≡ st → length (skip ts) < length ts
  some k st t e = next_shorter k ts (start_next k ts (ap start_token e ∙ t))

  named : (x : Name) → start ts ≡ begins_name x → Opening names least ts
  named x e = by (id names ts) refl
    where
      by : (o : Outcome Name) → id names ts ≡ o → Opening names least ts
      by (Err r) is =
          let here : id names ts ≡ Err ts = is ∙ sym (ap (λ us. Err us) (id_err names ts is)) in
          inl (λ i d. opens_so i d (begins_name x) e ∙ ap (λ o. and_then (and_then o (λ y. pure (name (spot ts) y))) (reader.climb names i (suc d) least (suc d))) here)
      by (Ok y) is =
          let got = id_ok names ts y is in
          let shorter = next_shorter (kind.Identifier y.0) ts got.1 in
          let rest : length (skip ts) ≡ length y.1 = ap length got.2 in
          inr (λ i d good. taken i d (begins_name x) good e (let same : length (left (reader.prefix names i (suc d) least (begins_name x) (spot ts) ts)) ≡ length y.1 = ap (λ o. length (left (and_then o (λ z. pure (name (spot ts) z))))) is in omega (arith, same, shorter, rest)))

  -- behind a token that is taken
  behind_one : (k : TokenKind) (st : Start) → start_token st ≡ Some k → start ts ≡ st → ((i : Inner) (d : ℕ) → Whole i → length (left (reader.prefix names i (suc d) least st (spot ts) ts)) ≤ length (skip ts)) → Opening names least ts
  behind_one k st t e h = inr (λ i d good. taken i d st good e (omega (arith, h i d good, some k st t e)))

not_one : (n : ℕ) → (suc (suc n) == 1) ≡ false
not_one n = ne_eqb (suc (suc n)) 1 (λ z. omega (arith, z))

-- an operand of `sizeof` that may be two deep or more
no_paren : (names : Names) (i : Inner) (d : ℕ) (n : Spot) (ts : List Token) → sized_operand names i (suc (suc d)) n ts ≡ (size_expr n <$> i.expr 15) ts
no_paren names i d n ts = branch_false (next_is the_punct.LeftParen ts && (suc (suc d) == 1)) (skipping refuse) (size_expr n <$> i.expr 15) ts (and_right (next_is the_punct.LeftParen ts) (suc (suc d) == 1) (not_one d))

sized_shrinks : (names : Names) (i : Inner) (d : ℕ) → DeepInner i i i → (n : Spot) → Shrinks (sized_operand names i d n)
sized_shrinks names i d good n = let all = sized_same names i d good n in all.shrinks
  where
    sized_same : (names : Names) (i : Inner) (d : ℕ) → DeepInner i i i → (n : Spot) → Deeper Held (sized_operand names i d n) (sized_operand names i d n) (sized_operand names i d n)
    sized_same names i d good n = deep_where (λ us. next_is the_punct.LeftParen us && (d == 1)) (deep_skipping deep_refuse) (deep_operand names i i i d d d good n)

sizeof_shrinks : (names : Names) (i : Inner) (d : ℕ) → DeepInner i i i → (n : Spot) → Shrinks (reader.behind_sizeof names i d n)
sizeof_shrinks names i d good n =
    let all = deep_behind_sizeof names i i i d d d good (λ m. deep_where (λ us. next_is the_punct.LeftParen us && (d == 1)) (deep_skipping deep_refuse) (deep_operand names i i i d d d good m)) n in
    all.shrinks

strings_shrink : (names : Names) (i : Inner) (d : ℕ) (bytes : List ℕ) (ts : List Token) → DeepInner i i i → NextKind (kind.Str bytes) ts → length (left (reader.literals names i d ts)) ≤ length (skip ts)
strings_shrink names i d bytes [] good next = absurd next
strings_shrink names i d bytes (t ∷ ts) good next =
    let first : length (left (reader.literal_by names i d (literal t.kind) (t ∷ ts))) ≡ length ts = ap (λ k. length (left (reader.literal_by names i d (literal k) (t ∷ ts)))) next in
    omega (arith, first, literals_behind names i i i d d d good (t ∷ ts) tt)

module _ (names : Names) (least : ℕ) (ts : List Token) where
  opening_by : (st : Start) → start ts ≡ st → Opening names least ts
  opening_by (begins_name x) e = named names least ts x e
  opening_by (begins_integer v k) e = behind_one names least ts (kind.Integer v k) (begins_integer v k) refl e (λ i d good. omega arith)
  opening_by (begins_character v) e = behind_one names least ts (kind.Character v) (begins_character v) refl e (λ i d good. omega arith)
  opening_by (begins_string bytes) e =
      behind_one names least ts (kind.Str bytes) (begins_string bytes) refl e
      (λ i d good. omega (arith, strings_shrink names i (suc d) bytes ts good (start_next (kind.Str bytes) ts (ap start_token e)), bind_shrinks (reader.literals names i (suc d) ts) (λ x. pure (string (spot ts) x)) (λ x us. omega arith)))
  opening_by begins_paren e =
      behind_one names least ts (kind.Punct the_punct.LeftParen) begins_paren refl e
      (λ i d good. let all = deep_behind_paren names i i i (suc d) (suc d) (suc d) good least (spot ts) in all.shrinks (skip ts))
  opening_by (begins_unary op) e =
      behind_one names least ts (kind.Punct (unary_punct op)) (begins_unary op) refl e
      (λ i d good. let one = good.expr 14 (omega arith) (omega arith) in omega (arith, one.shrinks (skip ts), bind_shrinks (i.expr 14 (skip ts)) (λ x. pure (unary (spot ts) op x)) (λ x us. omega arith)))
  opening_by (begins_step op) e =
      behind_one names least ts (kind.Punct (step_punct op)) (begins_step op) refl e
      (λ i d good. let one = good.expr 15 (omega arith) (omega arith) in omega (arith, one.shrinks (skip ts), bind_shrinks (i.expr 15 (skip ts)) (λ x. pure (step (spot ts) op side.Before x)) (λ x us. omega arith)))
  opening_by begins_sizeof e =
      behind_one names least ts (kind.Keyword the_keyword.Sizeof) begins_sizeof refl e (λ i d good. sizeof_shrinks names i (suc d) good (spot ts) (skip ts))
  opening_by begins_nothing e = inl (λ i d. opens_so names least ts i d begins_nothing e)

  pub opening : Opening names least ts
  opening = opening_by (start ts) refl

-- where it is refused, at the least depth too
pub refused_at : (names : Names) (least : ℕ) (ts : List Token) → ((i : Inner) (d : ℕ) → reader.expression names i (suc d) least ts ≡ Err ts) → (n : ℕ) → (readers names n).expr least ts ≡ Err ts
refused_at names least ts h zero = refl
refused_at names least ts h (suc n) = h (readers names n) n

pub opening_shrinks : (names : Names) (least : ℕ) (ts : List Token) (n : ℕ) → Opening names least ts → length (left ((readers names n).expr least ts)) ≤ length ts
opening_shrinks names least ts zero o = omega arith
opening_shrinks names least ts (suc n) (inl h) = let same : length (left ((readers names (suc n)).expr least ts)) ≡ length ts = ap (λ o. length (left o)) (h (readers names n) n) in omega (arith, same)
opening_shrinks names least ts (suc n) (inr h) = omega (arith, h (readers names n) n (same_readers names n))

-- ---- At the least depth

pub first_steps : {S : ExprTree Spot → List Token → Type 0} (names : Names) (least f n : ℕ) (ts : List Token) → Steps S (Err ts) ((readers names (suc n)).expr least ts) ((readers names f).expr least ts)
first_steps {S} names least f n ts = by (opening names least ts)
  where
    by : Opening names least ts → Steps S (Err ts) ((readers names (suc n)).expr least ts) ((readers names f).expr least ts)
    by (inl h) = steps_same (refused_at names least ts h (suc n)) (refused_at names least ts h f)
    by (inr h) = refused ts _ _ (h (readers names n) n (same_readers names n))

pub deep_first : {S : ExprTree Spot → List Token → Type 0} (names : Names) (least f : ℕ) → Deeper S ((readers names 0).expr least) ((readers names 2).expr least) ((readers names f).expr least)
deep_first names least f = record { steps = λ ts. first_steps names least f 1 ts; shrinks = λ ts. opening_shrinks names least ts 2 (opening names least ts) }

-- ---- An operand of `sizeof`

-- a parenthesis of an operand
paren_operand : (names : Names) (i : Inner) (d : ℕ) (t : Token) (ts : List Token) → is_punct the_punct.LeftParen t.kind ≡ true
    → reader.expression names i (suc d) 15 (t ∷ ts) ≡ and_then (and_then (i.expr 1 ts) (λ e. take the_punct.RightParen >> pure (paren t.spot e))) (reader.climb names i (suc d) 15 (suc d))
paren_operand names i d t ts e =
    opens_so names 15 (t ∷ ts) i d begins_paren (ap start_kind (punct_kind the_punct.LeftParen t.kind e))
    ∙ ap (λ o. and_then o (reader.climb names i (suc d) 15 (suc d)))
    (branch_false (starts_spec names ts && nat_le 15 14) (reader.typed names i (suc d) without_name >>= (λ x. take the_punct.RightParen >> (cast t.spot x <$> i.expr 14))) (i.expr 1 >>= (λ x. take the_punct.RightParen >> pure (paren t.spot x))) ts (and_right (starts_spec names ts) (nat_le 15 14) refl))

module _ (names : Names) (n : Spot) where
  abbrev operand_in : ℕ → Parser (ExprTree Spot)
  operand_in d = size_expr n <$> (readers names d).expr 15

  module _ (t : Token) (ts : List Token) (paren_next : is_punct the_punct.LeftParen t.kind ≡ true) where
    abbrev in_paren : ℕ → Outcome (ExprTree Spot)
    in_paren d = and_then ((readers names d).expr 1 ts) (λ e. take the_punct.RightParen >> pure (paren t.spot e))

    operand_is : (d : ℕ) → operand_in (suc d) (t ∷ ts) ≡ and_then (and_then (in_paren d) (reader.climb names (readers names d) (suc d) 15 (suc d))) (λ x. pure (size_expr n x))
    operand_is d = ap (λ o. and_then o (λ x. pure (size_expr n x))) (paren_operand names (readers names d) d t ts paren_next)

    operand_refused : ((i : Inner) (d : ℕ) → reader.expression names i (suc d) 1 ts ≡ Err ts) → (d : ℕ) → operand_in (suc d) (t ∷ ts) ≡ Err ts
    operand_refused h d =
        operand_is d
        ∙ ap (λ o. and_then (and_then (and_then o (λ e. take the_punct.RightParen >> pure (paren t.spot e))) (reader.climb names (readers names d) (suc d) 15 (suc d))) (λ x. pure (size_expr n x))) (refused_at names 1 ts h d)

    last_refused : ((i : Inner) (d : ℕ) → reader.expression names i (suc d) 1 ts ≡ Err ts) → (f : ℕ) → sized_operand names (readers names f) (suc f) n (t ∷ ts) ≡ Err ts
    last_refused h zero = branch_true (is_punct the_punct.LeftParen t.kind && (1 == 1)) (skipping refuse) (operand_in 0) (t ∷ ts) (and_from (is_punct the_punct.LeftParen t.kind) (1 == 1) paren_next refl)
    last_refused h (suc f) =
        branch_false (is_punct the_punct.LeftParen t.kind && (suc (suc f) == 1)) (skipping refuse) (operand_in (suc f)) (t ∷ ts) (and_right (is_punct the_punct.LeftParen t.kind) (suc (suc f) == 1) (not_one f)) ∙ operand_refused h f

    operand_taken : length (left ((readers names 1).expr 1 ts)) < length ts → length (left (operand_in 2 (t ∷ ts))) < length ts
    operand_taken lt =
        let same : length (left (operand_in 2 (t ∷ ts))) ≡ length (left (and_then (and_then (in_paren 1) (reader.climb names (readers names 1) 2 15 2)) (λ x. pure (size_expr n x)))) = ap (λ o. length (left o)) (operand_is 1) in
        let a = bind_shrinks (and_then (in_paren 1) (reader.climb names (readers names 1) 2 15 2)) (λ x. pure (size_expr n x)) (λ x us. omega arith) in
        let b = bind_shrinks (in_paren 1) (reader.climb names (readers names 1) 2 15 2) (climb_shrinks names (readers names 1) (readers names 1) (readers names 1) 2 2 2 (same_readers names 1) 15 2) in
        let c = bind_shrinks ((readers names 1).expr 1 ts) (λ e. take the_punct.RightParen >> pure (paren t.spot e)) (λ e. let last = deep_until {S = Never} the_punct.RightParen (paren t.spot e) in last.shrinks) in
        omega (arith, same, a, b, c, lt)

    opened_operand : (f : ℕ) → Steps Held (Err ts) (operand_in 2 (t ∷ ts)) (sized_operand names (readers names f) (suc f) n (t ∷ ts))
    opened_operand f = by (opening names 1 ts)
      where
        by : Opening names 1 ts → Steps Held (Err ts) (operand_in 2 (t ∷ ts)) (sized_operand names (readers names f) (suc f) n (t ∷ ts))
        by (inl h) = steps_same (operand_refused h 1) (last_refused h f)
        by (inr h) = refused ts _ _ (operand_taken (h (readers names 0) 0 (same_readers names 0)))

  module _ (f : ℕ) (good : DeepInner (readers names 0) (readers names 2) (readers names f)) where
    sized_steps : (ts : List Token) → Steps Held (sized_operand names (readers names 0) 1 n ts) (sized_operand names (readers names 2) 3 n ts) (sized_operand names (readers names f) (suc f) n ts)
    sized_steps [] = let d = deep_operand names (readers names 0) (readers names 2) (readers names f) 1 3 (suc f) good n in d.steps []
    sized_steps (t ∷ ts) = by (is_punct the_punct.LeftParen t.kind) refl
      where
        by : (b : Bool) → is_punct the_punct.LeftParen t.kind ≡ b → Steps Held (sized_operand names (readers names 0) 1 n (t ∷ ts)) (sized_operand names (readers names 2) 3 n (t ∷ ts)) (sized_operand names (readers names f) (suc f) n (t ∷ ts))
        by true e =
            steps_are (branch_true (is_punct the_punct.LeftParen t.kind && (1 == 1)) (skipping refuse) (operand_in 0) (t ∷ ts) (and_from (is_punct the_punct.LeftParen t.kind) (1 == 1) e refl))
            (branch_false (is_punct the_punct.LeftParen t.kind && (3 == 1)) (skipping refuse) (operand_in 2) (t ∷ ts) (and_right (is_punct the_punct.LeftParen t.kind) (3 == 1) refl)) refl (opened_operand t ts e f)
        by false e =
            let d = deep_operand names (readers names 0) (readers names 2) (readers names f) 1 3 (suc f) good n in
            steps_are (branch_false (is_punct the_punct.LeftParen t.kind && (1 == 1)) (skipping refuse) (operand_in 0) (t ∷ ts) (and_left (is_punct the_punct.LeftParen t.kind) (1 == 1) e))
            (branch_false (is_punct the_punct.LeftParen t.kind && (3 == 1)) (skipping refuse) (operand_in 2) (t ∷ ts) (and_right (is_punct the_punct.LeftParen t.kind) (3 == 1) refl))
            (branch_false (is_punct the_punct.LeftParen t.kind && (suc f == 1)) (skipping refuse) (operand_in f) (t ∷ ts) (and_left (is_punct the_punct.LeftParen t.kind) (suc f == 1) e)) (d.steps (t ∷ ts))

    sized_first : Deeper Held (sized_operand names (readers names 0) 1 n) (sized_operand names (readers names 2) 3 n) (sized_operand names (readers names f) (suc f) n)
    sized_first = record { steps = sized_steps; shrinks = λ ts. sized_shrinks names (readers names 2) 3 (same_readers names 2) n ts }

pub deep_sized : (names : Names) (d f : ℕ) → d ≤ f → (good : DeepInner (readers names d) (readers names (suc (suc d))) (readers names f)) → (n : Spot)
    → Deeper Held (sized_operand names (readers names d) (suc d) n) (sized_operand names (readers names (suc (suc d))) (suc (suc (suc d))) n) (sized_operand names (readers names f) (suc f) n)
deep_sized names zero f h good n = sized_first names n f good
deep_sized names (suc d) zero h good n = absurd (omega (arith, h))
deep_sized names (suc d) (suc f) h good n =
    let one = deep_operand names (readers names (suc d)) (readers names (suc (suc (suc d)))) (readers names (suc f)) (suc (suc d)) (suc (suc (suc (suc d)))) (suc (suc f)) good n in
    record {
      steps = λ ts. steps_are (no_paren names (readers names (suc d)) d n ts) (no_paren names (readers names (suc (suc (suc d)))) (suc (suc d)) n ts) (no_paren names (readers names (suc f)) f n ts) (one.steps ts);
      shrinks = λ ts. sized_shrinks names (readers names (suc (suc (suc d)))) (suc (suc (suc (suc d)))) (same_readers names (suc (suc (suc d)))) n ts;
    }
