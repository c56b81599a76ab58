-- Declarators are read alike on two texts that part behind a token.
use Rattle.std.proofs.Common.{◌≡◌, ◌≤◌, ◌<◌, ◌+◌, refl, ℕ, zero, suc, Bool, true, false, List, [], ◌∷◌, ◌++◌, length, None, arith, nat_lt, ◌&&◌, ◌||◌, ◌==◌, ap}
use Rattle.std.proofs.Math.Bool.{and-false}
use Rattle.std.proofs.lemmas.Bool.{lt-ltb}
use Rattle.cc_base.specs.declared.place.Spot.{Spot}
use Rattle.cc_lex.specs.declared.token.Token.{Token}
use Rattle.cc_lex.specs.declared.token.TokenKind.{TokenKind}
use Rattle.cc_lex.specs.declared.keyword.Keyword.TheVariants as the_keyword
use Rattle.cc_lex.specs.declared.punct.Punct.TheVariants as the_punct
use Rattle.cc_tree.specs.Trees.{DeclTree, declared, nameless, pointer, array, function, grouped, an_expr, no_expr}
use Rattle.cc_tree.specs.Views.{gathered_types}
use Rattle.cc_tree.specs.Depth.{declarator_depth}
use Rattle.cc_grammar.specs.Names.{Names}
use Rattle.cc_grammar.specs.Outlines.{is_written}
use Rattle.cc_grammar.specs.Classes.{is_punct, next_is, next_is_keyword, next_ident, ident}
use Rattle.cc_grammar.specs.Outcomes.{Parser, and_then, pure, ◌<$>◌, ◌>>=◌}
use Rattle.cc_grammar.specs.Reading as reader
use Rattle.cc_grammar.specs.Reading.{Inner, Mode, with_name, without_name, with_or_without, branch, where_next, placed, skipping, opposite, spot_or, opening, wants_name, takes_name}
use Rattle.cc_parse_laws.proofs.Steps.{punct_kind}
use Rattle.cc_parse_places.proofs.Forks.{Fork, here, there, left, Near, past, whole, Alike, Leaves, branch_leaves, bind_leaves, skip_leaves, near_bind, bind_branch_leaves, bind_ends, ending_of, Ending, and_same, and_false, branch_near, branch_ends, alike_branch_by, alike_pure, alike_refuse, weak, alike_bind, alike_map, skip_on, alike_skipping, alike_placed, alike_branch, alike_where, enough_turns}
use Rattle.cc_parse_places.proofs.ForkedLists.{Tame, tame_id, tame_until}
use Rattle.cc_parse_places.proofs.ForkedExpressions.{TameInner, tame_parameters}

module _ {t : Fork} {u : ℕ} (names : Names) (inner : Inner) (d : ℕ) (good : TameInner t u inner) where
  tame_array_length : Tame t 0 u (reader.array_length names inner d)
  tame_array_length = alike_where (next_is the_punct.RightBracket) _ _ _ _ (λ k us vs. refl) (weak (alike_skipping _ _ (alike_pure no_expr)))
      (weak (alike_bind _ _ _ _ (good.expr 3) (λ e. weak (tame_until the_punct.RightBracket (an_expr e)))))

  tame_suffix : (left : DeclTree Spot) → Tame t 1 u (reader.suffix names inner d left)
  tame_suffix left = alike_placed _ _ (λ n. alike_where (next_is the_punct.LeftBracket) _ _ _ _ (λ k us vs. refl)
      (alike_skipping _ _ (alike_map (array (spot_or left n) left) _ _ tame_array_length))
      (alike_skipping _ _ (alike_map (λ ps. function (spot_or left n) left (gathered_types ps)) _ _ (tame_parameters names inner d good))))

  tame_suffixes : (turns : ℕ) (left : DeclTree Spot) → Tame t 0 u (reader.suffixes names inner d turns left)
  tame_suffixes zero left = alike_pure left
  tame_suffixes (suc turns) left = alike_where (λ ts. reader.suffix_comes names inner d ts && nat_lt (declarator_depth left) d) _ _ _ _ (λ k us vs. refl) (weak (alike_bind _ _ _ _ (tame_suffix left) (tame_suffixes turns))) (alike_pure left)

  tame_written_only : (e : DeclTree Spot) → Tame t 0 u (reader.written_only names inner d e)
  tame_written_only e = alike_branch (is_written e) _ _ _ _ (alike_pure e) alike_refuse

  tame_group : (mode : Mode) → Tame t 1 u (reader.group names inner d mode)
  tame_group mode = alike_placed _ _ (λ n. alike_skipping _ _ (alike_bind _ _ _ _ (alike_bind _ _ _ _ (good.declarator mode) tame_written_only) (λ e. weak (tame_until the_punct.RightParen (grouped (opening e n) e)))))

  pub tame_nothing : (mode : Mode) → Tame t 0 u (reader.nothing names inner d mode)
  tame_nothing mode = alike_branch (wants_name mode) _ _ _ _ alike_refuse (alike_pure nameless)

  consts_turn : (k j v : ℕ) → v ≤ u → ((s : Unit {0}) → Alike t 0 v (reader.consts_by names inner d k) (reader.consts_by names inner d j)) → (s : Unit {0}) → Alike t 0 (suc v) (reader.consts_by names inner d (suc k)) (reader.consts_by names inner d (suc j))
  consts_turn k j v low rec s = alike_where (next_is_keyword the_keyword.Const) _ _ _ _ (λ w us vs. refl) (weak (skip_on _ _ (alike_map (λ c. c + 1) _ _ (rec tt)))) (alike_pure 0)

  tame_consts : Tame t 0 u (reader.consts names inner d)
  tame_consts = enough_turns u (λ k s. reader.consts_by names inner d k) (λ m. m) (λ m. omega arith) (λ s. whole) consts_turn tt

  -- ---- A name, parentheses or nothing

  abbrev Name_comes : Mode → List Token → Bool
  Name_comes mode ts = takes_name mode && reader.is_id names inner d (next_ident ts)

  abbrev Group_comes : Mode → List Token → Bool
  Group_comes mode ts = next_is the_punct.LeftParen ts && opposite (reader.begins_parameters names inner d mode ts)

  abbrev the_name : Parser (DeclTree Spot)
  the_name = placed (λ n. declared n <$> reader.id names)

  abbrev no_name : Mode → Parser (DeclTree Spot)
  no_name mode = where_next (Group_comes mode) (reader.group names inner d mode) (reader.nothing names inner d mode)

  tame_the_name : Tame t 1 u the_name
  tame_the_name = alike_placed _ _ (λ n. alike_map (declared n) _ _ (tame_id names))

  comes_same : (mode : Mode) (k : Token) (b : List Token) → Group_comes mode (k ∷ b ++ here t) ≡ Group_comes mode (k ∷ b ++ there t)
  comes_same with_name k b = refl
  comes_same without_name k [] = refl
  comes_same without_name k (m ∷ b) = refl
  comes_same with_or_without k [] = refl
  comes_same with_or_without k (m ∷ b) = refl

  -- Tests that say the same of both texts.
  direct_near : (mode : Mode) (b : List Token) → length b < suc u → Name_comes mode (b ++ here t) ≡ Name_comes mode (b ++ there t) → Group_comes mode (b ++ here t) ≡ Group_comes mode (b ++ there t)
      → Near t 0 b (reader.direct names inner d mode (b ++ here t)) (reader.direct names inner d mode (b ++ there t))
  direct_near mode b lt e f =
      branch_near (Name_comes mode (b ++ here t)) (Name_comes mode (b ++ there t)) the_name (no_name mode) (b ++ here t) (b ++ there t) e ((weak tame_the_name).near b lt)
      (branch_near (Group_comes mode (b ++ here t)) (Group_comes mode (b ++ there t)) (reader.group names inner d mode) (reader.nothing names inner d mode) (b ++ here t) (b ++ there t) f ((weak (tame_group mode)).near b lt) ((tame_nothing mode).near b lt))

  direct_ends : (mode : Mode) (ts : List Token) → Ending ts (left (reader.direct names inner d mode ts))
  direct_ends mode ts = branch_ends (Name_comes mode ts) the_name (no_name mode) tame_the_name.ends (λ us. branch_ends (Group_comes mode us) (reader.group names inner d mode) (reader.nothing names inner d mode) (tame_group mode).ends (tame_nothing mode).ends us) ts

  -- ---- with its suffixes

  abbrev suffixed : Mode → Parser (DeclTree Spot)
  suffixed mode = reader.direct names inner d mode >>= reader.suffixes names inner d d

  no_suffix : (a b c : Bool) → ((a || b) && c) ≡ false → b ≡ true → c ≡ true → ⊥
  no_suffix true true true f e h = cc
  no_suffix true true false f e h = cc
  no_suffix true false c f e h = cc
  no_suffix false true true f e h = cc
  no_suffix false true false f e h = cc
  no_suffix false false c f e h = cc

  suffix_leaves : (k : Token) (ts : List Token) → Leaves (reader.suffix names inner d nameless (k ∷ ts)) (suc (length ts))
  suffix_leaves k ts = branch_leaves (is_punct the_punct.LeftBracket k.kind) _ _ (k ∷ ts) (suc (length ts)) (λ f. skip_leaves _ _ k ts (alike_map (array (spot_or nameless k.spot) nameless) _ _ tame_array_length))
      (λ f. skip_leaves _ _ k ts (alike_map (λ ps. function (spot_or nameless k.spot) nameless (gathered_types ps)) _ _ (tame_parameters names inner d good)))

  -- A parenthesis behind nothing is a suffix, where any may be.
  suffixes_open : (turns : ℕ) (k : Token) (ts : List Token) → is_punct the_punct.LeftParen k.kind ≡ true → 0 < d → 0 < turns → Leaves (reader.suffixes names inner d turns nameless (k ∷ ts)) (suc (length ts))
  suffixes_open zero k ts e deep some = absurd (omega (arith, some))
  suffixes_open (suc turns) k ts e deep some =
      branch_leaves (reader.suffix_comes names inner d (k ∷ ts) && nat_lt 0 d) (reader.suffix names inner d nameless >>= reader.suffixes names inner d turns) (pure nameless) (k ∷ ts) (suc (length ts))
      (λ f. bind_leaves (reader.suffix names inner d nameless (k ∷ ts)) _ _ (suc (length ts)) (tame_suffixes turns) (suffix_leaves k ts))
      (λ f. absurd (no_suffix (is_punct the_punct.LeftBracket k.kind) (is_punct the_punct.LeftParen k.kind) (nat_lt 0 d) f e (lt-ltb 0 d deep)))

  nothing_opens : (mode : Mode) (k : Token) (ts : List Token) → is_punct the_punct.LeftParen k.kind ≡ true → 0 < d → Group_comes mode (k ∷ ts) ≡ false → Leaves (and_then (reader.nothing names inner d mode (k ∷ ts)) (reader.suffixes names inner d d)) (suc (length ts))
  nothing_opens with_name k ts e deep f = absurd (let no : true ≡ false = and_false (is_punct the_punct.LeftParen k.kind) true e f in cc)
  nothing_opens without_name k ts e deep f = suffixes_open d k ts e deep deep
  nothing_opens with_or_without k ts e deep f = suffixes_open d k ts e deep deep

  no_id : (mode : Mode) (x : TokenKind) → is_punct the_punct.LeftParen x ≡ true → (takes_name mode && reader.is_id names inner d (ident x)) ≡ false
  no_id mode x e = let is : ident x ≡ None = ap ident (punct_kind the_punct.LeftParen x e) in rw is (and-false (takes_name mode))

  -- Either way a parenthesis is taken.
  suffixed_opens : (mode : Mode) (k : Token) (ts : List Token) → is_punct the_punct.LeftParen k.kind ≡ true → 0 < d → Leaves (suffixed mode (k ∷ ts)) (suc (length ts))
  suffixed_opens mode k ts e deep =
      bind_branch_leaves (Name_comes mode (k ∷ ts)) the_name (no_name mode) (reader.suffixes names inner d d) (k ∷ ts) (suc (length ts))
      (λ f. absurd (let no = no_id mode k.kind e in cc))
      (λ f. bind_branch_leaves (Group_comes mode (k ∷ ts)) (reader.group names inner d mode) (reader.nothing names inner d mode) (reader.suffixes names inner d d) (k ∷ ts) (suc (length ts))
      (λ g. bind_leaves (reader.group names inner d mode (k ∷ ts)) _ _ (suc (length ts)) (tame_suffixes d) (group_leaves mode k ts))
      (λ g. nothing_opens mode k ts e deep g))
    where
      group_leaves : (mode : Mode) (k : Token) (ts : List Token) → Leaves (reader.group names inner d mode (k ∷ ts)) (suc (length ts))
      group_leaves mode k ts = skip_leaves _ _ k ts (alike_bind _ _ _ _ (alike_bind _ _ _ _ (good.declarator mode) tame_written_only) (λ x. weak (tame_until the_punct.RightParen (grouped (opening x k.spot) x))))

  suffixed_near : 0 < d → (mode : Mode) (b : List Token) → length b < suc u → Near t 0 b (suffixed mode (b ++ here t)) (suffixed mode (b ++ there t))
  suffixed_near deep mode [] lt = either (is_punct the_punct.LeftParen t.token.kind) refl
    where
      either : (b : Bool) → is_punct the_punct.LeftParen t.token.kind ≡ b → Near t 0 [] (suffixed mode (here t)) (suffixed mode (there t))
      either true e = past _ _ (suffixed_opens mode t.token t.after e deep)
      either false e =
          near_bind 0 (suc u) [] _ _ (reader.suffixes names inner d d) (reader.suffixes names inner d d) (tame_suffixes d) (λ c le. omega (arith, le))
          (direct_near mode [] lt refl (and_same (is_punct the_punct.LeftParen t.token.kind) (opposite (reader.begins_parameters names inner d mode (here t))) (opposite (reader.begins_parameters names inner d mode (there t))) e))
  suffixed_near deep mode (k ∷ b) lt =
      near_bind 0 (suc u) (k ∷ b) _ _ (reader.suffixes names inner d d) (reader.suffixes names inner d d) (tame_suffixes d) (λ c le. omega (arith, le, lt)) (direct_near mode (k ∷ b) lt refl (comes_same mode k b))

  tame_suffixed : 0 < d → (mode : Mode) → Tame t 0 u (suffixed mode)
  tame_suffixed deep mode = record {
    near = suffixed_near deep mode;
    ends = λ ts. ending_of ts (left (reader.direct names inner d mode ts)) (left (suffixed mode ts)) (direct_ends mode ts) (bind_ends (reader.direct names inner d mode ts) (reader.suffixes names inner d d) (λ x. (tame_suffixes d x).ends));
  }

  above_zero : (n : ℕ) → (n == 0) ≡ false → 0 < n
  above_zero zero e = absurd cc
  above_zero (suc n) e = omega arith

  pub tame_declarator : (mode : Mode) → Tame t 0 u (reader.declarator names inner d mode)
  tame_declarator mode = alike_branch_by (d == 0) _ _ _ _ (λ e. tame_nothing mode) (λ e. alike_where (next_is the_punct.Star) _ _ _ _ (λ k us vs. refl)
      (weak (alike_placed _ _ (λ n. alike_skipping _ _ (alike_bind _ _ _ _ tame_consts (λ c. alike_map (λ x. pointer (opening x n) c x) _ _ (good.declarator mode))))))
      (tame_suffixed (above_zero d e) mode))
