-- Readers on two texts that are one up to and with a token and may part behind it. What a reader does with one it does with
-- the other, until it is past the token: so what it says where it fails at the token doesn't depend on what follows.
use Rattle.std.proofs.Common.{◌≡◌, ◌≤◌, ◌<◌, ◌+◌, refl, ℕ, zero, suc, Bool, true, false, List, [], ◌∷◌, ◌++◌, length, Ok, Err, arith, sym, ap, ◌∙◌, subst, append_assoc, length-append, ◌&&◌}
use Rattle.cc_base.specs.declared.place.Spot.{Spot}
use Rattle.cc_lex.specs.declared.token.Token.{Token}
use Rattle.cc_grammar.specs.Classes.{skip, spot}
use Rattle.cc_grammar.specs.Outcomes.{Outcome, Parser, and_then, pure, refuse, ◌<$>◌}
use Rattle.cc_grammar.specs.Reading.{branch, where_next, placed, skipping}

pub record Fork : Type 0 where
  pub token : Token
  pub after : List Token
  pub other : List Token

abbrev pub here : Fork → List Token
here t = t.token ∷ t.after

abbrev pub there : Fork → List Token
there t = t.token ∷ t.other

-- the tokens that an outcome leaves
abbrev pub left : {A : Type 0} → Outcome A → List Token
left (Ok x) = x.1
left (Err r) = r

-- ---- What is left is the end of the text

abbrev pub Ending : List Token → List Token → Type 0
Ending ts r = (c : List Token) × (ts ≡ c ++ r)

pub whole : (ts : List Token) → Ending ts ts
whole ts = ([], refl)

pub ending_of : (ts m r : List Token) → Ending ts m → Ending m r → Ending ts r
ending_of ts m r a b = (a.0 ++ b.0, a.1 ∙ ap (λ us. a.0 ++ us) b.1 ∙ sym (append_assoc a.0 b.0 r))

pub ending_length : (ts r : List Token) → Ending ts r → length r ≤ length ts
ending_length ts r a = let same : length ts ≡ length (a.0 ++ r) = ap length a.1 in omega (arith, same, length-append a.0 r)

abbrev pub Ends : {A : Type 0} → Parser A → Type 0
Ends p = (ts : List Token) → Ending ts (left (p ts))

pub bind_ends : {A B : Type 0} (o : Outcome A) (f : A → Parser B) → ((x : A) → Ends (f x)) → Ending (left o) (left (and_then o f))
bind_ends (Ok x) f h = h x.0 x.1
bind_ends (Err r) f h = whole r

skip_ending : (ts : List Token) → Ending ts (skip ts)
skip_ending [] = whole []
skip_ending (k ∷ ts) = (k ∷ [], refl)

-- ---- Outcomes

-- The two outcomes are alike up to the token, and at least `n` of the tokens `b` before it were taken where there is a value;
-- or the first one is past it.
pub data Near (t : Fork) {A : Type 0} (n : ℕ) (b : List Token) : Outcome A → Outcome A → Type 0 where
  same : (x : A) (c : List Token) → n + length c ≤ length b → Near t n b (Ok (x, c ++ here t)) (Ok (x, c ++ there t))
  fails : (c : List Token) → Near t n b (Err (c ++ here t)) (Err (c ++ there t))
  past : (o p : Outcome A) → length (left o) < length (here t) → Near t n b o p

pub farther : {t : Fork} {A : Type 0} (n : ℕ) (b c : List Token) (o p : Outcome A) → n + length c ≤ length b → Near t 0 c o p → Near t n b o p
farther n b c _ _ h (same x a le) = same x a (omega (arith, h, le))
farther n b c _ _ h (fails a) = fails a
farther n b c _ _ h (past o p lt) = past o p lt

pub nearer : {t : Fork} {A : Type 0} (n : ℕ) (b : List Token) (o p : Outcome A) → Near t n b o p → Near t 0 b o p
nearer n b _ _ (same x a le) = same x a (omega (arith, le))
nearer n b _ _ (fails a) = fails a
nearer n b _ _ (past o p lt) = past o p lt

-- ---- Readers

-- The readers do the same with the two texts, where fewer than `w` tokens stand before the token, and take `n` at least.
pub record Alike (t : Fork) {A : Type 0} (n w : ℕ) (p q : Parser A) : Type 0 where
  pub near : (b : List Token) → length b < w → Near t n b (p (b ++ here t)) (q (b ++ there t))
  pub ends : Ends p

pub alike_pure : {t : Fork} {A : Type 0} {w : ℕ} (x : A) → Alike t 0 w (pure x) (pure x)
alike_pure x = record { near = λ b lt. same x b (omega arith); ends = whole }

pub alike_refuse : {t : Fork} {A : Type 0} {n w : ℕ} → Alike t {A = A} n w refuse refuse
alike_refuse = record { near = λ b lt. fails b; ends = whole }

pub weak : {t : Fork} {A : Type 0} {n w : ℕ} {p q : Parser A} → Alike t n w p q → Alike t 0 w p q
weak {t} {A} {n} {w} {p} {q} a = record { near = λ b lt. nearer n b (p (b ++ here t)) (q (b ++ there t)) (a.near b lt); ends = a.ends }

pub lower : {t : Fork} {A : Type 0} {n w : ℕ} {p q : Parser A} (v : ℕ) → v ≤ w → Alike t n w p q → Alike t n v p q
lower v h a = record { near = λ b lt. a.near b (omega (arith, h, lt)); ends = a.ends }

-- only what is left is known
pub bare : {t : Fork} {A : Type 0} {n : ℕ} {p q : Parser A} → Ends p → Alike t n 0 p q
bare e = record { near = λ b lt. absurd (omega (arith, lt)); ends = e }

-- one after another
pub near_bind : {t : Fork} {A B : Type 0} (n u : ℕ) (b : List Token) (o p : Outcome A) (f g : A → Parser B) → ((x : A) → Alike t 0 u (f x) (g x)) → ((c : List Token) → n + length c ≤ length b → length c < u) → Near t n b o p
    → Near t n b (and_then o f) (and_then p g)
near_bind {t} n u b _ _ f g h fits (same x c le) = farther n b c (f x (c ++ here t)) (g x (c ++ there t)) le ((h x).near c (fits c le))
near_bind n u b _ _ f g h fits (fails c) = fails c
near_bind n u b _ _ f g h fits (past o p lt) = past (and_then o f) (and_then p g) (omega (arith, lt, ending_length (left o) (left (and_then o f)) (bind_ends o f (λ x. (h x).ends))))

pub bind_within : {t : Fork} {A B : Type 0} {n w : ℕ} (u : ℕ) (p q : Parser A) (f g : A → Parser B) → w ≤ n + u → Alike t n w p q → ((x : A) → Alike t 0 u (f x) (g x)) → Alike t n w (λ ts. and_then (p ts) f) (λ ts. and_then (q ts) g)
bind_within {t} {A} {B} {n} {w} u p q f g fits a h = record {
  near = λ b lt. near_bind n u b (p (b ++ here t)) (q (b ++ there t)) f g h (λ c le. omega (arith, fits, lt, le)) (a.near b lt);
  ends = λ ts. ending_of ts (left (p ts)) (left (and_then (p ts) f)) (a.ends ts) (bind_ends (p ts) f (λ x. (h x).ends));
}

pub alike_bind : {t : Fork} {A B : Type 0} {n w : ℕ} (p q : Parser A) (f g : A → Parser B) → Alike t n w p q → ((x : A) → Alike t 0 w (f x) (g x)) → Alike t n w (λ ts. and_then (p ts) f) (λ ts. and_then (q ts) g)
alike_bind {t} {A} {B} {n} {w} p q f g a h = bind_within w p q f g (omega arith) a h

-- with the value changed
pub alike_map : {t : Fork} {A B : Type 0} {n w : ℕ} (f : A → B) (p q : Parser A) → Alike t n w p q → Alike t n w (f <$> p) (f <$> q)
alike_map f p q a = alike_bind p q (λ x. pure (f x)) (λ x. pure (f x)) a (λ x. alike_pure (f x))

-- behind a token
skip_near : {t : Fork} {A : Type 0} {n w : ℕ} (p q : Parser A) → Alike t n w p q → (b : List Token) → length b < suc w → Near t 1 b (skipping p (b ++ here t)) (skipping q (b ++ there t))
skip_near {t} p q a [] lt = past (p t.after) (q t.other) (omega (arith, ending_length t.after (left (p t.after)) (a.ends t.after)))
skip_near {t} {A} {n} p q a (k ∷ b) lt = farther 1 (k ∷ b) b (p (b ++ here t)) (q (b ++ there t)) (omega arith) (nearer n b (p (b ++ here t)) (q (b ++ there t)) (a.near b (omega (arith, lt))))

pub skip_on : {t : Fork} {A : Type 0} {n w : ℕ} (p q : Parser A) → Alike t n w p q → Alike t 1 (suc w) (skipping p) (skipping q)
skip_on p q a = record { near = skip_near p q a; ends = λ ts. ending_of ts (skip ts) (left (p (skip ts))) (skip_ending ts) (a.ends (skip ts)) }

pub alike_skipping : {t : Fork} {A : Type 0} {n w : ℕ} (p q : Parser A) → Alike t n w p q → Alike t 1 w (skipping p) (skipping q)
alike_skipping {t} {A} {n} {w} p q a = lower w (omega arith) (skip_on p q a)

-- ---- What comes next decides

-- it depends on the next token alone
abbrev pub Peeks : {C : Type 0} → (List Token → C) → Type 0
Peeks {C} view = (k : Token) (us vs : List Token) → view (k ∷ us) ≡ view (k ∷ vs)

view_near : {t : Fork} {A C : Type 0} {n w : ℕ} (view : List Token → C) (p q : C → Parser A) → Peeks view → ((c : C) → Alike t n w (p c) (q c)) → (b : List Token) → length b < w
    → Near t n b (p (view (b ++ here t)) (b ++ here t)) (q (view (b ++ there t)) (b ++ there t))
view_near {t} {A} {C} {n} view p q peeks h [] lt = subst (λ c. Near t n [] (p (view (here t)) (here t)) (q c (there t))) (peeks t.token t.after t.other) ((h (view (here t))).near [] lt)
view_near {t} {A} {C} {n} view p q peeks h (k ∷ b) lt =
    subst (λ c. Near t n (k ∷ b) (p (view (k ∷ b ++ here t)) (k ∷ b ++ here t)) (q c (k ∷ b ++ there t))) (peeks k (b ++ here t) (b ++ there t)) ((h (view (k ∷ b ++ here t))).near (k ∷ b) lt)

pub alike_view : {t : Fork} {A C : Type 0} {n w : ℕ} (view : List Token → C) (p q : C → Parser A) → Peeks view → ((c : C) → Alike t n w (p c) (q c)) → Alike t n w (λ ts. p (view ts) ts) (λ ts. q (view ts) ts)
alike_view view p q peeks h = record { near = view_near view p q peeks h; ends = λ ts. (h (view ts)).ends ts }

pub alike_placed : {t : Fork} {A : Type 0} {n w : ℕ} (p q : Spot → Parser A) → ((s : Spot) → Alike t n w (p s) (q s)) → Alike t n w (placed p) (placed q)
alike_placed p q h = alike_view spot p q (λ k us vs. refl) h

pub alike_branch : {t : Fork} {A : Type 0} {n w : ℕ} (b : Bool) (p q r s : Parser A) → Alike t n w p q → Alike t n w r s → Alike t n w (branch b p r) (branch b q s)
alike_branch true p q r s x y = x
alike_branch false p q r s x y = y

pub alike_where : {t : Fork} {A : Type 0} {n w : ℕ} (test : List Token → Bool) (p q r s : Parser A) → Peeks test → Alike t n w p q → Alike t n w r s → Alike t n w (where_next test p r) (where_next test q s)
alike_where test p q r s peeks x y = alike_view test (λ b. branch b p r) (λ b. branch b q s) peeks (λ b. alike_branch b p q r s x y)

pub alike_branch_by : {t : Fork} {A : Type 0} {n w : ℕ} (b : Bool) (p q r s : Parser A) → (b ≡ true → Alike t n w p q) → (b ≡ false → Alike t n w r s) → Alike t n w (branch b p r) (branch b q s)
alike_branch_by true p q r s x y = x refl
alike_branch_by false p q r s x y = y refl

-- two texts for which a test says the same
pub branch_near : {t : Fork} {A : Type 0} {n : ℕ} {b : List Token} (x y : Bool) (p q : Parser A) (us vs : List Token) → x ≡ y → Near t n b (p us) (p vs) → Near t n b (q us) (q vs) → Near t n b (branch x p q us) (branch y p q vs)
branch_near true true p q us vs e a b = a
branch_near true false p q us vs e a b = absurd cc
branch_near false true p q us vs e a b = absurd cc
branch_near false false p q us vs e a b = b

pub branch_ends : {A : Type 0} (b : Bool) (p q : Parser A) → Ends p → Ends q → Ends (branch b p q)
branch_ends true p q x y = x
branch_ends false p q x y = y

-- fewer tokens than these are left
abbrev pub Leaves : {A : Type 0} → Outcome A → ℕ → Type 0
Leaves o m = length (left o) < m

pub branch_leaves : {A : Type 0} (b : Bool) (p q : Parser A) (ts : List Token) (m : ℕ) → (b ≡ true → Leaves (p ts) m) → (b ≡ false → Leaves (q ts) m) → Leaves (branch b p q ts) m
branch_leaves true p q ts m x y = x refl
branch_leaves false p q ts m x y = y refl

pub bind_branch_leaves : {A B : Type 0} (b : Bool) (p q : Parser A) (f : A → Parser B) (ts : List Token) (m : ℕ) → (b ≡ true → Leaves (and_then (p ts) f) m) → (b ≡ false → Leaves (and_then (q ts) f) m) → Leaves (and_then (branch b p q ts) f) m
bind_branch_leaves true p q f ts m x y = x refl
bind_branch_leaves false p q f ts m x y = y refl

pub bind_leaves : {t : Fork} {A B : Type 0} {n w : ℕ} (o : Outcome A) (f g : A → Parser B) (m : ℕ) → ((x : A) → Alike t n w (f x) (g x)) → Leaves o m → Leaves (and_then o f) m
bind_leaves o f g m h lt = omega (arith, lt, ending_length (left o) (left (and_then o f)) (bind_ends o f (λ x. (h x).ends)))

pub skip_leaves : {t : Fork} {A : Type 0} {n w : ℕ} (p q : Parser A) (k : Token) (ts : List Token) → Alike t n w p q → Leaves (skipping p (k ∷ ts)) (suc (length ts))
skip_leaves p q k ts a = omega (arith, ending_length ts (left (p ts)) (a.ends ts))

pub and_same : (a b c : Bool) → a ≡ false → (a && b) ≡ (a && c)
and_same true b c e = absurd cc
and_same false b c e = refl

pub and_false : (a b : Bool) → a ≡ true → (a && b) ≡ false → b ≡ false
and_false true b e f = f
and_false false b e f = absurd cc

-- ---- In turns

-- With turns for all tokens before the token and one more, it doesn't matter how many there are.
pub in_turns : {t : Fork} {A S : Type 0} {n : ℕ} (top : ℕ) (list : ℕ → S → Parser A) → ((s : S) → Ends (list 0 s))
    → ((k j v : ℕ) → v ≤ top → ((s : S) → Alike t n v (list k s) (list j s)) → (s : S) → Alike t n (suc v) (list (suc k) s) (list (suc j) s))
    → (k j w : ℕ) → w ≤ suc top → w ≤ k → w ≤ j → (s : S) → Alike t n w (list k s) (list j s)
in_turns top list base turn zero j w low a b s = lower w a (bare (base s))
in_turns top list base turn (suc k) zero w low a b s =
    let one = turn k k 0 (omega arith) (in_turns top list base turn k k 0 (omega arith) (omega arith) (omega arith)) s in
    lower w b (bare one.ends)
in_turns top list base turn (suc k) (suc j) zero low a b s =
    let one = turn k k 0 (omega arith) (in_turns top list base turn k k 0 (omega arith) (omega arith) (omega arith)) s in
    bare one.ends
in_turns top list base turn (suc k) (suc j) (suc v) low a b s = turn k j v (omega (arith, low)) (in_turns top list base turn k j v (omega (arith, low)) (omega (arith, a)) (omega (arith, b))) s

-- with as many turns as there are tokens, or more
pub enough_turns : {t : Fork} {A S : Type 0} {n : ℕ} (top : ℕ) (list : ℕ → S → Parser A) (turns : ℕ → ℕ) → ((m : ℕ) → m ≤ turns m) → ((s : S) → Ends (list 0 s))
    → ((k j v : ℕ) → v ≤ top → ((s : S) → Alike t n v (list k s) (list j s)) → (s : S) → Alike t n (suc v) (list (suc k) s) (list (suc j) s))
    → (s : S) → Alike t n (suc top) (λ ts. list (turns (length ts)) s ts) (λ ts. list (turns (length ts)) s ts)
enough_turns {t} {A} {S} {n} top list turns enough base turn s = record {
  near = λ b lt.
      let first : suc (length b) ≤ turns (length (b ++ here t)) = omega (arith, length-append b (here t), enough (length (b ++ here t))) in
      let second : suc (length b) ≤ turns (length (b ++ there t)) = omega (arith, length-append b (there t), enough (length (b ++ there t))) in
      let all = in_turns top list base turn (turns (length (b ++ here t))) (turns (length (b ++ there t))) (suc (length b)) lt first second s in
      all.near b (omega arith);
  ends = λ ts.
      let all = in_turns top list base turn (turns (length ts)) 0 0 (omega arith) (omega arith) (omega arith) s in
      all.ends ts;
}
