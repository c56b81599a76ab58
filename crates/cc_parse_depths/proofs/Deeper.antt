-- Readers at three depths: one, another that is two greater, and any other that is greater. The second is past the token at
-- which the first stops, or all three do the same.
use Rattle.std.proofs.Common.{◌≡◌, ◌≤◌, ◌<◌, refl, Bool, true, false, List, [], ◌∷◌, length, Ok, Err, arith, sym, subst}
use Rattle.cc_base.specs.declared.place.Spot.{Spot}
use Rattle.cc_lex.specs.declared.token.Token.{Token}
use Rattle.cc_grammar.specs.Classes.{skip, spot}
use Rattle.cc_grammar.specs.Outcomes.{Outcome, Parser, and_then, pure, refuse, ◌<$>◌, ◌>>=◌}
use Rattle.cc_grammar.specs.Reading.{branch, where_next, placed, skipping}
use Rattle.cc_parse_laws.proofs.Steps.{branch_false}
use Rattle.cc_parse_places.proofs.Forks.{left}

-- ---- Outcomes

-- All three are one; or the first refuses a token, or has something and stops before a token of which something holds, and
-- the second is past that token.
pub data Steps {A : Type 0} (S : A → List Token → Type 0) : Outcome A → Outcome A → Outcome A → Type 0 where
  alike : (o : Outcome A) → Steps S o o o
  refused : (r : List Token) (m p : Outcome A) → length (left m) < length r → Steps S (Err r) m p
  stopped : (x : A) (r : List Token) (m p : Outcome A) → S x r → length (left m) < length r → Steps S (Ok (x, r)) m p

-- it has something and stops at no token for its depth
abbrev pub Never : {A : Type 0} → A → List Token → Type 0
Never x r = ⊥

-- it goes no farther than to the tokens
pub data Halts {B : Type 0} (T : B → List Token → Type 0) : Outcome B → List Token → Type 0 where
  refuses : (r : List Token) → Halts T (Err r) r
  halts_with : (y : B) (r : List Token) → T y r → Halts T (Ok (y, r)) r

pub halts_is : {B : Type 0} {T : B → List Token → Type 0} {o p : Outcome B} {r : List Token} → o ≡ p → Halts T p r → Halts T o r
halts_is {B} {T} {o} {p} {r} e h = subst (λ z. Halts T z r) (sym e) h

pub halts_bind : {A B : Type 0} {S : A → List Token → Type 0} {T : B → List Token → Type 0} (o : Outcome A) (f : A → Parser B) (r : List Token) → Halts S o r → ((x : A) → S x r → Halts T (f x r) r) → Halts T (and_then o f) r
halts_bind _ f _ (refuses r) h = refuses r
halts_bind _ f _ (halts_with x r s) h = h x s

pub halts_map : {A B : Type 0} {S : A → List Token → Type 0} {T : B → List Token → Type 0} (o : Outcome A) (f : A → B) (r : List Token) → Halts S o r → ((x : A) → S x r → T (f x) r) → Halts T (and_then o (λ x. pure (f x))) r
halts_map o f r a h = halts_bind o (λ x. pure (f x)) r a (λ x s. halts_with (f x) r (h x s))

-- what another reader does is read
pub halts_else : {B : Type 0} {T : B → List Token → Type 0} (test : List Token → Bool) (p q : Parser B) (r : List Token) → test r ≡ false → Halts T (q r) r → Halts T (where_next test p q r) r
halts_else test p q r e h = halts_is (branch_false (test r) p q r e) h

-- ---- One after another

-- no tokens come back
abbrev pub Shrinks : {A : Type 0} → Parser A → Type 0
Shrinks p = (ts : List Token) → length (left (p ts)) ≤ length ts

pub bind_shrinks : {A B : Type 0} (o : Outcome A) (g : A → Parser B) → ((x : A) → Shrinks (g x)) → length (left (and_then o g)) ≤ length (left o)
bind_shrinks (Ok x) g h = h x.0 x.1
bind_shrinks (Err r) g h = omega arith

halted : {B : Type 0} {T : B → List Token → Type 0} (o m p : Outcome B) (r : List Token) → length (left m) < length r → Halts T o r → Steps T o m p
halted _ m p _ lt (refuses r) = refused r m p lt
halted _ m p _ lt (halts_with y r t) = stopped y r m p t lt

pub steps_then : {A B : Type 0} {S : A → List Token → Type 0} {T : B → List Token → Type 0} (o m p : Outcome A) (f g h : A → Parser B) → Steps S o m p → ((x : A) (r : List Token) → o ≡ Ok (x, r) → Steps T (f x r) (g x r) (h x r))
    → ((x : A) → Shrinks (g x)) → ((x : A) (r : List Token) → S x r → Halts T (f x r) r) → Steps T (and_then o f) (and_then m g) (and_then p h)
steps_then _ _ _ f g h (alike (Ok x)) go shrinks halt = go x.0 x.1 refl
steps_then _ _ _ f g h (alike (Err r)) go shrinks halt = alike (Err r)
steps_then _ _ _ f g h (refused r m p lt) go shrinks halt = refused r (and_then m g) (and_then p h) (omega (arith, lt, bind_shrinks m g shrinks))
steps_then _ _ _ f g h (stopped x r m p s lt) go shrinks halt = halted (f x r) (and_then m g) (and_then p h) r (omega (arith, lt, bind_shrinks m g shrinks)) (halt x r s)

pub steps_are : {A : Type 0} {S : A → List Token → Type 0} {o m p a b c : Outcome A} → o ≡ a → m ≡ b → p ≡ c → Steps S a b c → Steps S o m p
steps_are {A} {S} {o} {m} {p} {a} {b} {c} x y z s = subst (λ k. Steps S k m p) (sym x) (subst (λ k. Steps S a k p) (sym y) (subst (λ k. Steps S a b k) (sym z) s))

pub steps_weak : {A : Type 0} {S T : A → List Token → Type 0} {o m p : Outcome A} → ((x : A) (r : List Token) → S x r → T x r) → Steps S o m p → Steps T o m p
steps_weak h (alike o) = alike o
steps_weak h (refused r m p lt) = refused r m p lt
steps_weak h (stopped x r m p s lt) = stopped x r m p (h x r s) lt

-- the three are one
pub steps_same : {A : Type 0} {S : A → List Token → Type 0} {o m p : Outcome A} → m ≡ o → p ≡ o → Steps S o m p
steps_same {A} {S} {o} {m} {p} x y = steps_are {o = o} refl x y (alike o)

pub steps_branch : {A : Type 0} {S : A → List Token → Type 0} (b : Bool) (p q s u v w : Parser A) (ts : List Token) → (b ≡ true → Steps S (p ts) (q ts) (s ts)) → (b ≡ false → Steps S (u ts) (v ts) (w ts)) → Steps S (branch b p u ts) (branch b q v ts) (branch b s w ts)
steps_branch true p q s u v w ts x y = x refl
steps_branch false p q s u v w ts x y = y refl

-- ---- Readers

pub record Deeper {A : Type 0} (S : A → List Token → Type 0) (p q s : Parser A) : Type 0 where
  pub steps : (ts : List Token) → Steps S (p ts) (q ts) (s ts)
  pub shrinks : Shrinks q

-- one that doesn't look at the depth
pub deep_same : {A : Type 0} {S : A → List Token → Type 0} {p : Parser A} → Shrinks p → Deeper S p p p
deep_same {A} {S} {p} h = record { steps = λ ts. alike (p ts); shrinks = h }

pub deep_pure : {A : Type 0} {S : A → List Token → Type 0} (x : A) → Deeper S (pure x) (pure x) (pure x)
deep_pure x = deep_same (λ ts. omega arith)

pub deep_refuse : {A : Type 0} {S : A → List Token → Type 0} → Deeper S (refuse {A = A}) refuse refuse
deep_refuse = deep_same (λ ts. omega arith)

pub deep_weak : {A : Type 0} {S T : A → List Token → Type 0} {p q s : Parser A} → ((x : A) (r : List Token) → S x r → T x r) → Deeper S p q s → Deeper T p q s
deep_weak h d = record { steps = λ ts. steps_weak h (d.steps ts); shrinks = d.shrinks }

pub deep_never : {A : Type 0} {T : A → List Token → Type 0} {p q s : Parser A} → Deeper Never p q s → Deeper T p q s
deep_never d = deep_weak (λ x r n. absurd n) d

pub deep_then : {A B : Type 0} {S : A → List Token → Type 0} {T : B → List Token → Type 0} {p q s : Parser A} {f g h : A → Parser B} → Deeper S p q s → ((x : A) → Deeper T (f x) (g x) (h x)) → ((x : A) (r : List Token) → S x r → Halts T (f x r) r)
    → Deeper T (p >>= f) (q >>= g) (s >>= h)
deep_then {A} {B} {S} {T} {p} {q} {s} {f} {g} {h} d e halt = record {
  steps = λ ts. steps_then (p ts) (q ts) (s ts) f g h (d.steps ts) (λ x r is. (e x).steps r) (λ x. (e x).shrinks) halt;
  shrinks = λ ts. omega (arith, d.shrinks ts, bind_shrinks (q ts) g (λ x. (e x).shrinks));
}

-- behind one that stops at no token for its depth
pub deep_bind : {A B : Type 0} {T : B → List Token → Type 0} {p q s : Parser A} {f g h : A → Parser B} → Deeper Never p q s → ((x : A) → Deeper T (f x) (g x) (h x)) → Deeper T (p >>= f) (q >>= g) (s >>= h)
deep_bind d e = deep_then d e (λ x r n. absurd n)

pub deep_map : {A B : Type 0} {S : A → List Token → Type 0} {T : B → List Token → Type 0} {p q s : Parser A} (f : A → B) → Deeper S p q s → ((x : A) (r : List Token) → S x r → T (f x) r) → Deeper T (f <$> p) (f <$> q) (f <$> s)
deep_map f d h = deep_then d (λ x. deep_pure (f x)) (λ x r s. halts_with (f x) r (h x r s))

pub deep_map_never : {A B : Type 0} {T : B → List Token → Type 0} {p q s : Parser A} (f : A → B) → Deeper Never p q s → Deeper T (f <$> p) (f <$> q) (f <$> s)
deep_map_never f d = deep_map f d (λ x r n. absurd n)

pub skip_shrinks : (ts : List Token) → length (skip ts) ≤ length ts
skip_shrinks [] = omega arith
skip_shrinks (t ∷ ts) = omega arith

pub deep_skipping : {A : Type 0} {S : A → List Token → Type 0} {p q s : Parser A} → Deeper S p q s → Deeper S (skipping p) (skipping q) (skipping s)
deep_skipping d = record { steps = λ ts. d.steps (skip ts); shrinks = λ ts. omega (arith, d.shrinks (skip ts), skip_shrinks ts) }

-- what comes next decides
pub deep_view : {A C : Type 0} {S : A → List Token → Type 0} (view : List Token → C) {p q s : C → Parser A} → ((c : C) → Deeper S (p c) (q c) (s c)) → Deeper S (λ ts. p (view ts) ts) (λ ts. q (view ts) ts) (λ ts. s (view ts) ts)
deep_view view h = record { steps = λ ts. (h (view ts)).steps ts; shrinks = λ ts. (h (view ts)).shrinks ts }

pub deep_placed : {A : Type 0} {S : A → List Token → Type 0} {p q s : Spot → Parser A} → ((n : Spot) → Deeper S (p n) (q n) (s n)) → Deeper S (placed p) (placed q) (placed s)
deep_placed h = deep_view spot h

pub deep_branch : {A : Type 0} {S : A → List Token → Type 0} (b : Bool) {p q s u v w : Parser A} → Deeper S p q s → Deeper S u v w → Deeper S (branch b p u) (branch b q v) (branch b s w)
deep_branch true x y = x
deep_branch false x y = y

pub deep_where : {A : Type 0} {S : A → List Token → Type 0} (test : List Token → Bool) {p q s u v w : Parser A} → Deeper S p q s → Deeper S u v w → Deeper S (where_next test p u) (where_next test q v) (where_next test s w)
deep_where test x y = deep_view test (λ b. deep_branch b x y)
