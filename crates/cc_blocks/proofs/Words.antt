-- Bits of lists of words.
use Rattle.std.proofs.Common.{◌≡◌, ◌≢◌, ℕ, zero, suc, ◌+◌, ◌-◌, ◌*◌, ◌/◌, ◌%◌, ◌^◌, ◌<◌, ◌≤◌, ◌⊎◌, inl, inr, ⊎_elim, min, max, List, [], ◌∷◌, length, get_or, refl, sym, ap, ◌∙◌, arith, w64, eqb, not, eq-eqb, div-le_self, get_or-set_same, get_or-set_other}
use Rattle.std.specs.Prelude.{bit_and, bit_or, bit_xor, slice_set, IsTrue}
use Rattle.std.specs.Int.{bit_at, trailing_zeros}
use Rattle.std.proofs.lemmas.Bool.{cases_eq, cases_lt, false≢true, ne_eqb}
use Rattle.std.proofs.lemmas.Nat.{or_lt, xor_lt, shr-shr}
use Rattle.std.proofs.lemmas.Nat.Bits.{bit_at_or, bit_at_and, bit_at_xor, bit_at-zero, bit_at-lt, same_from_bits, bit_at-trailing_zeros, bit_at_set_same, bit_at_set_other, bit_at_above, bit_at_lowest, bit_at-suc, shr_and_one}
use lib.Lanes.{zip2, fold_l}
use lib.Count.{ones_step, ones-le}
use native.Mathlib.Nat.{pow-suc}
use Rattle.std.specs.Int.RustNames.{count_ones}
use Rattle.cc_blocks.specs.Bits.{word_bit, ones_below}

-- a lane of two vectors that an operator joins
pub get_or-zip2_zero : (f : ℕ → ℕ → ℕ) → f 0 0 ≡ 0 → (xs ys : List ℕ) (j : ℕ) → length xs ≡ length ys → get_or (zip2 f xs ys) j 0 ≡ f (get_or xs j 0) (get_or ys j 0)
get_or-zip2_zero f z [] [] j e = sym z
get_or-zip2_zero f z [] (y ∷ ys) j e = absurd (omega arith)
get_or-zip2_zero f z (x ∷ xs) [] j e = absurd (omega arith)
get_or-zip2_zero f z (x ∷ xs) (y ∷ ys) zero e = refl
get_or-zip2_zero f z (x ∷ xs) (y ∷ ys) (suc j) e = get_or-zip2_zero f z xs ys j (omega arith)

pub length-zip2 : (f : ℕ → ℕ → ℕ) (xs ys : List ℕ) → length xs ≡ length ys → length (zip2 f xs ys) ≡ length xs
length-zip2 f [] [] e = refl
length-zip2 f [] (y ∷ ys) e = absurd (omega arith)
length-zip2 f (x ∷ xs) [] e = absurd (omega arith)
length-zip2 f (x ∷ xs) (y ∷ ys) e = omega (arith, length-zip2 f xs ys (omega arith))

pub word_bit-lt : (xs : List ℕ) (i : ℕ) → word_bit xs i < 2
unfolding word_bit
word_bit-lt xs i = bit_at-lt (get_or xs (i / 64) 0) (i % 64)

pub word_bit-or : (xs ys : List ℕ) (i : ℕ) → length xs ≡ length ys → word_bit (zip2 bit_or xs ys) i ≡ max (word_bit xs i) (word_bit ys i)
unfolding word_bit
word_bit-or xs ys i e = ap (λ x. bit_at x (i % 64)) (get_or-zip2_zero bit_or refl xs ys (i / 64) e) ∙ bit_at_or (get_or xs (i / 64) 0) (get_or ys (i / 64) 0) (i % 64)

pub word_bit-and : (xs ys : List ℕ) (i : ℕ) → length xs ≡ length ys → word_bit (zip2 bit_and xs ys) i ≡ min (word_bit xs i) (word_bit ys i)
unfolding word_bit
word_bit-and xs ys i e = ap (λ x. bit_at x (i % 64)) (get_or-zip2_zero bit_and refl xs ys (i / 64) e) ∙ bit_at_and (get_or xs (i / 64) 0) (get_or ys (i / 64) 0) (i % 64)

pub word_bit-xor : (xs ys : List ℕ) (i : ℕ) → length xs ≡ length ys → word_bit (zip2 bit_xor xs ys) i ≡ (word_bit xs i + word_bit ys i) % 2
unfolding word_bit
word_bit-xor xs ys i e = ap (λ x. bit_at x (i % 64)) (get_or-zip2_zero bit_xor refl xs ys (i / 64) e) ∙ bit_at_xor (get_or xs (i / 64) 0) (get_or ys (i / 64) 0) (i % 64)

-- every lane is 0
abbrev pub AllZero : List ℕ → Type 0
AllZero xs = (j : ℕ) → get_or xs j 0 ≡ 0

zero_max : (m n : ℕ) → max m n ≡ 0 → (m ≡ 0) × (n ≡ 0)
zero_max m n e = (omega arith, omega arith)

pub zero_or : (a b : ℕ) → bit_or a b ≡ 0 → (a ≡ 0) × (b ≡ 0)
zero_or a b e =
    let each = λ (i : ℕ). zero_max (bit_at a i) (bit_at b i) (sym (bit_at_or a b i) ∙ ap (λ x. bit_at x i) e ∙ bit_at-zero i) in (
      same_from_bits a 0 (λ i. (each i).0 ∙ sym (bit_at-zero i)),
      same_from_bits b 0 (λ i. (each i).1 ∙ sym (bit_at-zero i)),
    )

fold_zero_first : (xs : List ℕ) (a : ℕ) → fold_l bit_or a xs ≡ 0 → (a ≡ 0) × AllZero xs
fold_zero_first [] a e = (e, λ j. refl)
fold_zero_first (x ∷ xs) a e =
    let rest = fold_zero_first xs (bit_or a x) e in
    let parts = zero_or a x rest.0 in
    (parts.0, each parts.1 rest.1)
  where
    each : x ≡ 0 → AllZero xs → AllZero (x ∷ xs)
    each here there zero = here
    each here there (suc j) = there j

pub AllZero-from_fold : (xs : List ℕ) → fold_l bit_or 0 xs ≡ 0 → AllZero xs
AllZero-from_fold xs e = (fold_zero_first xs 0 e).1

pub fold-AllZero : (xs : List ℕ) → AllZero xs → fold_l bit_or 0 xs ≡ 0
fold-AllZero [] h = refl
fold-AllZero (x ∷ xs) h = ap (λ a. fold_l bit_or (bit_or 0 a) xs) (h 0) ∙ fold-AllZero xs (λ j. h (suc j))

-- a lane that is not 0
pub some_lane : (xs : List ℕ) (a : ℕ) → a ≡ 0 → (fold_l bit_or a xs ≡ 0 → ⊥) → (j : ℕ) × (j < length xs) × (get_or xs j 0 ≡ 0 → ⊥)
some_lane [] a z h = absurd (h z)
some_lane (x ∷ xs) a z h = elim (cases_eq x 0) [
  | inl e ↦ let rest = some_lane xs (bit_or a x) (rw (z, e)) h in (suc rest.0, omega (arith, rest.1), rest.2)
  | inr ne ↦ (0, omega arith, ne)
]

pub word_bit-AllZero : (xs : List ℕ) (i : ℕ) → AllZero xs → word_bit xs i ≡ 0
unfolding word_bit
word_bit-AllZero xs i h = ap (λ x. bit_at x (i % 64)) (h (i / 64)) ∙ bit_at-zero (i % 64)

place_div : (j b : ℕ) → b < 64 → (64 * j + b) / 64 ≡ j
place_div j b h = omega arith

place_mod : (j b : ℕ) → b < 64 → (64 * j + b) % 64 ≡ b
place_mod j b h = omega arith

pub word_bit-at : (xs : List ℕ) (j b : ℕ) → b < 64 → word_bit xs (64 * j + b) ≡ bit_at (get_or xs j 0) b
unfolding word_bit
word_bit-at xs j b h = rw (place_div j b h, place_mod j b h)

-- a lane that is not 0 has a bit that is 1
pub some_bit : (xs : List ℕ) (j : ℕ) → get_or xs j 0 < 2 ^ 64 → (get_or xs j 0 ≡ 0 → ⊥) → (i : ℕ) × (word_bit xs i ≡ 1)
some_bit xs j fits ne =
    let low = bit_at-trailing_zeros w64 (get_or xs j 0) (omega arith) fits in
    (64 * j + trailing_zeros w64 (get_or xs j 0), word_bit-at xs j (trailing_zeros w64 (get_or xs j 0)) low.0 ∙ low.1)

pub AllZero-from_bits : (xs : List ℕ) → ((j : ℕ) → get_or xs j 0 < 2 ^ 64) → ((i : ℕ) → word_bit xs i ≡ 0) → AllZero xs
AllZero-from_bits xs fits h j = elim (cases_eq (get_or xs j 0) 0) [
  | inl e ↦ e
  | inr ne ↦ absurd (let some = some_bit xs j (fits j) ne in omega (arith, h some.0, some.1))
]

-- the lanes that an operator gives fit
pub zip2-fits : (f : ℕ → ℕ → ℕ) → ((a b : ℕ) → a < 2 ^ 64 → b < 2 ^ 64 → f a b < 2 ^ 64) → f 0 0 ≡ 0 → (xs ys : List ℕ) → length xs ≡ length ys → ((j : ℕ) → get_or xs j 0 < 2 ^ 64) → ((j : ℕ) → get_or ys j 0 < 2 ^ 64) → (j : ℕ) → get_or (zip2 f xs ys) j 0 < 2 ^ 64
zip2-fits f both z xs ys e fx fy j = omega (arith, get_or-zip2_zero f z xs ys j e, both (get_or xs j 0) (get_or ys j 0) (fx j) (fy j))

abbrev pub united : List ℕ → List ℕ → List ℕ
united xs ys = zip2 bit_or xs ys

-- something is new where the fold over what changed is not 0
abbrev pub changed : List ℕ → List ℕ → ℕ
changed xs ys = fold_l bit_or 0 (zip2 bit_xor (zip2 bit_or xs ys) xs)

changed_bit : (xs ys : List ℕ) (i : ℕ) → length xs ≡ length ys → word_bit (zip2 bit_xor (zip2 bit_or xs ys) xs) i ≡ (max (word_bit xs i) (word_bit ys i) + word_bit xs i) % 2
changed_bit xs ys i e = word_bit-xor (zip2 bit_or xs ys) xs i (length-zip2 bit_or xs ys e) ∙ ap (λ x. (x + word_bit xs i) % 2) (word_bit-or xs ys i e)

new_of_changed : (x y : ℕ) → x < 2 → y < 2 → (max x y + x) % 2 ≡ 1 → (y ≡ 1) × (x ≡ 0)
new_of_changed x y a b e = (omega arith, omega arith)

pub some_new : (xs ys : List ℕ) → length xs ≡ length ys → ((j : ℕ) → get_or xs j 0 < 2 ^ 64) → ((j : ℕ) → get_or ys j 0 < 2 ^ 64) → (changed xs ys ≡ 0 → ⊥) → (i : ℕ) × (word_bit ys i ≡ 1) × (word_bit xs i ≡ 0)
some_new xs ys e fx fy h =
    let lane = some_lane (zip2 bit_xor (zip2 bit_or xs ys) xs) 0 refl h in
    let fo = zip2-fits bit_or (or_lt 64) refl xs ys e fx fy in
    let fits = zip2-fits bit_xor (xor_lt 64) refl (zip2 bit_or xs ys) xs (length-zip2 bit_or xs ys e) fo fx in
    let at = some_bit (zip2 bit_xor (zip2 bit_or xs ys) xs) lane.0 (fits lane.0) lane.2 in
    let is = new_of_changed (word_bit xs at.0) (word_bit ys at.0) (word_bit-lt xs at.0) (word_bit-lt ys at.0) (sym (changed_bit xs ys at.0 e) ∙ at.1) in
    (at.0, is.0, is.1)

pub not_new : (xs ys : List ℕ) (i : ℕ) → length xs ≡ length ys → word_bit ys i ≡ 1 → word_bit xs i ≡ 0 → changed xs ys ≡ 0 → ⊥
not_new xs ys i e there here h =
    let z = word_bit-AllZero (zip2 bit_xor (zip2 bit_or xs ys) xs) i (AllZero-from_fold (zip2 bit_xor (zip2 bit_or xs ys) xs) h) in
    let is : (max (word_bit xs i) (word_bit ys i) + word_bit xs i) % 2 ≡ 0 = sym (changed_bit xs ys i e) ∙ z in
    omega arith

pub word_bit-nil : (xs : List ℕ) (i : ℕ) → length xs ≤ i / 64 → word_bit xs i ≡ 0
unfolding word_bit
word_bit-nil xs i h = ap (λ x. bit_at x (i % 64)) (get_or-past xs (i / 64) h) ∙ bit_at-zero (i % 64)
  where
    get_or-past : (ys : List ℕ) (j : ℕ) → length ys ≤ j → get_or ys j 0 ≡ 0
    get_or-past [] j h = refl
    get_or-past (y ∷ ys) zero h = absurd (omega arith)
    get_or-past (y ∷ ys) (suc j) h = get_or-past ys j (omega arith)

-- the bits from a place on, in its word
pub shifted : (xs : List ℕ) (from k : ℕ) → from ≤ k → k / 64 ≡ from / 64 → word_bit xs k ≡ bit_at (get_or xs (from / 64) 0 / 2 ^ (from % 64)) (k - from)
unfolding word_bit
shifted xs from k le same =
    let at : from % 64 + (k - from) ≡ k % 64 = omega arith in
    let e = ap (λ x. x % 2) (shr-shr (get_or xs (from / 64) 0) (from % 64) (k - from)) in
    rw same (sym (rw at at e))

-- the lowest bit from a place on, in its word
pub first_in_word : (xs : List ℕ) (from : ℕ) → from < 512 → get_or xs (from / 64) 0 < 2 ^ 64 → let left = get_or xs (from / 64) 0 / 2 ^ (from % 64) in (left ≡ 0 → ⊥) → left < 2 ^ 64 →
    let i = from + trailing_zeros w64 left in (i < 512) × (word_bit xs i ≡ 1) × ((k : ℕ) → from ≤ k → k < i → word_bit xs k ≡ 0)
first_in_word xs from small fits ne fits' =
    let left : ℕ = get_or xs (from / 64) 0 / 2 ^ (from % 64) in
    let b : ℕ = trailing_zeros w64 left in
    let low = bit_at-trailing_zeros w64 left (omega arith) fits' in
    let in_lane : bit_at (get_or xs (from / 64) 0) (from % 64 + b) ≡ 1 = ap (λ x. x % 2) (sym (shr-shr (get_or xs (from / 64) 0) (from % 64) b)) ∙ low.1 in
    let within : from % 64 + b < 64 = elim (cases_lt (from % 64 + b) 64) [
      | inl lt ↦ lt
      | inr ge ↦ absurd (let z = bit_at_above (get_or xs (from / 64) 0) 64 (from % 64 + b) fits ge in omega arith)
    ] in
    let back : from + b - from ≡ b = omega arith in (
      omega arith,
      shifted xs from (from + b) (omega arith) (omega arith) ∙ rw back low.1,
      λ k le lt. shifted xs from k le (omega arith) ∙ low.2 (k - from) (omega arith),
    )

pub none_in_word : (xs : List ℕ) (from k : ℕ) → get_or xs (from / 64) 0 / 2 ^ (from % 64) ≡ 0 → from ≤ k → k < (from / 64 + 1) * 64 → word_bit xs k ≡ 0
none_in_word xs from k e le lt = shifted xs from k le (omega arith) ∙ ap (λ x. bit_at x (k - from)) e ∙ bit_at-zero (k - from)

-- how many of the lowest bits of a word are 1
low_ones : ℕ → ℕ → ℕ
low_ones w zero = 0
low_ones w (suc b) = low_ones w b + bit_at w b

low_ones-first : (w b : ℕ) → low_ones w (suc b) ≡ w % 2 + low_ones (w / 2) b
unfolding low_ones
low_ones-first w zero = omega (arith, bit_at_lowest w)
low_ones-first w (suc b) = omega (arith, low_ones-first w b, bit_at-suc w b)

low_ones-all : (b w : ℕ) → w < 2 ^ b → low_ones w b ≡ count_ones w
unfolding low_ones
low_ones-all zero w h = let z : w ≡ 0 = omega arith in omega (arith, ones-le 0 w h)
low_ones-all (suc b) w h = low_ones-first w b ∙ ap (λ n. w % 2 + n) (low_ones-all b (w / 2) (omega (arith, pow-suc 2 b))) ∙ sym (ones_step w)

ones_below-part : (xs : List ℕ) (j b : ℕ) → b ≤ 64 → ones_below xs (64 * j + b) ≡ ones_below xs (64 * j) + low_ones (get_or xs j 0) b
unfolding low_ones ones_below
ones_below-part xs j zero h =
    let at : 64 * j + 0 ≡ 64 * j = omega arith in
    omega (arith, ap (ones_below xs) at)
ones_below-part xs j (suc b) h =
    let at : 64 * j + suc b ≡ suc (64 * j + b) = omega arith in
    omega (arith, ap (ones_below xs) at, ones_below-part xs j b (omega arith), word_bit-at xs j b (omega arith))

pub ones_below-lane : (xs : List ℕ) (j : ℕ) → get_or xs j 0 < 2 ^ 64 → ones_below xs (64 * (j + 1)) ≡ ones_below xs (64 * j) + count_ones (get_or xs j 0)
ones_below-lane xs j h =
    let at : 64 * (j + 1) ≡ 64 * j + 64 = omega arith in
    rw at (ones_below-part xs j 64 (omega arith) ∙ ap (λ n. ones_below xs (64 * j) + n) (low_ones-all 64 (get_or xs j 0) h))

pub ones_below-le : (xs : List ℕ) (n : ℕ) → ones_below xs n ≤ n
unfolding ones_below
ones_below-le xs zero = omega arith
ones_below-le xs (suc n) = omega (arith, ones_below-le xs n, word_bit-lt xs n)

-- the words after a bit was set
abbrev pub with_bit : List ℕ → ℕ → List ℕ
with_bit xs i = slice_set xs (i / 64) (bit_or (get_or xs (i / 64) 0) (1 * 2 ^ (i % 64) % 2 ^ 64))

pub with_bit-fits : (xs : List ℕ) (i : ℕ) → ((j : ℕ) → get_or xs j 0 < 2 ^ 64) → (j : ℕ) → get_or (with_bit xs i) j 0 < 2 ^ 64
with_bit-fits xs i fits j = set-fits xs (i / 64) j (or_lt 64 (get_or xs (i / 64) 0) (1 * 2 ^ (i % 64) % 2 ^ 64) (fits (i / 64)) (omega arith)) (fits j)
  where
    set-fits : (ys : List ℕ) (k j : ℕ) {v : ℕ} → v < 2 ^ 64 → get_or ys j 0 < 2 ^ 64 → get_or (slice_set ys k v) j 0 < 2 ^ 64
    set-fits [] k j a b = omega arith
    set-fits (y ∷ ys) zero zero a b = a
    set-fits (y ∷ ys) zero (suc j) a b = b
    set-fits (y ∷ ys) (suc k) zero a b = b
    set-fits (y ∷ ys) (suc k) (suc j) a b = set-fits ys k j a b

pub with_bit-same : (xs : List ℕ) (i : ℕ) → i / 64 < length xs → word_bit (with_bit xs i) i ≡ 1
unfolding word_bit
with_bit-same xs i h = ap (λ x. bit_at x (i % 64)) (get_or-set_same xs (i / 64) (bit_or (get_or xs (i / 64) 0) (1 * 2 ^ (i % 64) % 2 ^ 64)) 0 h) ∙ bit_at_set_same w64 (get_or xs (i / 64) 0) (i % 64) (omega arith)

pub with_bit-other : (xs : List ℕ) (i k : ℕ) → i / 64 < length xs → k ≢ i → word_bit (with_bit xs i) k ≡ word_bit xs k
unfolding word_bit
with_bit-other xs i k h ne = elim (cases_eq (k / 64) (i / 64)) [
  | inl same ↦
      let b = bit_at_set_other w64 (get_or xs (i / 64) 0) (i % 64) (omega arith) (k % 64) (λ e. ne (omega arith)) in
      rw same (ap (λ x. bit_at x (k % 64)) (get_or-set_same xs (i / 64) (bit_or (get_or xs (i / 64) 0) (1 * 2 ^ (i % 64) % 2 ^ 64)) 0 h) ∙ b)
  | inr other ↦ ap (λ x. bit_at x (k % 64)) (get_or-set_other xs (i / 64) (k / 64) (bit_or (get_or xs (i / 64) 0) (1 * 2 ^ (i % 64) % 2 ^ 64)) 0 other)
]

pub nonzero_test : (n : ℕ) → (IsTrue (not (eqb n 0)) → n ≡ 0 → ⊥) × ((n ≡ 0 → ⊥) → IsTrue (not (eqb n 0)))
nonzero_test n = (λ t e. false≢true (ap not (sym (eq-eqb n 0 e)) ∙ t), λ h. ap not (ne_eqb n 0 h))

minus_bits : (x y : ℕ) → x < 2 → y < 2 → (x + min x y) % 2 ≡ x - y
minus_bits x y a b = omega arith

pub word_bit-minus : (xs ys : List ℕ) (i : ℕ) → length xs ≡ length ys → word_bit (zip2 bit_xor xs (zip2 bit_and xs ys)) i ≡ word_bit xs i - word_bit ys i
word_bit-minus xs ys i e =
    word_bit-xor xs (zip2 bit_and xs ys) i (sym (length-zip2 bit_and xs ys e))
    ∙ ap (λ x. (word_bit xs i + x) % 2) (word_bit-and xs ys i e)
    ∙ minus_bits (word_bit xs i) (word_bit ys i) (word_bit-lt xs i) (word_bit-lt ys i)

pub word_bit-test : (xs : List ℕ) (i x : ℕ) → x ≡ get_or xs (i / 64) 0 → word_bit xs i ≡ bit_and (x / 2 ^ (i % 64)) 1
unfolding word_bit
word_bit-test xs i x e = sym (shr_and_one (get_or xs (i / 64) 0) (i % 64)) ∙ ap (λ y. bit_and (y / 2 ^ (i % 64)) 1) (sym e)

pub shr_lt : (x s : ℕ) → x < 2 ^ 64 → x / 2 ^ s < 2 ^ 64
shr_lt x s h = omega (arith, div-le_self x (2 ^ s))
