-- How many numbers are in blocks.
use Rattle.std.proofs.Common.{◌≡◌, ℕ, zero, suc, ◌+◌, ◌-◌, ◌/◌, ◌<◌, ◌≤◌, inl, inr, List, max, length, refl, sym, ◌∙◌, arith}
use Rattle.std.proofs.lemmas.Bool.{cases_eq, cases_lt}
use Rattle.cc_blocks.specs.declared.block.Block.{Block}
use Rattle.cc_blocks.specs.Bits.{word_bit, bit, ones_below, size}
use Rattle.cc_blocks.proofs.Words.{word_bit-lt, word_bit-nil, ones_below-le}

pub bit-lt : (b : Block) (i : ℕ) → bit b i < 2
bit-lt b i = word_bit-lt b.lanes i

-- a block has no number from 512 on
pub bit-above : (b : Block) (i : ℕ) → 512 ≤ i → bit b i ≡ 0
bit-above b i h = word_bit-nil b.lanes i (omega (arith, b.eight))

ones_below-add : (xs ys zs : List ℕ) (n : ℕ) → ((i : ℕ) → word_bit zs i ≡ word_bit xs i + word_bit ys i) → ones_below zs n ≡ ones_below xs n + ones_below ys n
unfolding ones_below
ones_below-add xs ys zs zero h = refl
ones_below-add xs ys zs (suc n) h = omega (arith, ones_below-add xs ys zs n h, h n)

-- the size of a union of two sets that are apart
pub size-add : (a b c : Block) → ((i : ℕ) → bit c i ≡ bit a i + bit b i) → size c ≡ size a + size b
unfolding size
size-add a b c h = ones_below-add a.lanes b.lanes c.lanes 512 h

ones_below-some : (xs : List ℕ) (n : ℕ) → 0 < ones_below xs n → (i : ℕ) × (i < n) × (word_bit xs i ≡ 1)
unfolding ones_below
ones_below-some xs zero h = absurd (omega arith)
ones_below-some xs (suc n) h = elim (cases_eq (word_bit xs n) 1) [
  | inl e ↦ (n, omega arith, e)
  | inr ne ↦ let rest = ones_below-some xs n (omega (arith, word_bit-lt xs n)) in (rest.0, omega (arith, rest.1), rest.2)
]

ones_below-none : (xs : List ℕ) (n i : ℕ) → i < n → ones_below xs n ≡ 0 → word_bit xs i ≡ 0
unfolding ones_below
ones_below-none xs zero i lt h = absurd (omega arith)
ones_below-none xs (suc n) i lt h = elim (cases_eq i n) [
  | inl e ↦ rw e (omega arith)
  | inr ne ↦ ones_below-none xs n i (omega arith) (omega arith)
]

ones_below-zero : (xs : List ℕ) (n : ℕ) → ((i : ℕ) → word_bit xs i ≡ 0) → ones_below xs n ≡ 0
unfolding ones_below
ones_below-zero xs zero h = refl
ones_below-zero xs (suc n) h = omega (arith, ones_below-zero xs n h, h n)

pub size_some : (b : Block) → 0 < size b → (i : ℕ) × (i < 512) × (bit b i ≡ 1)
unfolding size
size_some b h = ones_below-some b.lanes 512 h

pub size_none : (b : Block) → size b ≡ 0 → (i : ℕ) → bit b i ≡ 0
unfolding size
size_none b h i = elim (cases_lt i 512) [
  | inl lt ↦ ones_below-none b.lanes 512 i lt h
  | inr ge ↦ bit-above b i ge
]

pub size-zero : (b : Block) → ((i : ℕ) → bit b i ≡ 0) → size b ≡ 0
unfolding size
size-zero b h = ones_below-zero b.lanes 512 h

pub size-le : (b : Block) → size b ≤ 512
unfolding size
size-le b = ones_below-le b.lanes 512

ones_below-mono : (xs ys : List ℕ) (n : ℕ) → ((i : ℕ) → word_bit xs i ≤ word_bit ys i) → ones_below xs n ≤ ones_below ys n
unfolding ones_below
ones_below-mono xs ys zero h = omega arith
ones_below-mono xs ys (suc n) h = omega (arith, ones_below-mono xs ys n h, h n)

ones_below-less : (xs ys : List ℕ) (n i : ℕ) → ((k : ℕ) → word_bit xs k ≤ word_bit ys k) → i < n → word_bit xs i < word_bit ys i → ones_below xs n < ones_below ys n
unfolding ones_below
ones_below-less xs ys zero i h lt less = absurd (omega arith)
ones_below-less xs ys (suc n) i h lt less = elim (cases_eq i n) [
  | inl e ↦ (let less' : word_bit xs n < word_bit ys n = rw e at less in omega (arith, ones_below-mono xs ys n h))
  | inr ne ↦ omega (arith, ones_below-less xs ys n i h (omega arith) less, h n)
]

-- a union with something new is larger
pub size-less : (a b c : Block) → ((i : ℕ) → bit c i ≡ max (bit a i) (bit b i)) → (i : ℕ) × (bit b i ≡ 1) × (bit a i ≡ 0) → size a < size c
unfolding size
size-less a b c h more = elim (cases_lt more.0 512) [
  | inl lt ↦ ones_below-less a.lanes c.lanes 512 more.0 (λ k. omega (arith, h k)) lt (omega (arith, h more.0, more.1, more.2))
  | inr ge ↦ absurd (let z = bit-above b more.0 ge in let o = more.1 in omega arith)
]
