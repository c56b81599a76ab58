-- A row to which a block is added, and its first target from a number on.
use Rattle.std.proofs.Common.{◌≡◌, ◌≢◌, ℕ, zero, suc, ◌+◌, ◌-◌, ◌*◌, ◌/◌, ◌%◌, ◌<◌, ◌≤◌, inl, inr, max, Bool, true, false, cond, List, [], ◌∷◌, ◌++◌, length, take, drop, Some, refl, sym, ap, ◌∙◌, subst, add-one, arith}
use Rattle.std.specs.Prelude.{slice_get, slice_set}
use Rattle.std.specs.List.{insert}
use Rattle.std.proofs.lemmas.Bool.{cases_eq, cases_lt}
use Rattle.std.proofs.lemmas.Option.{slice_get_within}
use Rattle.cc_blocks.specs.declared.block.Block.{Block}
use Rattle.cc_blocks.specs.Bits.{bit, size}
use Rattle.cc_blocks.proofs.Sizes.{bit-lt, bit-above, size-add, size_some, size_none}
use Rattle.cc_blocks.specs.declared.cell.Cell.{Cell}
use Rattle.cc_blocks.specs.Cells.{block_bit, row_bit, row_size, AreAscending, rank_of}
use Rattle.cc_blocks.proofs.Ranks

place_div : (n i : ℕ) → i < 512 → (512 * n + i) / 512 ≡ n
place_div n i h = omega arith

place_mod : (n i : ℕ) → i < 512 → (512 * n + i) % 512 ≡ i
place_mod n i h = omega arith

-- a block is added to the cell of its number
module _ (cells : List Cell) (n r : ℕ) (c : Cell) (b joined more : Block) (up : AreAscending 0 cells) (e : r ≡ rank_of cells n) (at : slice_get cells r ≡ Some c) (is : c.number ≡ n)
    (h_more : (i : ℕ) → bit more i ≡ bit b i - bit c.block i) (h_join : (i : ℕ) → bit joined i ≡ max (bit c.block i) (bit more i)) where
  cell : Cell
  cell = record { number = n; block = joined }

  at' : slice_get cells (rank_of cells n) ≡ Some c
  at' = ap (slice_get cells) (sym e) ∙ at

  bits : (i : ℕ) → bit joined i ≡ max (bit c.block i) (bit b i)
  bits i = omega (arith, h_more i, h_join i, bit-lt c.block i, bit-lt b i)

  join_block : (t : ℕ) → block_bit n joined t ≡ max (block_bit c.number c.block t) (block_bit n b t)
  join_block t = elim (cases_eq (t / 512) n) [
    | inl same ↦ omega (arith, Ranks.block_bit-at n joined t same, Ranks.block_bit-at c.number c.block t (same ∙ sym is), Ranks.block_bit-at n b t same, bits (t % 512))
    | inr other ↦ omega (arith, Ranks.block_bit-other n joined t other, Ranks.block_bit-other c.number c.block t (λ x. other (x ∙ is)), Ranks.block_bit-other n b t other)
  ]

  pub joined_bits : (t : ℕ) → row_bit (slice_set cells r (record { number = n; block = joined })) t ≡ max (row_bit cells t) (block_bit n b t)
  joined_bits t = Ranks.row_bit-set cells r t (block_bit n b t) c (record { number = n; block = joined }) at (join_block t)

  pub joined_size : row_size (slice_set cells r (record { number = n; block = joined })) ≡ row_size cells + size more
  joined_size =
      let sum = size-add c.block more joined (λ i. omega (arith, h_more i, h_join i, bit-lt c.block i, bit-lt b i)) in
      omega (arith, Ranks.row_size-set cells r c (record { number = n; block = joined }) at)

  pub joined_some : 0 < size more → (t : ℕ) × (block_bit n b t ≡ 1) × (row_bit cells t ≡ 0)
  joined_some h =
      let one = size_some more h in
      let i : ℕ = one.0 in
      let div = place_div n i one.1 in
      let rem = place_mod n i one.1 in
      let there : bit b ((512 * n + i) % 512) ≡ 1 = rw rem (omega (arith, h_more i, one.2, bit-lt b i)) in
      let here : bit c.block ((512 * n + i) % 512) ≡ 0 = rw rem (omega (arith, h_more i, one.2, bit-lt b i)) in
      (512 * n + i, Ranks.block_bit-at n b (512 * n + i) div ∙ there, Ranks.row_bit-found 0 cells n (512 * n + i) c up at' is div ∙ here)

  pub joined_none : size more ≡ 0 → (t : ℕ) → block_bit n b t ≤ row_bit cells t
  joined_none h t = elim (cases_eq (t / 512) n) [
    | inl same ↦ omega (arith, Ranks.block_bit-at n b t same, Ranks.row_bit-found 0 cells n t c up at' is same, size_none more h (t % 512), h_more (t % 512))
    | inr other ↦ omega (arith, Ranks.block_bit-other n b t other)
  ]

  pub joined_ascending : AreAscending 0 (slice_set cells r (record { number = n; block = joined }))
  joined_ascending = Ranks.ascending-set 0 cells r c (record { number = n; block = joined }) up at (sym is)

  pub found_bits : (t : ℕ) → t / 512 ≡ n → bit c.block (t % 512) ≡ row_bit cells t
  found_bits t same = sym (Ranks.row_bit-found 0 cells n t c up at' is same)

-- a block is put in, whose number the row does not have
module _ (cells : List Cell) (n r : ℕ) (b : Block) (up : AreAscending 0 cells) (e : r ≡ rank_of cells n) (small : n < 8388608) (absent : (d : Cell) → slice_get cells r ≡ Some d → d.number ≢ n) where
  absent' : (d : Cell) → slice_get cells (rank_of cells n) ≡ Some d → d.number ≢ n
  absent' d at = absent d (ap (slice_get cells) e ∙ at)

  pub put_bits : (t : ℕ) → row_bit (insert cells r (record { number = n; block = b })) t ≡ max (row_bit cells t) (block_bit n b t)
  put_bits t = Ranks.row_bit-insert cells r t (record { number = n; block = b }) (omega (arith, Ranks.rank-le cells n))

  pub put_size : row_size (insert cells r (record { number = n; block = b })) ≡ row_size cells + size b
  put_size = Ranks.row_size-insert cells r (record { number = n; block = b }) (omega (arith, Ranks.rank-le cells n))

  pub put_some : 0 < size b → (t : ℕ) × (block_bit n b t ≡ 1) × (row_bit cells t ≡ 0)
  put_some h =
      let one = size_some b h in
      let i : ℕ = one.0 in
      let div = place_div n i one.1 in
      let rem = place_mod n i one.1 in
      (512 * n + i, Ranks.block_bit-at n b (512 * n + i) div ∙ rw rem one.2, Ranks.row_bit-absent 0 cells n (512 * n + i) up div absent')

  pub put_none : size b ≡ 0 → (t : ℕ) → block_bit n b t ≤ row_bit cells t
  put_none h t = elim (cases_eq (t / 512) n) [
    | inl same ↦ omega (arith, Ranks.block_bit-at n b t same, size_none b h (t % 512))
    | inr other ↦ omega (arith, Ranks.block_bit-other n b t other)
  ]

  put_ascending : AreAscending 0 (insert cells r (record { number = n; block = b }))
  put_ascending = subst (λ k. AreAscending 0 (insert cells k (record { number = n; block = b }))) (sym e) (Ranks.ascending-insert 0 cells (record { number = n; block = b }) up (omega arith) small absent')

  pub either_ascending : (ok : Bool) (new : List Cell) → new ≡ cond ok (insert cells r (record { number = n; block = b })) cells → AreAscending 0 new
  either_ascending true new is = rw is put_ascending
  either_ascending false new is = rw is up

  pub absent_bits : (t : ℕ) → t / 512 ≡ n → row_bit cells t ≡ 0
  absent_bits t same = Ranks.row_bit-absent 0 cells n t up same absent'

pub not_there : (cells : List Cell) (n r : ℕ) (x : Cell) → slice_get cells r ≡ Some x → x.number ≢ n → (d : Cell) → slice_get cells r ≡ Some d → d.number ≢ n
not_there cells n r x at ne d at' is = let same : d ≡ x = (let q = at in let q' = at' in cc) in ne (ap (λ (y : Cell). y.number) (sym same) ∙ is)

pub past_end : (cells : List Cell) (n r : ℕ) → length cells ≤ r → (d : Cell) → slice_get cells r ≡ Some d → d.number ≢ n
past_end cells n r le d at is = absurd (omega (arith, slice_get_within cells r d at))

pub drop_some : (cells : List Cell) (k : ℕ) (c : Cell) → slice_get cells k ≡ Some c → drop k cells ≡ c ∷ drop (k + 1) cells
drop_some cells k c at = rw add-one (go cells k c at)
  where
    go : (xs : List Cell) (j : ℕ) (x : Cell) → slice_get xs j ≡ Some x → drop j xs ≡ x ∷ drop (suc j) xs
    go [] j x a = absurd (let e = a in cc)
    go (y ∷ xs) zero x a = ap (λ z. z ∷ xs) (let e : y ≡ x = (let q = a in cc) in e)
    go (y ∷ xs) (suc j) x a = go xs j x a

weaker : (a b : ℕ) (cells : List Cell) → a ≤ b → AreAscending b cells → AreAscending a cells
weaker a b [] h up = omega arith
weaker a b (c ∷ cells) h up = (omega (arith, up.0), up.1)

-- the first cell from a place on, of which only the bits from `low` on count
module _ (start low : ℕ) (c : Cell) (rest : List Cell) (up : AreAscending (start / 512) (c ∷ rest)) (same : c.number ≡ start / 512 → low ≡ start % 512) (other : c.number ≢ start / 512 → low ≡ 0) where
  here : (t i : ℕ) → start ≤ t → t / 512 ≡ c.number → low ≤ t % 512
  here t i le e = elim (cases_eq c.number (start / 512)) [
    | inl eq ↦ let l = same eq in omega arith
    | inr ne ↦ let l = other ne in omega arith
  ]

  pub skip : ((k : ℕ) → low ≤ k → bit c.block k ≡ 0) → (t : ℕ) → start ≤ t → row_bit (c ∷ rest) t ≡ row_bit rest t
  unfolding row_bit
  skip none t le = elim (cases_eq (t / 512) c.number) [
    | inl e ↦ omega (arith, Ranks.block_bit-at c.number c.block t e, none (t % 512) (here t 0 le e))
    | inr ne ↦ omega (arith, Ranks.block_bit-other c.number c.block t ne)
  ]

  pub rest_ascending : AreAscending (start / 512) rest
  rest_ascending = weaker (start / 512) (c.number + 1) rest (let l = up.0 in omega arith) up.1

  pub first : (i : ℕ) → low ≤ i → i < 512 → bit c.block i ≡ 1 → ((k : ℕ) → low ≤ k → k < i → bit c.block k ≡ 0) →
      (start ≤ c.number * 512 + i) × (row_bit (c ∷ rest) (c.number * 512 + i) ≡ 1) × ((t : ℕ) → start ≤ t → t < c.number * 512 + i → row_bit (c ∷ rest) t ≡ 0)
  unfolding row_bit
  first i le lt one none = (from, at, before)
    where
      from : start ≤ c.number * 512 + i
      from = elim (cases_eq c.number (start / 512)) [
        | inl eq ↦ let l = same eq in omega arith
        | inr ne ↦ let l = up.0 in omega arith
      ]

      at : row_bit (c ∷ rest) (c.number * 512 + i) ≡ 1
      at =
          let div : (c.number * 512 + i) / 512 ≡ c.number = omega arith in
          let rem : (c.number * 512 + i) % 512 ≡ i = omega arith in
          let bit' : bit c.block ((c.number * 512 + i) % 512) ≡ 1 = rw rem one in
          omega (arith, Ranks.block_bit-at c.number c.block (c.number * 512 + i) div, Ranks.row_bit-lt rest (c.number * 512 + i))

      before : (t : ℕ) → start ≤ t → t < c.number * 512 + i → row_bit (c ∷ rest) t ≡ 0
      before t le' lt' = elim (cases_eq (t / 512) c.number) [
        | inl e ↦ omega (arith, Ranks.block_bit-at c.number c.block t e, none (t % 512) (here t 0 le' e) (omega arith), Ranks.row_bit-low (c.number + 1) rest t up.1 (omega arith))
        | inr ne ↦ omega (arith, Ranks.block_bit-other c.number c.block t ne, Ranks.row_bit-low (c.number + 1) rest t up.1 (omega arith))
      ]

-- what of a block a row lacks
module _ (cells : List Cell) (n : ℕ) (b there more : Block) (h_there : (t : ℕ) → t / 512 ≡ n → bit there (t % 512) ≡ row_bit cells t) (h_more : (i : ℕ) → bit more i ≡ bit b i - bit there i) where
  pub lacking_bits : (t : ℕ) → block_bit n more t ≡ block_bit n b t - row_bit cells t
  lacking_bits t = elim (cases_eq (t / 512) n) [
    | inl same ↦ omega (arith, Ranks.block_bit-at n more t same, Ranks.block_bit-at n b t same, h_there t same, h_more (t % 512))
    | inr other ↦ omega (arith, Ranks.block_bit-other n more t other, Ranks.block_bit-other n b t other)
  ]

  pub lacking_none : ((i : ℕ) → bit more i ≡ 0) → (t : ℕ) → block_bit n b t ≤ row_bit cells t
  lacking_none none t = elim (cases_eq (t / 512) n) [
    | inl same ↦ omega (arith, lacking_bits t, Ranks.block_bit-at n more t same, none (t % 512))
    | inr other ↦ omega (arith, Ranks.block_bit-other n b t other)
  ]

pub row_bit-take : (cells : List Cell) (k t : ℕ) → row_bit (take k cells) t ≤ row_bit cells t
unfolding row_bit
row_bit-take [] zero t = omega arith
row_bit-take [] (suc k) t = omega arith
row_bit-take (c ∷ cells) zero t = omega arith
row_bit-take (c ∷ cells) (suc k) t = omega (arith, row_bit-take cells k t)

pub take_next : (cells : List Cell) (k : ℕ) (c : Cell) → slice_get cells k ≡ Some c → take (k + 1) cells ≡ take k cells ++ c ∷ []
take_next cells k c at = rw add-one (go cells k c at)
  where
    go : (xs : List Cell) (j : ℕ) (x : Cell) → slice_get xs j ≡ Some x → take (suc j) xs ≡ take j xs ++ x ∷ []
    go [] j x a = absurd (let e = a in cc)
    go (y ∷ xs) zero x a = ap (λ z. z ∷ []) (let e : y ≡ x = (let q = a in cc) in e)
    go (y ∷ xs) (suc j) x a = ap (λ zs. y ∷ zs) (go xs j x a)

-- how two rows stand after a part of a third was given to them
pub record Gives (old new fresh fresh' given : List Cell) (added : ℕ) : Type 0 where
  pub targets : (t : ℕ) → row_bit new t ≡ max (row_bit old t) (row_bit given t)
  pub news : (t : ℕ) → row_bit fresh' t ≡ max (row_bit fresh t) (row_bit given t - row_bit old t)
  pub count : row_size new ≡ row_size old + added
  pub some : 0 < added → (t : ℕ) × (row_bit given t ≡ 1) × (row_bit old t ≡ 0)
  pub none : added ≡ 0 → (t : ℕ) → row_bit given t ≤ row_bit old t

pub gives_none : (old fresh : List Cell) → Gives old old fresh fresh [] 0
unfolding row_bit
gives_none old fresh = record {
  targets = λ t. omega arith;
  news = λ t. omega arith;
  count = omega arith;
  some = λ h. absurd (omega arith);
  none = λ h t. omega arith;
}

-- one block more
pub gives_on : (old mid new fresh fresh' fresh'' given : List Cell) (c : Cell) (added more : ℕ) → Gives old mid fresh fresh' given added →
    ((t : ℕ) → row_bit new t ≡ max (row_bit mid t) (block_bit c.number c.block t)) →
    ((t : ℕ) → row_bit fresh'' t ≡ max (row_bit fresh' t) (block_bit c.number c.block t - row_bit mid t)) →
    row_size new ≡ row_size mid + more →
    (0 < more → (t : ℕ) × (block_bit c.number c.block t ≡ 1) × (row_bit mid t ≡ 0)) →
    (more ≡ 0 → (t : ℕ) → block_bit c.number c.block t ≤ row_bit mid t) →
    Gives old new fresh fresh'' (given ++ c ∷ []) (added + more)
gives_on old mid new fresh fresh' fresh'' given c added more g targets news count some none = record {
  targets = λ t. omega (arith, Ranks.row_bit-append given c t, g.targets t, targets t);
  news = λ t. omega (arith, Ranks.row_bit-append given c t, g.news t, g.targets t, news t, Ranks.row_bit-lt given t, Ranks.row_bit-lt old t, Ranks.block_bit-lt c.number c.block t);
  count = omega (arith, g.count, count);
  some = λ h. elim (cases_lt 0 added) [
    | inl before ↦ let s = g.some before in (s.0, omega (arith, Ranks.row_bit-append given c s.0, s.1, Ranks.block_bit-lt c.number c.block s.0), s.2)
    | inr now ↦ let s = some (omega arith) in (s.0, omega (arith, Ranks.row_bit-append given c s.0, s.1, Ranks.row_bit-lt given s.0), omega (arith, g.targets s.0, s.2))
  ];
  none = λ h t. omega (arith, Ranks.row_bit-append given c t, g.none (omega arith) t, none (omega arith) t, g.targets t);
}
