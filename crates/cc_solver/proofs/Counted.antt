-- How many pairs the first holders have.
use Rattle.std.proofs.Common.{◌≡◌, ◌≢◌, ℕ, zero, suc, ◌+◌, ◌<◌, ◌≤◌, inl, inr, List, [], ◌∷◌, take, drop, refl, sym, ap, ◌∙◌, arith}
use Rattle.std.proofs.lemmas.Bool.{cases_lt}
use Rattle.cc_blocks.specs.declared.row.Row.{Row}
use Rattle.cc_blocks.specs.Pairs.{pair_bit, pair_count}
use Rattle.cc_blocks.proofs.Counts.{count_grows}
use Rattle.cc_solver.specs.declared.state.Limits.{Limits}
use Rattle.cc_solver.specs.Least.{HasMore}

in_first : (rows : List Row) (k h t : ℕ) → h < k → pair_bit (take k rows) h t ≡ pair_bit rows h t
unfolding pair_bit
in_first rows zero h t lt = absurd (omega arith)
in_first [] (suc k) h t lt = refl
in_first (r ∷ rows) (suc k) zero t lt = refl
in_first (r ∷ rows) (suc k) (suc h) t lt = in_first rows k h t (omega arith)

past_first : (rows : List Row) (k h t : ℕ) → k ≤ h → pair_bit (take k rows) h t ≡ 0
unfolding pair_bit
past_first rows zero h t le = refl
past_first [] (suc k) h t le = refl
past_first (r ∷ rows) (suc k) zero t le = absurd (omega arith)
past_first (r ∷ rows) (suc k) (suc h) t le = past_first rows k h t (omega arith)

in_rest : (rows : List Row) (k h n t : ℕ) → n ≡ k + h → pair_bit (drop k rows) h t ≡ pair_bit rows n t
unfolding pair_bit
in_rest rows zero h n t e = ap (λ x. pair_bit rows x t) (let f : h ≡ n = omega arith in f)
in_rest [] (suc k) h n t e = refl
in_rest (r ∷ rows) (suc k) h zero t e = absurd (omega arith)
in_rest (r ∷ rows) (suc k) h (suc n) t e = in_rest rows k h n t (omega arith)

split : (rows : List Row) (k : ℕ) → pair_count (take k rows) + pair_count (drop k rows) ≡ pair_count rows
unfolding pair_count
split rows zero = omega arith
split [] (suc k) = refl
split (r ∷ rows) (suc k) = omega (arith, split rows k)

same_count : (a b : List Row) → ((h t : ℕ) → pair_bit a h t ≡ pair_bit b h t) → pair_count a ≡ pair_count b
same_count a b e = omega (arith, count_grows a b (λ h t. omega (arith, e h t)), count_grows b a (λ h t. omega (arith, e h t)))

-- a holder that counts got some
pub told_in : (rows rows' : List Row) (k to added : ℕ) → to < k → ((h t : ℕ) → h ≢ to → pair_bit rows' h t ≡ pair_bit rows h t) → pair_count rows' ≡ pair_count rows + added → pair_count (take k rows') ≡ pair_count (take k rows) + added
told_in rows rows' k to added lt others count =
    let rest : pair_count (drop k rows') ≡ pair_count (drop k rows) = same_count (drop k rows') (drop k rows) (λ h t. in_rest rows' k h (k + h) t refl ∙ others (k + h) t (λ e. omega arith) ∙ sym (in_rest rows k h (k + h) t refl)) in
    omega (arith, rest, split rows k, split rows' k, count)

-- a holder that doesn't count got some
pub told_out : (rows rows' : List Row) (k to : ℕ) → k ≤ to → ((h t : ℕ) → h ≢ to → pair_bit rows' h t ≡ pair_bit rows h t) → pair_count (take k rows') ≡ pair_count (take k rows)
told_out rows rows' k to le others = same_count (take k rows') (take k rows) (λ h t. elim (cases_lt h k) [
  | inl lt ↦ in_first rows' k h t lt ∙ others h t (λ e. omega arith) ∙ sym (in_first rows k h t lt)
  | inr ge ↦ past_first rows' k h t ge ∙ sym (past_first rows k h t ge)
])

-- a pair of the first holders
pub is_first : (rows : List Row) (k h t : ℕ) → pair_bit (take k rows) h t ≡ 1 → (h < k) × (pair_bit rows h t ≡ 1)
is_first rows k h t is = elim (cases_lt h k) [
  | inl lt ↦ (lt, sym (in_first rows k h t lt) ∙ is)
  | inr ge ↦ absurd (let z = past_first rows k h t ge in omega arith)
]

pub first_is : (rows : List Row) (k h t : ℕ) → h < k → pair_bit rows h t ≡ 1 → pair_bit (take k rows) h t ≡ 1
first_is rows k h t lt is = in_first rows k h t lt ∙ is

-- a table with too many pairs of holders that count
pub has_more : (limits : Limits) (rows : List Row) (P : ℕ → ℕ → Type 0) → limits.most < pair_count (take limits.counters rows) → ((h t : ℕ) → pair_bit rows h t ≡ 1 → P h t) → HasMore limits P
has_more limits rows P many all = (take limits.counters rows, many, λ h t is. let x = is_first rows limits.counters h t is in (x.0, all h t x.1))

-- where nobody has a pair
pub none_told : (rows : List Row) (k : ℕ) → ((h t : ℕ) → pair_bit rows h t ≡ 0) → pair_count rows ≡ 0 → pair_count (take k rows) ≡ 0
none_told rows k none count = omega (arith, count, split rows k)
