-- The least part of an lvalue from a number on, by the table.
use Rattle.std.proofs.Common.{◌≡◌, ℕ, ◌<◌, ◌≤◌, inl, inr, Bool, true, false, ◌&&◌, nat_lt, List, Option, Some, None, refl, ap, ◌∙◌, subst, arith}
use Rattle.std.proofs.lemmas.Bool.{cases_lt, ltb-true, lt-ltb}
use Rattle.cc_blocks.specs.declared.row.Row.{Row}
use Rattle.cc_blocks.specs.Pairs.{pair_bit, has_pair}
use Rattle.cc_blocks.proofs.Places.{pair_told, told_pair}
use Rattle.cc_facts.specs.declared.facts.Facts.{Facts}
use Rattle.cc_facts.specs.Told.{place_holder, has_part}
use Rattle.cc_facts.specs.Order.{IsNextIn}
use Rattle.cc_uses.specs.Accessing.{IsNextPart}

never : (b : Bool) → (b ≡ true → ⊥) → b ≡ false
never true h = absurd (h refl)
never false h = refl

both_if : (a b : Bool) → a ≡ true → b ≡ true → (a && b) ≡ true
both_if a b is and = ap (λ x. x && b) is ∙ and

none_if : (a b : Bool) → (a ≡ true → b ≡ false) → (a && b) ≡ false
none_if true b h = h refl
none_if false b h = refl

no_pair : (rows : List Row) (h t : ℕ) → pair_bit rows h t ≡ 0 → has_pair rows h t ≡ false
no_pair rows h t is = never (has_pair rows h t) (λ has. let one : pair_bit rows h t ≡ 1 = pair_told rows h t has in omega arith)

-- the table has the part, or hasn't
there : (F : Facts) (l q : ℕ) → l < F.occurrences → pair_bit F.rows.rows.items (place_holder F l) q ≡ 1 → has_part F l q ≡ true
there F l q lt is = both_if (nat_lt l F.occurrences) (has_pair F.rows.rows.items (place_holder F l) q)
    (lt-ltb l F.occurrences lt) (told_pair F.rows.rows.items (place_holder F l) q is)

absent : (F : Facts) (l q : ℕ) → (l < F.occurrences → pair_bit F.rows.rows.items (place_holder F l) q ≡ 0) → has_part F l q ≡ false
absent F l q zero_bit = none_if (nat_lt l F.occurrences) (has_pair F.rows.rows.items (place_holder F l) q)
    (λ lt. no_pair F.rows.rows.items (place_holder F l) q (zero_bit (ltb-true l F.occurrences lt)))

-- what the facts answer
abbrev pub Inside : Facts → ℕ → ℕ → Option ℕ → Type 0
Inside F l from r = l < F.occurrences → IsNextIn F.rows.rows.items (place_holder F l) from r

abbrev pub Outside : Facts → ℕ → Option ℕ → Type 0
Outside F l r = F.occurrences ≤ l → r ≡ None

pub found : (F : Facts) (count l from q : ℕ) (r : Option ℕ) → r ≡ Some q → Inside F l from r → Outside F l r → q < count → IsNextPart F count l from (Some q)
found F count l from q (Some p) is inside outside lt = elim (cases_lt l F.occurrences) [
  | inl low ↦ let same : p ≡ q = cc in let next = inside low in
      subst (λ n. IsNextPart F count l from (Some n)) same
      (next.0, omega arith, there F l p low next.1, λ u le below. absent F l u (λ w. next.2 u le below))
  | inr high ↦ absurd (let e = outside high in cc)
]
found F count l from q None is inside outside lt = absurd (let e = is in cc)

pub past : (F : Facts) (count l from q : ℕ) (r : Option ℕ) → r ≡ Some q → Inside F l from r → count ≤ q → IsNextPart F count l from None
past F count l from q (Some p) is inside le =
    let same : p ≡ q = cc in
    λ u low high. absent F l u (λ w. (inside w).2 u low (omega arith))
past F count l from q None is inside le = absurd (let e = is in cc)

pub none : (F : Facts) (count l from : ℕ) (r : Option ℕ) → r ≡ None → Inside F l from r → IsNextPart F count l from None
none F count l from (Some p) is inside = absurd (let e = is in cc)
none F count l from None is inside = λ u low high. absent F l u (λ w. inside w u low)
