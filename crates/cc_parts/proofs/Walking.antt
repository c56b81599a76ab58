-- Going from one part to the next, those that each is made of left out.
use Rattle.std.proofs.Common.{◌≡◌, ℕ, zero, suc, ◌+◌, ◌-◌, ◌<◌, ◌≤◌, Bool, true, false, ◌&&◌, nat_lt, nat_le, if◌then◌else◌, List, Option, Some, None, refl, sym, ap, ◌∙◌, arith}
use Rattle.std.proofs.lemmas.Bool.{lt-ltb, le-ltb, le-leb, lt-leb}
use Rattle.cc_parts.specs.declared.part.Part.{Part}
use Rattle.cc_parts.specs.PartTables.{walk, size_at}

chosen : {A : Type 0} (b : Bool) (x y : A) → b ≡ true → (if b then x else y) ≡ x
chosen b x y e = ap (λ c. if c then x else y) e

passed : {A : Type 0} (b : Bool) (x y : A) → b ≡ false → (if b then x else y) ≡ y
passed b x y e = ap (λ c. if c then x else y) e

pub walk-end : (parts : List Part) (last q k : ℕ) → k ≡ 0 → q < last → walk parts last q k ≡ Some q
walk-end parts last q zero e lt = chosen (nat_lt q last) (Some q) None (lt-ltb q last lt)
walk-end parts last q (suc k) e lt = absurd (omega arith)

pub walk-past : (parts : List Part) (last q k : ℕ) → last ≤ q → walk parts last q k ≡ None
walk-past parts last q zero le = passed (nat_lt q last) (Some q) None (le-ltb q last le)
walk-past parts last q (suc k) le = passed (nat_lt q last && nat_le (size_at parts q) (last - q)) _ None (ap (λ b. b && nat_le (size_at parts q) (last - q)) (le-ltb q last le))

pub walk-big : (parts : List Part) (last q k : ℕ) → 0 < k → q < last → last - q < size_at parts q → walk parts last q k ≡ None
walk-big parts last q zero pos lt big = absurd (omega arith)
walk-big parts last q (suc k) pos lt big = passed (nat_lt q last && nat_le (size_at parts q) (last - q)) _ None
    (ap (λ b. b && nat_le (size_at parts q) (last - q)) (lt-ltb q last lt) ∙ lt-leb (size_at parts q) (last - q) big)

pub walk-on : (parts : List Part) (last q k j : ℕ) → k ≡ j + 1 → q < last → size_at parts q ≤ last - q → walk parts last q k ≡ walk parts last (q + size_at parts q) j
walk-on parts last q zero j e lt le = absurd (omega arith)
walk-on parts last q (suc k) j e lt le =
    let same : k ≡ j = omega arith in
    chosen (nat_lt q last && nat_le (size_at parts q) (last - q)) (walk parts last (q + size_at parts q) k) None
    (ap (λ b. b && nat_le (size_at parts q) (last - q)) (lt-ltb q last lt) ∙ le-leb (size_at parts q) (last - q) le)
    ∙ ap (walk parts last (q + size_at parts q)) same
