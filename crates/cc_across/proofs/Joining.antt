-- What is gained by a pair that is joined.
use Rattle.std.proofs.Common.{ℕ, ◌≡◌, Bool, true, false, ◌&&◌, if◌then◌else◌, List, [], ◌∷◌, ◌++◌, Option, Some, None, refl, sym, ◌∙◌, arith}
use Rattle.std.specs.Prelude.{nat_lt}
use Rattle.std.proofs.lemmas.Bool.{ltb-true, lt-ltb, and_parts, and_from, false≢true}
use Rattle.cc_rows.specs.Gains.{Gains}
use Rattle.cc_rows.proofs.Gained.{gains_none, gains_push}
use Rattle.cc_across.specs.Pairs.{Pair, joined, IsJoin}
use Rattle.cc_across.proofs.Tabling.{pair, pair_is}

pub some_is : (a b : ℕ) → Some a ≡ Some b → a ≡ b
some_is a b e = cc

joined_if : (n p q : ℕ) (b : Bool) (pairs : List Pair) → (nat_lt p n && nat_lt q n) ≡ b → Gains pairs (if b then pairs ++ (p, q) ∷ [] else pairs) (IsJoin n (Some p) (Some q))
joined_if n p q true pairs e =
    let h = and_parts (nat_lt p n) (nat_lt q n) e in
    gains_push pairs (pair p q) (IsJoin n (Some p) (Some q)) (refl, refl, ltb-true p n h.0, ltb-true q n h.1)
    (λ x j. sym (pair_is x p q (some_is x.0 p (sym j.0)) (some_is x.1 q (sym j.1))))
joined_if n p q false pairs e = gains_none pairs (IsJoin n (Some p) (Some q)) (λ x j.
    let same_p : p ≡ x.0 = some_is p x.0 j.0 in
    let same_q : q ≡ x.1 = some_is q x.1 j.1 in
    false≢true (sym e ∙ and_from (nat_lt p n) (nat_lt q n) (lt-ltb p n (omega (arith, j.2, same_p))) (lt-ltb q n (omega (arith, j.3, same_q)))))

pub joined_gains : (n : ℕ) (from to : Option ℕ) (pairs : List Pair) → Gains pairs (joined n from to pairs) (IsJoin n from to)
joined_gains n (Some p) (Some q) pairs = joined_if n p q (nat_lt p n && nat_lt q n) pairs refl
joined_gains n (Some p) None pairs = gains_none pairs (IsJoin n (Some p) None) (λ x j. let e = j.1 in cc)
joined_gains n None to pairs = gains_none pairs (IsJoin n None to) (λ x j. let e = j.0 in cc)
