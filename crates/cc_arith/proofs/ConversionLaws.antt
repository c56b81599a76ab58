-- The laws of conversion: the result is a value of the kind, equals what was converted modulo 2 ^ width, and no other value does.
use Rattle.std.proofs.Common.{◌≡◌, zero, suc, ◌^◌, ◌<◌, ℤ, pos, negsuc, ◌+ℤ◌, ◌-ℤ◌, ◌*ℤ◌, sym, ap, ◌∙◌, refl, arith, lit<}
use Rattle.std.specs.Int.{int_div_euclid}
use Rattle.std.proofs.lemmas.Int.{ints}
use Rattle.cc_arith.specs.declared.kind.IntKind.{IntKind}
use Rattle.cc_arith.specs.declared.kind.IntKind.TheVariants.{Bool as BoolKind}
use Rattle.cc_arith.specs.Kinds.{width_of, least, IsInRange}
use Rattle.cc_arith.specs.Promotions.{IsPromoted}
use Rattle.cc_arith.specs.Conversions.{reduced, converted, IsSameModulo}
use Rattle.cc_arith.proofs.Remainders.{rem_bounds, rem_same, euclid, rem_of_same}

-- `_Bool` is not promoted
pub promoted_not_bool : (k : IntKind) → IsPromoted k → ¬ (k ≡ BoolKind)
promoted_not_bool BoolKind e f = cc
promoted_not_bool _ e f = cc

-- a kind has at least one value
pub some_values : (k : IntKind) → 0 < 2 ^ width_of k
some_values BoolKind = lit< tt
some_values _ = lit< tt

pub converted_within : (k : IntKind) (v : ℤ) → IsInRange k (converted k v)
converted_within BoolKind (pos zero) = (omega (arith, ints), omega (arith, ints))
converted_within BoolKind (pos (suc n)) = (omega (arith, ints), omega (arith, ints))
converted_within BoolKind (negsuc n) = (omega (arith, ints), omega (arith, ints))
converted_within k v =
    let r = rem_bounds (v -ℤ least k) (2 ^ width_of k) (lit< tt) in
    (omega (arith, ints, r), omega (arith, ints, r))

pub converted_same : (k : IntKind) (v : ℤ) → IsInRange k v → converted k v ≡ v
converted_same BoolKind (pos zero) h = refl
converted_same BoolKind (pos (suc n)) h = let e : pos 1 ≡ pos (suc n) = omega (arith, ints) in e
converted_same BoolKind (negsuc n) h = absurd (omega (arith, ints))
converted_same k v h =
    omega (arith, ints, rem_same (v -ℤ least k) (2 ^ width_of k) (omega (arith, ints)) (omega (arith, ints)))

reduced_modulo : (k : IntKind) (v : ℤ) → 0 < 2 ^ width_of k → IsSameModulo (width_of k) v (reduced k v)
reduced_modulo k v some =
    (int_div_euclid (v -ℤ least k) (pos (2 ^ width_of k)), omega (arith, ints, euclid (v -ℤ least k) (2 ^ width_of k) some))

pub converted_modulo : (k : IntKind) (v : ℤ) → ¬ (k ≡ BoolKind) → IsSameModulo (width_of k) v (converted k v)
converted_modulo BoolKind v other = absurd (other refl)
converted_modulo k v other = reduced_modulo k v (lit< tt)

-- numbers that are equal modulo 2 ^ width are converted to one value
pub converted_of_same : (k : IntKind) (v u : ℤ) → ¬ (k ≡ BoolKind) → IsSameModulo (width_of k) v u → converted k v ≡ converted k u
converted_of_same BoolKind v u other m = absurd (other refl)
converted_of_same k v u other m =
    let e : v -ℤ least k ≡ u -ℤ least k +ℤ m.0 *ℤ pos (2 ^ width_of k) = omega (arith, ints, m.1) in
    ap (λ z. least k +ℤ z) (rem_of_same (v -ℤ least k) (u -ℤ least k) m.0 (2 ^ width_of k) (lit< tt) e)

pub converted_unique : (k : IntKind) (v r : ℤ) → ¬ (k ≡ BoolKind) → IsInRange k r → IsSameModulo (width_of k) v r → r ≡ converted k v
converted_unique k v r other h m = sym (converted_of_same k v r other m ∙ converted_same k r h)
