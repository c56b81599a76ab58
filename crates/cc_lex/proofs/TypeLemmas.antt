-- Which types a value fits.
use Rattle.std.proofs.Common.{◌≡◌, ℕ, ◌≤◌, ◌<◌, ◌^◌, false, leb, List, [], ◌∷◌, ◌++◌, None, pos, refl, sym, ◌∙◌, arith, inl, inr, ◌&&◌}
use Rattle.std.specs.Option.{option_or}
use Rattle.std.proofs.lemmas.Bool.{cases_Bool, leb-true}
use Rattle.std.proofs.lemmas.Bool.Decides.{nat_tests}
use Rattle.std.proofs.lemmas.List.Folds.{find-append}
use Rattle.cc_arith.specs.declared.kind.IntKind.{IntKind}
use Rattle.cc_arith.specs.declared.kind.IntKind.TheVariants as kind
use Rattle.cc_arith.specs.Kinds.{is_in_range}
use Rattle.cc_lex.specs.Numbers.{first_fit}

-- the greatest value of the kind, as a number
abbrev pub top : IntKind → ℕ
top kind.Bool = 1
top kind.Char = 127
top kind.SChar = 127
top kind.UChar = 255
top kind.Short = 32767
top kind.UShort = 65535
top kind.Int = 2147483647
top kind.UInt = 4294967295
top kind.Long = 9223372036854775807
top kind.ULong = 18446744073709551615
top kind.LLong = 9223372036854775807
top kind.ULLong = 18446744073709551615

no_sign : (n m : ℕ) → leb n m ≡ (leb 0 n && leb n m)
no_sign n m = grind (arith, nat_tests)

pub fits_top : (k : IntKind) (n : ℕ) → leb n (top k) ≡ is_in_range k (pos n)
fits_top kind.Bool n = no_sign n 1
fits_top kind.Char n = refl
fits_top kind.SChar n = refl
fits_top kind.UChar n = no_sign n 255
fits_top kind.Short n = refl
fits_top kind.UShort n = no_sign n 65535
fits_top kind.Int n = refl
fits_top kind.UInt n = no_sign n 4294967295
fits_top kind.Long n = refl
fits_top kind.ULong n = no_sign n 18446744073709551615
fits_top kind.LLong n = refl
fits_top kind.ULLong n = no_sign n 18446744073709551615

top_small : (k : IntKind) → top k < 2 ^ 64
top_small kind.Bool = omega arith
top_small kind.Char = omega arith
top_small kind.SChar = omega arith
top_small kind.UChar = omega arith
top_small kind.Short = omega arith
top_small kind.UShort = omega arith
top_small kind.Int = omega arith
top_small kind.UInt = omega arith
top_small kind.Long = omega arith
top_small kind.ULong = omega arith
top_small kind.LLong = omega arith
top_small kind.ULLong = omega arith

too_large : (k : IntKind) (n : ℕ) → 2 ^ 64 ≤ n → is_in_range k (pos n) ≡ false
too_large k n h =
    let t = fits_top k n in
    elim (cases_Bool (leb n (top k))) [
      | inl l ↦ absurd (omega (arith, leb-true _ _ l, top_small k))
      | inr l ↦ sym t ∙ l
    ]

-- no type has a value from 2 ^ 64 up
pub none_fit : (n : ℕ) (ks : List IntKind) → 2 ^ 64 ≤ n → first_fit n ks ≡ None
none_fit n [] h = refl
none_fit n (k ∷ ks) h = rw (too_large k n h) (none_fit n ks h)

-- the first that fits of two lists
pub fit_or : (n : ℕ) (ks js : List IntKind) → first_fit n (ks ++ js) ≡ option_or (first_fit n ks) (first_fit n js)
fit_or n ks js = find-append (λ k. is_in_range k (pos n)) ks js
