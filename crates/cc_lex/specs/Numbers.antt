-- Integer constants (C17 6.4.4.1): their values and types, as functions of the spelling.
use Rattle.std.specs.Prelude.{ℕ, ◌+◌, ◌-◌, ◌*◌, pos, Bool, true, false, ◌&&◌, ◌||◌, ◌==◌, nat_le, if◌then◌else◌, List, [], ◌∷◌, ◌++◌, take, drop, Option, Some, None}
use Rattle.std.specs.List.{find}
use Rattle.cc_arith.specs.Kinds.{is_in_range}
use Rattle.cc_arith.specs.declared.kind.IntKind.{IntKind}
use Rattle.cc_arith.specs.declared.kind.IntKind.TheVariants.{Int, UInt, Long, ULong, LLong, ULLong}
use Rattle.cc_lex.specs.declared.number.Suffix.{Suffix}
use Rattle.cc_lex.specs.Bytes.{first, second, is_digit, is_octal_digit, is_hex_digit, count_front}

-- ---- Digits

abbrev pub is_digit_in : ℕ → ℕ → Bool
is_digit_in base b = if base == 16 then is_hex_digit b else if base == 8 then is_octal_digit b else is_digit b

abbrev pub digit_value : ℕ → ℕ
digit_value b = if is_digit b then b - 48 else if nat_le 97 b then b - 87 else b - 55

-- the value of n followed by the digits
abbrev pub value_from : ℕ → ℕ → List ℕ → ℕ
value_from base n [] = n
value_from base n (b ∷ z) = value_from base (base * n + digit_value b) z

-- ---- The parts of a spelling: prefix, digits, suffix

-- it begins with `0x` or `0X`
abbrev pub is_hex : List ℕ → Bool
is_hex w = first w == 48 && (second w == 120 || second w == 88)

-- 16, 8 for any other number that begins with 0, and else 10
abbrev pub base_of : List ℕ → ℕ
base_of w = if is_hex w then 16 else if first w == 48 then 8 else 10

abbrev pub behind_prefix : List ℕ → List ℕ
behind_prefix w = if is_hex w then drop 2 w else w

abbrev pub digit_count : List ℕ → ℕ
digit_count w = count_front (is_digit_in (base_of w)) (behind_prefix w)

abbrev pub digits_of : List ℕ → List ℕ
digits_of w = take (digit_count w) (behind_prefix w)

abbrev pub suffix_of : List ℕ → List ℕ
suffix_of w = drop (digit_count w) (behind_prefix w)

abbrev pub value_of : List ℕ → ℕ
value_of w = value_from (base_of w) 0 (digits_of w)

-- ---- Suffixes

-- `u` or `U`
abbrev pub is_u : ℕ → Bool
is_u b = b == 117 || b == 85

-- `l` or `L`
abbrev pub is_l : ℕ → Bool
is_l b = b == 108 || b == 76

-- `ll` or `LL`
abbrev pub is_ll : ℕ → ℕ → Bool
is_ll a b = is_l a && a == b

-- a suffix asks for an unsigned type or not, and has 0, 1 or 2 `l`
abbrev pub suffix_with : Bool → ℕ → Option Suffix
suffix_with is_unsigned longs = Some (record { is_unsigned = is_unsigned; longs = longs })

-- Nothing, or `u` and `l` or `ll` in either case and order: these are all the suffixes that there are.
abbrev pub suffix_meaning : List ℕ → Option Suffix
suffix_meaning [] = suffix_with false 0
suffix_meaning (a ∷ []) = if is_u a then suffix_with true 0 else if is_l a then suffix_with false 1 else None
suffix_meaning (a ∷ b ∷ []) =
    if (is_u a && is_l b) || (is_l a && is_u b) then suffix_with true 1 else if is_ll a b then suffix_with false 2 else None
suffix_meaning (a ∷ b ∷ c ∷ []) = if (is_u a && is_ll b c) || (is_ll a b && is_u c) then suffix_with true 2 else None
suffix_meaning (a ∷ b ∷ c ∷ d ∷ z) = None

-- ---- Types

-- the types of one rank that a constant may have: with `u` the unsigned one, else the signed one, and where the constant
-- isn't decimal the unsigned one after it
abbrev pub types_of_rank : Bool → Bool → IntKind → IntKind → List IntKind
types_of_rank is_unsigned is_decimal s u = if is_unsigned then u ∷ [] else if is_decimal then s ∷ [] else s ∷ u ∷ []

-- the list of 6.4.4.1, paragraph 5, for a suffix with this many `l`
abbrev pub types_for : Bool → Bool → ℕ → List IntKind
types_for is_unsigned is_decimal longs =
    (if longs == 0 then types_of_rank is_unsigned is_decimal Int UInt else [])
    ++ ((if nat_le longs 1 then types_of_rank is_unsigned is_decimal Long ULong else [])
    ++ types_of_rank is_unsigned is_decimal LLong ULLong)

-- the first type that fits
abbrev pub first_fit : ℕ → List IntKind → Option IntKind
first_fit n kinds = find (λ k. is_in_range k (pos n)) kinds

abbrev pub type_with : List ℕ → Option Suffix → Option IntKind
type_with w None = None
type_with w (Some s) = first_fit (value_of w) (types_for s.is_unsigned (base_of w == 10) s.longs)

abbrev pub type_of : List ℕ → Option IntKind
type_of w = type_with w (suffix_meaning (suffix_of w))

-- ---- Faults, by their places in the spelling and their rules

abbrev pub faults_with : List ℕ → Option Suffix → Option IntKind → List (ℕ × ℕ)
faults_with digits None kind = (0, 6) ∷ []
faults_with [] (Some s) kind = (0, 6) ∷ []
faults_with (b ∷ z) (Some s) None = (0, 7) ∷ []
faults_with (b ∷ z) (Some s) (Some k) = []

-- L6: it spells no integer constant. L7: it spells one that fits no type of its list.
unfoldable pub number_faults : List ℕ → List (ℕ × ℕ)
number_faults w = faults_with (digits_of w) (suffix_meaning (suffix_of w)) (type_of w)
