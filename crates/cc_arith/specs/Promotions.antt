-- Which kind an operator works in: the integer promotions and the usual arithmetic conversions (C17 6.3.1.1, 6.3.1.8).
use Rattle.std.specs.Prelude.{ℕ, ◌≡◌, nat_lt, nat_le, if◌then◌else◌}
use Rattle.cc_arith.specs.declared.kind.IntKind.{IntKind}
use Rattle.cc_arith.specs.declared.kind.IntKind.TheVariants.{Bool as BoolKind, Char, SChar, UChar, Short, UShort, Int, UInt, Long, ULong, LLong, ULLong}
use Rattle.cc_arith.specs.Kinds.{is_signed, represents_all}

-- the conversion rank (6.3.1.1, paragraph 1): an unsigned kind has the rank of its signed kind, `char` that of `signed char`
abbrev pub rank_of : IntKind → ℕ
rank_of BoolKind = 0
rank_of Char = 1
rank_of SChar = 1
rank_of UChar = 1
rank_of Short = 2
rank_of UShort = 2
rank_of Int = 3
rank_of UInt = 3
rank_of Long = 4
rank_of ULong = 4
rank_of LLong = 5
rank_of ULLong = 5

-- the integer promotions (6.3.1.1, paragraph 2): a kind of lesser rank becomes `int` if that can represent all its values, and else `unsigned int`
abbrev pub promoted : IntKind → IntKind
promoted k =
    if nat_lt (rank_of k) (rank_of Int) then (if represents_all Int k then Int else UInt)
    else k

-- a kind that the promotions leave
abbrev pub IsPromoted : IntKind → Type 0
IsPromoted k = promoted k ≡ k

-- the unsigned kind that corresponds to a signed one (6.2.5)
abbrev pub unsigned_of : IntKind → IntKind
unsigned_of Char = UChar
unsigned_of SChar = UChar
unsigned_of Short = UShort
unsigned_of Int = UInt
unsigned_of Long = ULong
unsigned_of LLong = ULLong
unsigned_of k = k

-- the one of greater rank
abbrev pub greater_of : IntKind → IntKind → IntKind
greater_of p q = if nat_lt (rank_of p) (rank_of q) then q else p

-- the common kind of a signed kind s and an unsigned kind u
abbrev pub common_of_mixed : IntKind → IntKind → IntKind
common_of_mixed s u =
    if nat_le (rank_of s) (rank_of u) then u
    else if represents_all s u then s
    else unsigned_of s

-- the common kind of two promoted kinds (6.3.1.8, its five cases)
abbrev pub common_of_promoted : IntKind → IntKind → IntKind
common_of_promoted p q =
    if is_signed p
    then if is_signed q then greater_of p q else common_of_mixed p q
    else if is_signed q then common_of_mixed q p
    else greater_of p q

-- the common kind of any two kinds
abbrev pub common_of : IntKind → IntKind → IntKind
common_of a b = common_of_promoted (promoted a) (promoted b)
