-- The kinds of undefined behaviour.
use Rattle.std.specs.Prelude.{ℕ}
use Rattle.cc_meaning.specs.declared.end.Undef.{Undef}
use Rattle.cc_meaning.specs.declared.end.Undef.TheVariants.{Overflow, ZeroDivisor, ShiftCount, ShiftNegative, NeverWritten, NullAccess, Ended, PastEnd, OutOfArray, OtherArray, ReadOnly, NoValue, NullCall, NullArithmetic}

-- a kind's number in the tables
abbrev pub number_of : Undef → ℕ
number_of Overflow = 1
number_of ZeroDivisor = 2
number_of ShiftCount = 3
number_of ShiftNegative = 4
number_of NeverWritten = 5
number_of NullAccess = 6
number_of Ended = 7
number_of PastEnd = 8
number_of OutOfArray = 9
number_of OtherArray = 10
number_of ReadOnly = 11
number_of NoValue = 12
number_of NullCall = 13
number_of NullArithmetic = 14
