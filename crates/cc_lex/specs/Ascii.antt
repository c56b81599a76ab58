-- ASCII bytes, of which names are.
use Rattle.std.specs.Prelude.{ℕ, Bool, nat_lt}

abbrev pub is_ascii : ℕ → Bool
is_ascii b = nat_lt b 128
