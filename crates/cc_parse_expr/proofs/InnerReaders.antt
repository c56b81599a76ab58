-- The readers of what stands inside are those one level deeper.
use Rattle.std.proofs.Common.{◌≡◌, ◌<◌, ◌-◌, refl, ℕ, zero, suc, arith, sym, ap}
use Rattle.cc_grammar.specs.Names.{Names}
use Rattle.cc_grammar.specs.Reading.{readers, opened}
use Rattle.cc_parse_expr.specs.Modes.{inner_at}

pub inner_is : (names : Names) (d : ℕ) → 0 < d → inner_at names d ≡ readers names (d - 1)
inner_is names zero h = absurd (omega (arith, h))
inner_is names (suc d) h = let less : suc d - 1 ≡ d = omega arith in ap (readers names) (sym less)

-- and so what is read is no deeper
pub readers_open : (names : Names) (d : ℕ) → readers names d ≡ opened names (inner_at names d) d
readers_open names zero = refl
readers_open names (suc d) = refl
