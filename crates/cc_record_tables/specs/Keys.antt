-- Couplings as the set keeps them.
use Rattle.std.specs.Prelude.{ℕ, Bool}
use Rattle.cc_program.specs.declared.function.FuncId.{FuncId}
use Rattle.cc_meaning.specs.declared.coupling.Coupling.{Coupling}
use Rattle.cc_meaning.specs.declared.coupling.Coupling.TheVariants as coupling
use Rattle.cc_record_tables.specs.declared.couplings.Key.{Key}
use Rattle.cc_record_tables.specs.contracts.couplings.KeyPartialEq.TheImpl as derived
use Rattle.cc_record_tables.specs.declared.couplings.Key.TheVariants as key

abbrev pub key_of : Coupling → Key
key_of (coupling.Call s g) = key.Call s g.0
key_of (coupling.Shared d u x) = key.Shared d u x
key_of (coupling.Parameter d s k g u) = key.Parameter d s k g.0 u
key_of (coupling.Return d s g) = key.Return d s g.0

abbrev pub function : ℕ → FuncId
function n = record { 0 = n }

abbrev pub coupling_of : Key → Coupling
coupling_of (key.Call s g) = coupling.Call s (function g)
coupling_of (key.Shared d u x) = coupling.Shared d u x
coupling_of (key.Parameter d s k g u) = coupling.Parameter d s k (function g) u
coupling_of (key.Return d s g) = coupling.Return d s (function g)

-- the derived test of keys
abbrev pub same_key : Key → Key → Bool
same_key = derived.eq-value.it
