use Rattle.std.proofs.Common.{◌≡◌, ℕ, length, take}
use Rattle.std.specs.Prelude.{◌↔◌}
use Rattle.cc_flows.specs.Sweeping.{bit_at_point}
use Rattle.cc_flows.specs.Masks.{IsOf}
use Rattle.cc_flows.proofs.mask.masks.Given as goal

abbrev pub invariant-loop-i : goal.invariant-loop-i
invariant-loop-i l = record {
  long : length l.masks.items ≡ l.slots;
  exact : (s i : ℕ) → (bit_at_point l.masks.items s i ≡ 1) ↔ IsOf (take l.i l.definitions) s i;
}
