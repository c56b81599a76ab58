use Rattle.std.proofs.Common.{◌≡◌, ℕ, take}
use Rattle.std.specs.Prelude.{◌↔◌}
use Rattle.cc_blocks.specs.Bits.{bit}
use Rattle.cc_flows.specs.Masks.{IsWiped}
use Rattle.cc_flows.proofs.mask.clear_of.Given as goal

abbrev pub invariant-loop-slot : goal.invariant-loop-slot
invariant-loop-slot l = (i : ℕ) → (bit l.block i ≡ 1) ↔ IsWiped l.masks (take l.slot-index l.row) i
