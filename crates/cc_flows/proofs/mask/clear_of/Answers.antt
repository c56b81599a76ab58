use Rattle.std.proofs.Common.{◌≡◌, ◌+◌, ◌++◌, ◌∷◌, [], ℕ, take, slice_index_or, subst}
use Rattle.std.specs.Prelude.{◌↔◌}
use Rattle.std.proofs.lemmas.List.{take_more, take_all}
use Rattle.cc_blocks.specs.Bits.{bit}
use Rattle.cc_flows.specs.Masks.{IsWiped}
use Rattle.cc_flows.proofs.Masking.{wiped_on}
use Rattle.cc_flows.proofs.mask.clear_of.Goals as goal

pub loop-slot-preserved : goal.loop-slot-preserved
loop-slot-preserved c =
    let row = c.args.row.now in
    let k = c.loop-slot.slot-index in
    let s : ℕ = slice_index_or row k 0 in
    let more : take (k + 1) row ≡ take k row ++ s ∷ [] = take_more row k 0 c.loop-slot-test.true in
    rw more (wiped_on c.args.masks.now (take k row) s c.loop-slot.block c.unite.new.self c.block_at-mask.result c.unite.ensures.bits c.block_at-mask.ensures c.loop-slot.invariant)

pub returns : goal.returns
returns c = subst (λ xs. (i : ℕ) → (bit c.loop-slot.block i ≡ 1) ↔ IsWiped c.args.masks.now xs i) (take_all c.loop-slot.slot-index c.args.row.now c.loop-slot-test.false) c.loop-slot.invariant
