use Rattle.std.proofs.Common.{ℕ, ◌≡◌, ◌-◌, ap, ◌∙◌}
use Rattle.cc_blocks.specs.Bits.{bit}
use Rattle.cc_rows.specs.Gains.{Or}
use Rattle.cc_rows.proofs.Gained.{gains_none, gains_as_ok, more_as, or_as}
use Rattle.cc_flows.specs.Flows.{IsAny, IsRead, found_cmp}
use Rattle.cc_flows.proofs.Gaining.{read_never, to_read, from_read}
use Rattle.cc_flows.proofs.flow.gather_read.Goals as goal

pub returns-then-is_empty-clause-found : goal.returns-then-is_empty-clause-found
returns-then-is_empty-clause-found c = gains_none c.args.found.now.items (IsRead c.args.definitions.now c.args.reach.now c.args.masks.now c.args.read)
    (read_never c.args.definitions.now c.args.reach.now c.args.masks.now c.args.read c.block_at-mask.result c.block_at-mask.ensures (c.is_empty.ensures.0 c.if-is_empty.true))

pub returns-clause-found : goal.returns-clause-found
returns-clause-found c =
    let e : (i : ℕ) → bit c.minus.result i ≡ bit c.block_at-here.result i - (bit c.block_at-here.result i - bit c.block_at-mask.result i) = λ i. c.minus.ensures i ∙ ap (λ n. bit c.block_at-here.result i - n) (c.minus-rest.ensures i) in
    gains_as_ok c.gather.result c.args.found.now.items c.gather.new.found.items (IsAny c.args.definitions.now c.minus.result c.args.read.node) (IsRead c.args.definitions.now c.args.reach.now c.args.masks.now c.args.read)
    (to_read c.args.definitions.now c.args.reach.now c.args.masks.now c.args.read c.block_at-here.result c.block_at-mask.result c.minus.result c.block_at-here.ensures c.block_at-mask.ensures e)
    (from_read c.args.definitions.now c.args.reach.now c.args.masks.now c.args.read c.block_at-here.result c.block_at-mask.result c.minus.result c.block_at-here.ensures c.block_at-mask.ensures e)
    c.gather.ensures.found

pub returns-clause-many : goal.returns-clause-many
returns-clause-many c = λ is.
    let e : (i : ℕ) → bit c.minus.result i ≡ bit c.block_at-here.result i - (bit c.block_at-here.result i - bit c.block_at-mask.result i) = λ i. c.minus.ensures i ∙ ap (λ n. bit c.block_at-here.result i - n) (c.minus-rest.ensures i) in
    more_as found_cmp c.args.most (Or c.args.found.now.items (IsAny c.args.definitions.now c.minus.result c.args.read.node)) (Or c.args.found.now.items (IsRead c.args.definitions.now c.args.reach.now c.args.masks.now c.args.read))
    (or_as found_cmp c.args.most c.args.found.now.items (IsAny c.args.definitions.now c.minus.result c.args.read.node) (IsRead c.args.definitions.now c.args.reach.now c.args.masks.now c.args.read)
    (to_read c.args.definitions.now c.args.reach.now c.args.masks.now c.args.read c.block_at-here.result c.block_at-mask.result c.minus.result c.block_at-here.ensures c.block_at-mask.ensures e))
    (c.gather.ensures.many is)
