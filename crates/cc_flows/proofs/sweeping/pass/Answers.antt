use Rattle.std.proofs.Common.{◌≡◌, ◌-◌, ℕ, length, refl, arith}
use Rattle.std.proofs.lemmas.Option.{slice_get_read}
use Rattle.cc_blocks.specs.Bits.{bit}
use Rattle.cc_blocks.proofs.Sizes.{bit-lt}
use Rattle.cc_flows.proofs.Passing.{pass_new, pass_old}
use Rattle.cc_flows.proofs.sweeping.pass.Goals as goal

pub returns-then-pass_row : goal.returns-then-pass_row
returns-then-pass_row c =
    let reach = c.args.reach.now.items in
    let at = slice_get_read reach (length reach) c.args.point c.index.result.now refl c.requires.point c.index.ensures in
    let grew = c.pass_row.ensures.grew.0 c.if-pass_row.true in
    pass_new reach c.args.dirty.now.items c.args.point c.index.result.now c.pass_row.new.next (λ i. bit c.args.row.now i - bit c.args.clears.now i) at c.requires.point c.requires.dirty c.pass_row.ensures.bits
    (λ i. omega (arith, bit-lt c.args.row.now i)) (grew.0, omega (arith, grew.1, grew.2), grew.3)

pub returns-else-pass_row : goal.returns-else-pass_row
returns-else-pass_row c =
    let reach = c.args.reach.now.items in
    let at = slice_get_read reach (length reach) c.args.point c.index.result.now refl c.requires.point c.index.ensures in
    pass_old reach c.args.dirty.now.items c.args.point c.index.result.now c.pass_row.new.next (λ i. bit c.args.row.now i - bit c.args.clears.now i) at c.requires.point c.requires.dirty c.pass_row.ensures.bits
    (λ i. omega (arith, bit-lt c.args.row.now i))
    (λ more. let t = c.pass_row.ensures.grew.1 (more.0, omega (arith, more.1, bit-lt c.args.row.now more.0), omega (arith, more.1, bit-lt c.args.row.now more.0), more.2) in let f = c.if-pass_row.false in cc)
