use Rattle.std.proofs.Common.{◌≡◌, ◌-◌, ℕ, max, sym, ap, ◌∙◌, arith}
use Rattle.cc_blocks.specs.Bits.{bit}
use Rattle.cc_blocks.proofs.Sizes.{bit-lt}
use Rattle.cc_flows.proofs.sweeping.pass_row.Goals as goal

pub returns-clause-bits : goal.returns-clause-bits
returns-clause-bits c = λ i. omega (arith, c.unite.ensures.bits i, c.minus.ensures i)

pub returns-clause-grew : goal.returns-clause-grew
returns-clause-grew c = (
  λ t. (let m = c.unite.ensures.grew.0 t in
      (m.0, omega (arith, m.1, c.minus.ensures m.0, bit-lt c.args.reach.now m.0), omega (arith, m.1, c.minus.ensures m.0, bit-lt c.args.reach.now m.0), m.2)),
  λ m. c.unite.ensures.grew.1 (m.0, omega (arith, m.1, m.2, c.minus.ensures m.0), m.3),
)
