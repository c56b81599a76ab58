use Rattle.std.proofs.Common.{arith, subst, sym}
use Rattle.cc_points_base.specs.Layouts.{IsSmall}
use Rattle.cc_points_solve.proofs.Numbers.{spare_fits}
use Rattle.cc_points_solve.proofs.solving.make_problem.Goals as goal

pub overflow_add-holders : goal.overflow_add-holders
overflow_add-holders c =
    let small = subst IsSmall (sym c.lay_out-layout.ensures) c.requires.small in
    omega (arith, spare_fits c.lay_out-layout.result small, c.spare-holders.ensures)
