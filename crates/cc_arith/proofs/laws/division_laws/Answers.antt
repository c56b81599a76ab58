use Rattle.std.proofs.lemmas.Int.{quot-rem}
use Rattle.cc_arith.proofs.Shifts.{rounded_down}
use Rattle.cc_arith.proofs.laws.division_laws.Goals as goal

pub returns-clause-rebuilds : goal.returns-clause-rebuilds
returns-clause-rebuilds c = quot-rem

pub returns-clause-right_shift_rounds_down : goal.returns-clause-right_shift_rounds_down
returns-clause-right_shift_rounds_down c = rounded_down
