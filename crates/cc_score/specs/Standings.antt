-- Whether a criterion is met.
use Rattle.std.specs.Prelude.{◌+◌, cond, nat_eq}
use Rattle.cc_meaning.specs.declared.score.Verdict.{Verdict}
use Rattle.cc_score.specs.declared.standings.Standing.{Standing}
use Rattle.cc_score.specs.declared.standings.Standing.TheVariants.{Met, MetWithJustification, NotMet}

-- A criterion is met where all are covered, so also where there are none; it is met with justification where it is not met
-- and all are covered or justified.
abbrev pub standing : Verdict → Standing
standing v = cond (nat_eq v.covered v.listed) Met (cond (nat_eq (v.covered + v.justified) v.listed) MetWithJustification NotMet)
