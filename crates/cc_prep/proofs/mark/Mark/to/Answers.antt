use Rattle.cc_prep.proofs.SpotFacts.{mark_to}
use Rattle.cc_prep.proofs.mark.Mark.to.Goals as goal

pub returns-clause-mark : goal.returns-clause-mark
returns-clause-mark c =
    mark_to c.args.bytes.now c.args.self c.args.at c.spot_behind.result c.requires.here c.requires.behind c.requires.within
    c.spot_behind.ensures.value c.spot_behind.ensures.line c.spot_behind.ensures.column
