use Rattle.cc_scoring.specs.Scored.{AreScored}
use Rattle.cc_scoring.specs.Watching.{IsReady}
use Rattle.cc_scoring.proofs.scoring.score_of.Given as goal

abbrev pub invariant-loop-test : goal.invariant-loop-test
invariant-loop-test g l = IsReady g.S.Subject.named l.watching.recorder × AreScored l.program l.acts l.listing l.tests l.exercised l.ends l.test-index
