use Rattle.cc_scoring.proofs.Watched.{forgets, run_watched}
use Rattle.cc_scoring.proofs.watching.run_test.Goals as goal

pub returns : goal.returns
returns g c =
    run_watched g.S.Subject.named c.args.acts.now c.args.test.now c.reset.new.self c.run_acts.new.watch.recorder c.run_acts.result
    (forgets g.S.Subject.named c.args.watching.now.recorder c.reset.new.self c.requires c.reset.ensures) c.run_acts.ensures.ran
