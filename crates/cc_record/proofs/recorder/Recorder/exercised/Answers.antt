use Rattle.cc_record.proofs.Moves.{seen_is}
use Rattle.cc_record.proofs.recorder.Recorder.exercised.Goals as goal

pub returns : goal.returns
returns c = λ p told s few orderly q. seen_is p c.args.self.now told s few orderly q
