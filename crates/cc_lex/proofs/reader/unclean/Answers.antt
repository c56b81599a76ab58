use Rattle.cc_lex.specs.Reading.{pair_of}
use Rattle.cc_lex.proofs.Settled.{all_unclean, settled}
use Rattle.cc_lex.proofs.reader.unclean.Goals as goal
use Rattle.cc_lex.proofs.reader.unclean.Goals.{in-Ok, in-Err}

pub returns : goal.returns
returns c =
    elim c.match-read.branch [
      | in-Ok w ↦ rw w.result-is (all_unclean c.args.bytes.now (pair_of c.args.first) _ c.requires.first w.in-Ok.ensures.all)
      | in-Err w ↦ rw (w.result-is, w.sooner.ensures) (settled c.args.bytes.now (pair_of c.args.first) w.in-Err.fault c.requires.first w.in-Err.ensures.stopped)
    ]
