use Rattle.std.proofs.Common.{◌≡◌, drop}
use Rattle.cc_scoring.specs.Fit.{are_few}
use Rattle.cc_scoring.proofs.fit.are_few.Given as goal

abbrev pub invariant-loop-file : goal.invariant-loop-file
invariant-loop-file l = are_few (drop l.file-index l.program.files) ≡ are_few l.program.files
