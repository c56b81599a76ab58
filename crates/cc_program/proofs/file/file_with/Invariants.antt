use Rattle.std.proofs.Common.{◌≡◌, drop}
use Rattle.cc_program.specs.Files.{file_from, file_with as first_with}
use Rattle.cc_program.proofs.file.file_with.Given as goal

abbrev pub invariant-loop-file : goal.invariant-loop-file
invariant-loop-file l = file_from l.number (drop l.file-index l.files) l.node ≡ first_with l.files l.node
