use Rattle.std.proofs.Common.{◌≡◌, drop}
use Rattle.cc_link.specs.Tables.{files_from, files as all}
use Rattle.cc_link.proofs.tables.files.Given as goal

abbrev pub invariant-loop-file : goal.invariant-loop-file
invariant-loop-file l = files_from l.units l.number (drop l.file-index l.file-items) l.entries ≡ all l.units l.files
