use Rattle.std.proofs.Common.{take}
use Rattle.cc_io.specs.Folder.{EndsFolder}
use Rattle.cc_io.proofs.host.folder_end.Given as goal

abbrev pub invariant-loop-i : goal.invariant-loop-i
invariant-loop-i l = EndsFolder (take l.i l.path) l.end
