-- What a view names is there.
use Rattle.cc_program.specs.declared.program.Program.{Program}
use Rattle.cc_points_base.specs.Facts.{IsWithin}
use Rattle.cc_points_view.specs.Views.{view_of}

-- the parts of each occurrence are occurrences, and what targets have are slots and functions of the view
abbrev pub ViewsAreWithin : Type 0
ViewsAreWithin = (p : Program) → IsWithin (view_of p)
