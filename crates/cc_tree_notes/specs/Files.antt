-- Numbering of a file as the code has it.
use Rattle.std.specs.Prelude.{ℕ, List}
use Rattle.cc_base.specs.declared.place.Spot.{Spot}
use Rattle.cc_tree.specs.Trees.{ExternalTree}
use Rattle.cc_tree.specs.Views.{view_file}
use Rattle.cc_tree.specs.declared.stmt.FileTree.{FileTree}
use Rattle.cc_tree_notes.specs.Numbering.{numbered_file}
use Rattle.cc_tree_notes.specs.declared.note.Counted.{Counted}

-- the file with numbers from `k` on, and the number after the last
abbrev pub numbered_unit : FileTree Spot → ℕ → List (ExternalTree Counted) × ℕ
numbered_unit file k = numbered_file (view_file file) k
