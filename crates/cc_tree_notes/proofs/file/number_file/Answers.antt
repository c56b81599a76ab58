use Rattle.cc_tree_notes.proofs.Keeps.{kept_file}
use Rattle.cc_tree_notes.proofs.file.number_file.Goals as goal

pub returns-clause-same : goal.returns-clause-same
returns-clause-same c = let h = rw c.as_slice.ensures at c.in_ok-externals.ensures.tree in kept_file _ _ _ _ h
