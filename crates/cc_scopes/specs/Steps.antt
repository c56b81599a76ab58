-- One step of leaving a block.
use Rattle.std.specs.Prelude.{Bool, true, false, None, Some, [], ◌∷◌}
use Rattle.cc_scopes.specs.Names.{Names}

-- the names before the last step, and whether it was a declaration
abbrev pub step_before : Names → Names × Bool
step_before [] = ([], false)
step_before (None ∷ outside) = (outside, false)
step_before (Some d ∷ before) = (before, true)
