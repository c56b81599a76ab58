use Rattle.std.proofs.Common.{◌≡◌, ◌++◌, ◌≤◌, length}
use Rattle.cc_lex.specs.Characters.{characters, values_of}
use Rattle.cc_lex.proofs.character.values_of.Given as goal

abbrev pub invariant-loop-z : goal.invariant-loop-z
invariant-loop-z l = (l.values.items ++ values_of (characters 1 0 l.z) ≡ values_of (characters 1 0 l.initial.z)) × (length l.z ≤ length l.initial.z)

abbrev pub decreases-loop-z : goal.decreases-loop-z
decreases-loop-z l = length l.z
