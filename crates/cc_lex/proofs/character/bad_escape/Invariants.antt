use Rattle.std.proofs.Common.{◌≡◌, ◌+◌, length}
use Rattle.cc_lex.specs.Characters.{characters, escape_faults}
use Rattle.cc_lex.specs.Reading.{first_fault}
use Rattle.cc_lex.proofs.character.bad_escape.Given as goal

abbrev pub invariant-loop-z : goal.invariant-loop-z
invariant-loop-z l = (first_fault (escape_faults (characters l.at 0 l.z)) ≡ first_fault (escape_faults (characters 1 0 l.initial.z))) × (l.at + length l.z ≡ length l.initial.z + 1)

abbrev pub decreases-loop-z : goal.decreases-loop-z
decreases-loop-z l = length l.z
