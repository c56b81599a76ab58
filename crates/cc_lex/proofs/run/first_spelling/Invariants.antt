use Rattle.std.proofs.Common.{◌≡◌, length, map}
use Rattle.cc_lex.specs.Reading.{first_of}
use Rattle.cc_lex.proofs.run.first_spelling.Given as goal

abbrev pub invariant-loop-table : goal.invariant-loop-table
invariant-loop-table l = first_of (map (λ d. d.now) l.table) l.z ≡ first_of (map (λ d. d.now) l.initial.table) l.z

abbrev pub decreases-loop-table : goal.decreases-loop-table
decreases-loop-table l = length l.table
