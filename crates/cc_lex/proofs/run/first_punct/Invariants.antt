use Rattle.std.proofs.Common.{◌≡◌, length, map}
use Rattle.cc_lex.specs.Reading.{first_of}
use Rattle.cc_lex.specs.Spellings.{spellings_of}
use Rattle.cc_lex.proofs.run.first_punct.Given as goal

abbrev pub invariant-loop-table : goal.invariant-loop-table
invariant-loop-table l = first_of (spellings_of (map (λ p. (p.0.now, p.1)) l.table)) l.z ≡ first_of (spellings_of (map (λ p. (p.0.now, p.1)) l.initial.table)) l.z

abbrev pub decreases-loop-table : goal.decreases-loop-table
decreases-loop-table l = length l.table
