use Rattle.std.proofs.Common.{◌≡◌, ℕ, ◌<◌, drop, Some}
use Rattle.cc_lex.specs.Faults.{everywhere}
use Rattle.cc_lex.proofs.reader.first_anywhere.Given as goal

abbrev pub invariant-loop-at : goal.invariant-loop-at
invariant-loop-at l = (o rule : ℕ) → o < l.at → everywhere (drop o l.bytes) ≡ Some rule → ⊥
