use Rattle.std.proofs.Common.{◌≡◌, length, map}
use Rattle.cc_lex.specs.Meanings.{lookup}
use Rattle.cc_lex.proofs.meaning.punct_in.Given as goal

abbrev pub invariant-loop-table : goal.invariant-loop-table
invariant-loop-table l = lookup (map (λ k. (k.0.now, k.1)) l.table) l.w ≡ lookup (map (λ k. (k.0.now, k.1)) l.initial.table) l.w

abbrev pub decreases-loop-table : goal.decreases-loop-table
decreases-loop-table l = length l.table
