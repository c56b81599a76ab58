use Rattle.std.proofs.Common.{◌≡◌, length, map}
use Rattle.std.specs.List.{list_any}
use Rattle.cc_lex.specs.Spellings.{same}
use Rattle.cc_lex.proofs.meaning.is_spelling_in.Given as goal

abbrev pub invariant-loop-table : goal.invariant-loop-table
invariant-loop-table l = list_any (λ d. same d l.w) (map (λ d. d.now) l.table) ≡ list_any (λ d. same d l.w) (map (λ d. d.now) l.initial.table)

abbrev pub decreases-loop-table : goal.decreases-loop-table
decreases-loop-table l = length l.table
