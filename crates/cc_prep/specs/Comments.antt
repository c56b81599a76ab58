-- Lines that stand in a comment.
use Rattle.std.specs.Prelude.{ℕ, List}
use Rattle.cc_lex.specs.Faults.{IsLeastFault}

-- What follows the text stands in a comment: the first fault of the text is a comment without its end.
abbrev pub EndsInComment : List ℕ → Type 0
EndsInComment text = (offset : ℕ) × IsLeastFault text (offset, 2)
