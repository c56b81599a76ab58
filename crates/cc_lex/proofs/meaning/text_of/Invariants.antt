use Rattle.std.proofs.Common.{◌≡◌, take, true, drop}
use Rattle.std.specs.String.{string_bytes}
use Rattle.std.specs.List.{list_all}
use Rattle.cc_lex.specs.Ascii.{is_ascii}
use Rattle.cc_lex.proofs.meaning.text_of.Given as goal

abbrev pub invariant-loop-b : goal.invariant-loop-b
invariant-loop-b l = (string_bytes l.text ≡ take l.b-index l.name) × (list_all is_ascii (drop l.b-index l.name) ≡ true)
