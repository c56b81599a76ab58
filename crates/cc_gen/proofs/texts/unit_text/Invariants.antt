use Rattle.std.proofs.Common.{◌≡◌}
use Rattle.std.specs.Prelude.{string_bytes}
use Rattle.cc_gen.specs.Generated as spec
use Rattle.cc_gen.proofs.texts.unit_text.Given as goal

abbrev pub invariant-loop-j : goal.invariant-loop-j
invariant-loop-j l = string_bytes l.text ≡ spec.functions_text l.n l.i l.j
