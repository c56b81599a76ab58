-- Arguments without a formal are in no range that is asked.
use Rattle.std.proofs.Common.{◌≡◌, ◌<◌, ℤ, List, [], ◌∷◌, length, true, refl, arith}
use Rattle.cc_program.specs.declared.program.Program.{Program}
use Rattle.cc_program.specs.declared.variable.VarId.{VarId}
use Rattle.cc_tests.specs.Rules.{are_in_range}

pub none_left : (p : Program) (fs : List VarId) (ns : List ℤ) → length fs < 1 → true ≡ are_in_range p fs ns
none_left p [] [] h = refl
none_left p [] (n ∷ ns) h = refl
none_left p (f ∷ fs) ns h = absurd (omega (arith, h))
