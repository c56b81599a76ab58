use Rattle.std.proofs.Common.{◌<◌, length, length-drop, sym, ap, ◌∙◌, arith}
use Rattle.cc_lex.specs.Reading.{first_fault}
use Rattle.cc_lex.proofs.CharacterLemmas.{faults_later}
use Rattle.cc_lex.proofs.character.bad_escape.Goals as goal

pub loop-z-preserved : goal.loop-z-preserved
loop-z-preserved c =
    let some : 0 < length c.loop-z.z.now = omega arith in
    let later = faults_later c.loop-z.at c.loop-z.z.now c.in-Some.field-0 some (sym c.in-Some.ensures) in (
      rw (c.back-z.ensures.value, c.character_len-len.ensures.value) (ap first_fault (sym later) ∙ c.loop-z.invariant.0),
      omega (arith, ap length c.back-z.ensures.value, length-drop c.character_len-len.result c.loop-z.z.now, c.character_len-len.ensures.within some),
    )
