use Rattle.std.proofs.Common.{◌<◌, length, sym, arith}
use Rattle.cc_lex.proofs.CharacterLemmas.{none_more, some_more}
use Rattle.cc_lex.proofs.character.values_of.Goals as goal

pub loop-z-preserved : goal.loop-z-preserved
loop-z-preserved c =
    let some : 0 < length c.loop-z.z.now = omega arith in (
      some_more c.loop-z.values.items c.push.new.self.items c.loop-z.z.now c.back-z-in-Some.result.now _ c.character_len-in-Some.result c.in-Some.value some (sym c.in-Some.ensures) c.character_len-in-Some.ensures.value c.back-z-in-Some.ensures.value c.in_ok-push-in-Some.ensures.items c.loop-z.invariant.0,
      omega (arith, c.back-z-in-Some.ensures.within),
    )

pub loop-z-preserved-in-None : goal.loop-z-preserved-in-None
loop-z-preserved-in-None c =
    let some : 0 < length c.loop-z.z.now = omega arith in (
      none_more c.loop-z.values.items c.loop-z.z.now c.back-z.result.now _ c.character_len.result some (sym c.in-None.ensures) c.character_len.ensures.value c.back-z.ensures.value c.loop-z.invariant.0,
      omega (arith, c.back-z.ensures.within),
    )
