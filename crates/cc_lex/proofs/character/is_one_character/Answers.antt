use Rattle.std.proofs.Common.{arith}
use Rattle.cc_lex.proofs.CharacterLemmas.{one_of, no_character}
use Rattle.cc_lex.proofs.character.is_one_character.Goals as goal

pub returns-then-z-ne0 : goal.returns-then-z-ne0
returns-then-z-ne0 c = one_of c.args.z.now c.character_len.result (omega arith) c.character_len.ensures.value (c.character_len.ensures.within (omega arith))

pub returns-else-z-ne0 : goal.returns-else-z-ne0
returns-else-z-ne0 c = no_character c.args.z.now (omega arith)
