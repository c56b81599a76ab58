use Rattle.cc_prep.proofs.StopFacts.{broken_local, include_of, lexical_local, mark_spot}
use Rattle.cc_prep.proofs.file.read_line.Goals as goal

pub returns-in-Err-clause-stops : goal.returns-in-Err-clause-stops
returns-in-Err-clause-stops c = lexical_local c.args.bytes.now c.in-Err.stop c.in-Err.ensures.stops

pub returns-in-Ok-carry_out-clause-include : goal.returns-in-Ok-carry_out-clause-include
returns-in-Ok-carry_out-clause-include c =
    let name = rw c.as_slice.ensures at c.in-Ok-carry_out.ensures.name in
    include_of c.args.bytes.now c.parts_of-parts.result.rest.at c.parts_of-parts.result.end.at c.in-Ok.tokens c.parts_of-parts.result.hash.spot c.in-Ok-carry_out.include
    c.in-Ok.ensures.cut (mark_spot c.args.bytes.now c.parts_of-parts.result.hash c.parts_of-parts.ensures.hash) name c.in-Ok-carry_out.ensures.hash
