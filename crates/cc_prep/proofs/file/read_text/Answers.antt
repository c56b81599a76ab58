use Rattle.std.proofs.Common.{not, subst}
use Rattle.cc_prep.specs.Stops.{IsTooManyIn, origin_in}
use Rattle.cc_prep.proofs.PassageFacts.{passage_places}
use Rattle.cc_prep.proofs.StopFacts.{too_many_stop}
use Rattle.cc_prep.proofs.file.read_text.Goals as goal

pub returns-in-Err-add_text-clause-stops : goal.returns-in-Err-add_text-clause-stops
returns-in-Err-add_text-clause-stops c =
    let stop = c.in-Err-add_text.stop in
    let mark = c.args.mark.now in
    let passage = c.in-Ok.passage in
    let at_origin = subst (λ o. IsTooManyIn o c.as_slice.result.now stop) c.origin_of-origin.ensures c.in-Err-add_text.ensures in
    let in_passage = subst (λ ts. IsTooManyIn (origin_in c.args.outermost mark.spot) ts stop) c.as_slice.ensures at_origin in
    too_many_stop c.args.bytes.now c.args.outermost mark.spot passage.tokens stop
    (passage_places c.each_token_has_the_spot_of_its_offset.ensures c.args.bytes.now mark (not c.is_empty.result) passage passage.line c.requires.small c.requires.mark c.in-Ok.ensures.passage)
    in_passage
