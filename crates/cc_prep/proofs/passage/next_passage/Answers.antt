use Rattle.std.proofs.Common.{◌+◌, length, take, drop, refl, ap, ◌∙◌, inr, arith}
use Rattle.std.specs.List.{slice_range}
use Rattle.std.proofs.lemmas.List.{length-drop, length-take}
use Rattle.cc_lex.specs.Cut.{Cut}
use Rattle.cc_prep.specs.Lines.{line_len}
use Rattle.cc_prep.specs.Passages.{First}
use Rattle.cc_prep.proofs.PassageFacts.{part_is, rest_is, line_begins, line_form, has_form}
use Rattle.cc_prep.proofs.passage.next_passage.Goals as goal

pub loop-at-init : goal.loop-at-init
loop-at-init c = record { begins = First; within = omega arith }

pub loop-at-preserved : goal.loop-at-preserved
loop-at-preserved c =
    let len_is = c.line_len-len.ensures.value ∙ ap line_len (rest_is c.args.text.now c.loop-at.at) in
    record {
      begins = line_begins c.args.text.now c.loop-at.at c.line_len-len.result c.loop-at.invariant.begins len_is;
      within = omega (arith, c.line_len-len.ensures.within, ap length (rest_is c.args.text.now c.loop-at.at), length-drop c.loop-at.at c.args.text.now);
    }

pub returns-in-Ok-Some-clause-passage : goal.returns-in-Ok-Some-clause-passage
returns-in-Ok-Some-clause-passage c =
    let text = c.args.text.now in
    let start = c.loop-at.at in
    let len = c.line_len-len.result in
    let len_is = c.line_len-len.ensures.value ∙ ap line_len (rest_is text start) in
    let rest = ap length (rest_is text start) in
    let cut : Cut (take start text) c.in-Ok-Some.tokens = rw c.in-Ok-Some.field-0-is at c.in-Ok-Some.ensures.found in (
      record {
        is_line = record {
          len_is = len_is;
          some = c.line_len-len.ensures.some (omega (arith, rest, length-drop start text));
          within = omega (arith, c.line_len-len.ensures.within, rest, length-drop start text);
          hash_within = c.in-Some.ensures.hash;
          rest_within = omega (arith, c.in-Some.ensures.rest, length-take len (drop start text), ap length (part_is text start len));
        };
        begins = c.loop-at.invariant.begins;
        form = line_form text (slice_range text start (start + len)) c.args.in_group start len c.in-Some.head len_is refl c.in-Some.ensures.value;
      },
      cut,
    )

pub returns-in-Err-clause-fault : goal.returns-in-Err-clause-fault
returns-in-Err-clause-fault c =
    let text = c.args.text.now in
    let start = c.loop-at.at in
    let len = c.line_len-len.result in
    let len_is = c.line_len-len.ensures.value ∙ ap line_len (rest_is text start) in
    let form = has_form text (slice_range text start (start + len)) c.args.in_group start len c.in-Some.head c.loop-at-test.true c.loop-at.invariant.begins len_is refl c.in-Some.ensures.value in
    inr (start, form, c.in-Err.ensures.refused, c.in-Err.ensures.other)
