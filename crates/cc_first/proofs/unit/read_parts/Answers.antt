use Rattle.std.proofs.Common.{sym, ap, ◌≡◌, ◌∙◌, drop, length, length-drop, arith}
use Rattle.std.proofs.lemmas.List.{map-append}
use Rattle.cc_first.specs.UnitReads.{IsPart}
use Rattle.cc_first.specs.Unit.{part_tokens}
use Rattle.cc_first.specs.Views.{part_view, parts_view}
use Rattle.cc_first.specs.declared.token.Token.{Token}
use Rattle.cc_first.proofs.UnitReads.{part_fits, some_of, parts_more, parts_none, parts_end_at}
use Rattle.cc_first.proofs.unit.read_parts.Goals as goal

pub returns-in_default-clause-none : goal.returns-in_default-clause-none
returns-in_default-clause-none c =
    parts_none c.args.tokens.now (parts_view c.loop-rest.parts.items) c.loop-rest.rest.now c.loop-rest.invariant.read
    (some_of (length c.loop-rest.rest.now) (sym c.is_empty.ensures ∙ c.loop-rest-test.true)) (rw c.in_default.is at c.in_ok-part.ensures.none)

pub part_len-requires : goal.part_len-requires
part_len-requires c =
    let part : IsPart c.loop-rest.rest.now (part_view c.in-Some.part) = rw c.in-Some.is at c.in_ok-part.ensures.some in
    omega (arith, part_fits c.loop-rest.rest.now (part_view c.in-Some.part) part, c.loop-rest.invariant.within, c.requires.small)

pub behind-rest-requires : goal.behind-rest-requires
behind-rest-requires c =
    let part : IsPart c.loop-rest.rest.now (part_view c.in-Some.part) = rw c.in-Some.is at c.in_ok-part.ensures.some in
    omega (arith, part_fits c.loop-rest.rest.now (part_view c.in-Some.part) part, c.part_len.ensures)

pub loop-rest-preserved : goal.loop-rest-preserved
loop-rest-preserved c =
    let part : IsPart c.loop-rest.rest.now (part_view c.in-Some.part) = rw c.in-Some.is at c.in_ok-part.ensures.some in
    let e : c.behind-rest.result.now ≡ drop (length (part_tokens (part_view c.in-Some.part))) c.loop-rest.rest.now =
    c.behind-rest.ensures ∙ ap (λ n. drop n c.loop-rest.rest.now) c.part_len.ensures in
    record {
      read = rw (c.in_ok-push.ensures.items, e)
          (rw map-append (parts_more c.args.tokens.now (parts_view c.loop-rest.parts.items) c.loop-rest.rest.now (part_view c.in-Some.part) c.loop-rest.invariant.read
          (some_of (length c.loop-rest.rest.now) (sym c.is_empty.ensures ∙ c.loop-rest-test.true)) part));
      within = omega (arith, ap length e, length-drop {A = Token}, c.loop-rest.invariant.within);
    }

pub returns-clause-some : goal.returns-clause-some
returns-clause-some c =
    parts_end_at c.args.tokens.now (parts_view c.loop-rest.parts.items) c.loop-rest.rest.now c.loop-rest.invariant.read (sym c.is_empty.ensures ∙ c.loop-rest-test.false)
