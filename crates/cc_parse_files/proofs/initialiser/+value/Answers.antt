use Rattle.std.proofs.Common.{rules, ◌≡◌, ◌-◌, refl, [], length, map, arith}
use Rattle.std.proofs.lemmas.Grind.{common_steps}
use Rattle.cc_grammar.specs.Reading as spec
use Rattle.cc_tree.specs.Views.{view_value}
use Rattle.cc_parse_tokens.specs.Rounds.{enclosed_from}
use Rattle.cc_parse_tokens.proofs.ByRounds.{enclosed_by_is}
use Rattle.cc_parse_tokens.proofs.Rounds.{one_more, no_more}
use Rattle.cc_parse_files.proofs.initialiser.+value.Goals as goal

pub values-returns-in_err-value : goal.values-returns-in_err-value
unfolding enclosed_from
values-returns-in_err-value t c =
    let e = one_more (λ n. enclosed_from (spec.value c.args.names.now c.args.depth) n (map view_value c.loop-round.values) c.loop-round.tokens) _ c.loop-round._round c.loop-round-test.true c.loop-round.invariant in
    first_of (search rules, grind (arith, common_steps))

pub values-returns-in_err-take : goal.values-returns-in_err-take
unfolding enclosed_from
values-returns-in_err-take t c =
    let e = one_more (λ n. enclosed_from (spec.value c.args.names.now c.args.depth) n (map view_value c.loop-round.values) c.loop-round.tokens) _ c.loop-round._round c.loop-round-test.true c.loop-round.invariant in
    first_of (search rules, grind (arith, common_steps))

pub values-returns-then-not-next_is : goal.values-returns-then-not-next_is
unfolding enclosed_from
values-returns-then-not-next_is t c =
    let e = one_more (λ n. enclosed_from (spec.value c.args.names.now c.args.depth) n (map view_value c.loop-round.values) c.loop-round.tokens) _ c.loop-round._round c.loop-round-test.true c.loop-round.invariant in
    first_of (search rules, grind (arith, common_steps))

pub values-returns-then-next_is : goal.values-returns-then-next_is
unfolding enclosed_from
values-returns-then-next_is t c =
    let e = one_more (λ n. enclosed_from (spec.value c.args.names.now c.args.depth) n (map view_value c.loop-round.values) c.loop-round.tokens) _ c.loop-round._round c.loop-round-test.true c.loop-round.invariant in
    first_of (search rules, grind (arith, common_steps))

pub values-loop-round-preserved : goal.values-loop-round-preserved
unfolding enclosed_from
values-loop-round-preserved t c =
    let e = one_more (λ n. enclosed_from (spec.value c.args.names.now c.args.depth) n (map view_value c.loop-round.values) c.loop-round.tokens) _ c.loop-round._round c.loop-round-test.true c.loop-round.invariant in
    first_of (search rules, grind (arith, common_steps))

pub values-returns : goal.values-returns
unfolding enclosed_from
values-returns t c =
    let e = no_more (λ n. enclosed_from (spec.value c.args.names.now c.args.depth) n (map view_value c.loop-round.values) c.loop-round.tokens) _ c.loop-round._round c.loop-round-test.false c.loop-round.invariant in
    first_of (search rules, grind (arith, common_steps))

pub values-loop-round-init : goal.values-loop-round-init
values-loop-round-init t c =
    let none : map view_value c.new-values.result ≡ [] = rw c.new-values.ensures refl in
    let rounds : c.len-round-end.result - 0 ≡ length c.args.tokens.now = omega (arith, c.len-round-end.ensures) in
    rw (rounds, none) (enclosed_by_is (spec.value c.args.names.now c.args.depth) (length c.args.tokens.now) c.args.tokens.now)
