use Rattle.std.proofs.Common.{rules, ◌≡◌, ◌-◌, ◌+◌, suc, refl, sym, ◌∙◌, [], ◌∷◌, ◌++◌, length, map, arith}
use Rattle.std.proofs.lemmas.Grind.{common_steps}
use Rattle.std.proofs.lemmas.List.{map_push}
use Rattle.std.proofs.lemmas.Result.{err_from_is_err_and}
use Rattle.cc_tree.specs.Views.{view_external}
use Rattle.cc_parse_tokens.proofs.Rounds.{one_more, no_more}
use Rattle.cc_parse_files.specs.Rounds.{externals_from}
use Rattle.cc_parse_files.proofs.ExternalRounds.{externals_is, all_read, one_fails, one_read}
use Rattle.cc_parse_files.proofs.file.externals.Goals as goal

pub loop-round-init : goal.loop-round-init
loop-round-init c =
    let none : map view_external c.new-found.result ≡ [] = rw c.new-found.ensures refl in
    let rounds : c.len-round-end.result + 1 - 0 ≡ suc (length c.args.tokens.now) = omega (arith, c.len-round-end.ensures.value) in
    rw (rounds, none) (externals_is c.args.depth (suc (length c.args.tokens.now)) c.args.names.now c.args.tokens.now)

pub returns-then-ended : goal.returns-then-ended
returns-then-ended c =
    let e = one_more (λ n. externals_from c.args.depth n c.loop-round.names (map view_external c.loop-round.found) c.loop-round.tokens) _ c.loop-round._round c.loop-round-test.true c.loop-round.invariant in
    e ∙ all_read c.args.depth _ c.loop-round.names (map view_external c.loop-round.found) c.loop-round.tokens (sym c.ended.ensures ∙ c.if-ended.true)

pub returns-in_err-next : goal.returns-in_err-next
returns-in_err-next c =
    let e = one_more (λ n. externals_from c.args.depth n c.loop-round.names (map view_external c.loop-round.found) c.loop-round.tokens) _ c.loop-round._round c.loop-round-test.true c.loop-round.invariant in
    let p = err_from_is_err_and c.from_residual.result c.from_residual.ensures.1 in
    rw (p.1, p.2) (λ s. e ∙ one_fails c.args.depth _ c.loop-round.names (map view_external c.loop-round.found) c.loop-round.tokens c.external.new.tokens
    (sym c.ended.ensures ∙ c.if-ended.false) (c.in_err-next.ensures.gives s))

pub loop-round-preserved : goal.loop-round-preserved
loop-round-preserved c =
    let e = one_more (λ n. externals_from c.args.depth n c.loop-round.names (map view_external c.loop-round.found) c.loop-round.tokens) _ c.loop-round._round c.loop-round-test.true c.loop-round.invariant in
    let pushed : map view_external c.push.new.self ≡ map view_external c.loop-round.found ++ view_external c.in_ok-next.next ∷ [] = rw c.in_ok-push.ensures.ok (map_push view_external c.loop-round.found c.in_ok-next.next) in
    rw pushed (e ∙ one_read c.args.depth _ c.loop-round.names (map view_external c.loop-round.found) c.loop-round.tokens (view_external c.in_ok-next.next) c.external.new.tokens c.external.new.names
    (sym c.ended.ensures ∙ c.if-ended.false) c.in_ok-next.ensures.gives c.in_ok-next.ensures.after)

pub returns : goal.returns
unfolding externals_from
returns c =
    let e = no_more (λ n. externals_from c.args.depth n c.loop-round.names (map view_external c.loop-round.found) c.loop-round.tokens) _ c.loop-round._round c.loop-round-test.false c.loop-round.invariant in
    first_of (search rules, grind (arith, common_steps))
