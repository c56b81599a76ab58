use Rattle.std.proofs.Common.{rules, ◌≡◌, ◌-◌, ◌+◌, suc, refl, sym, ap, ◌∙◌, [], ◌∷◌, ◌++◌, length, map, option_map, arith}
use Rattle.std.proofs.lemmas.Grind.{common_steps}
use Rattle.std.proofs.lemmas.List.{map_push}
use Rattle.std.proofs.lemmas.Result.{err_from_is_err_and}
use Rattle.cc_grammar.specs.Names as typedefs
use Rattle.cc_tree.specs.Trees.{init}
use Rattle.cc_tree.specs.Views.{view_declarator, view_init, view_value}
use Rattle.cc_parse_tokens.proofs.Rounds.{one_more, no_more}
use Rattle.cc_parse_files.specs.Rounds.{inits_from}
use Rattle.cc_parse_files.proofs.InitRounds.{inits_is, after_push, value_fails, last_one, next_fails, goes_on}
use Rattle.cc_parse_files.proofs.declaration.inits.Goals as goal

pub loop-round-init : goal.loop-round-init
loop-round-init c =
    let none : map view_init c.new-found.result ≡ [] = rw c.new-found.ensures refl in
    let rounds : c.len-round-end.result + 1 - 0 ≡ suc (length c.args.tokens.now) = omega (arith, c.len-round-end.ensures.value) in
    record { reads = rw (rounds, none) (inits_is c.args.depth c.args.typedef c.args.names.now (view_declarator c.args.first) c.args.tokens.now); names = rw none refl }

pub returns-in_err-value-clause-gives : goal.returns-in_err-value-clause-gives
returns-in_err-value-clause-gives c =
    let e = one_more (λ n. inits_from c.args.depth c.args.typedef n c.loop-round.names (view_declarator c.loop-round.next) (map view_init c.loop-round.found) c.loop-round.tokens) _ c.loop-round._round c.loop-round-test.true c.loop-round.invariant.reads in
    let p = err_from_is_err_and c.from_residual-in_err-value.result c.from_residual-in_err-value.ensures.1 in
    rw (p.1, p.2) (λ s. e ∙ value_fails c.args.depth c.args.typedef _ c.loop-round.names c.declare.new.names (view_declarator c.loop-round.next) (map view_init c.loop-round.found) c.loop-round.tokens (rw c.get.ensures at c.in_ok-declare.ensures.ok) c.given.new.tokens (c.in_err-value.ensures s))

pub returns-then-not-next_is-clause-gives : goal.returns-then-not-next_is-clause-gives
returns-then-not-next_is-clause-gives c =
    let e = one_more (λ n. inits_from c.args.depth c.args.typedef n c.loop-round.names (view_declarator c.loop-round.next) (map view_init c.loop-round.found) c.loop-round.tokens) _ c.loop-round._round c.loop-round-test.true c.loop-round.invariant.reads in
    let pushed : map view_init c.push.new.self ≡ map view_init c.loop-round.found ++ init (view_declarator c.loop-round.next) (option_map view_value c.in_ok-value.value) ∷ [] = rw (c.in_ok-push.ensures.ok, c.into_inner.ensures) (map_push view_init c.loop-round.found (record { declarator = c.loop-round.next; value = c.in_ok-value.value })) in
    rw pushed (e ∙ last_one c.args.depth c.args.typedef _ c.loop-round.names c.declare.new.names (view_declarator c.loop-round.next) (map view_init c.loop-round.found) c.loop-round.tokens (rw c.get.ensures at c.in_ok-declare.ensures.ok) (option_map view_value c.in_ok-value.value) c.given.new.tokens c.in_ok-value.ensures (sym c.next_is.ensures ∙ c.if-not-next_is.true))

pub returns-then-not-next_is-clause-after : goal.returns-then-not-next_is-clause-after
returns-then-not-next_is-clause-after c =
    let pushed : map view_init c.push.new.self ≡ map view_init c.loop-round.found ++ init (view_declarator c.loop-round.next) (option_map view_value c.in_ok-value.value) ∷ [] = rw (c.in_ok-push.ensures.ok, c.into_inner.ensures) (map_push view_init c.loop-round.found (record { declarator = c.loop-round.next; value = c.in_ok-value.value })) in
    rw pushed ((rw c.get.ensures at c.in_ok-declare.ensures.ok) ∙ ap (typedefs.after_declarator c.args.typedef (view_declarator c.loop-round.next)) c.loop-round.invariant.names
    ∙ sym (after_push c.args.typedef (map view_init c.loop-round.found) (view_declarator c.loop-round.next) (option_map view_value c.in_ok-value.value) c.args.names.now))

pub returns-in_err-next-clause-gives : goal.returns-in_err-next-clause-gives
returns-in_err-next-clause-gives c =
    let e = one_more (λ n. inits_from c.args.depth c.args.typedef n c.loop-round.names (view_declarator c.loop-round.next) (map view_init c.loop-round.found) c.loop-round.tokens) _ c.loop-round._round c.loop-round-test.true c.loop-round.invariant.reads in
    let p = err_from_is_err_and c.from_residual-in_err-next.result c.from_residual-in_err-next.ensures.1 in
    rw (p.1, p.2) (λ s. e ∙ next_fails c.args.depth c.args.typedef _ c.loop-round.names c.declare.new.names (view_declarator c.loop-round.next) (map view_init c.loop-round.found) c.loop-round.tokens (rw c.get.ensures at c.in_ok-declare.ensures.ok) (option_map view_value c.in_ok-value.value) c.given.new.tokens c.declarator.new.tokens c.in_ok-value.ensures (sym c.next_is.ensures ∙ c.if-not-next_is.false) (rw c.skip.ensures at (c.in_err-next.ensures s)))

pub loop-round-preserved : goal.loop-round-preserved
loop-round-preserved c =
    let e = one_more (λ n. inits_from c.args.depth c.args.typedef n c.loop-round.names (view_declarator c.loop-round.next) (map view_init c.loop-round.found) c.loop-round.tokens) _ c.loop-round._round c.loop-round-test.true c.loop-round.invariant.reads in
    let pushed : map view_init c.push.new.self ≡ map view_init c.loop-round.found ++ init (view_declarator c.loop-round.next) (option_map view_value c.in_ok-value.value) ∷ [] = rw (c.in_ok-push.ensures.ok, c.into_inner.ensures) (map_push view_init c.loop-round.found (record { declarator = c.loop-round.next; value = c.in_ok-value.value })) in
    record {
      reads = rw pushed (e ∙ goes_on c.args.depth c.args.typedef _ c.loop-round.names c.declare.new.names (view_declarator c.loop-round.next) (map view_init c.loop-round.found) c.loop-round.tokens (rw c.get.ensures at c.in_ok-declare.ensures.ok) (option_map view_value c.in_ok-value.value) c.given.new.tokens c.declarator.new.tokens (view_declarator c.in_ok-next.next) c.in_ok-value.ensures (sym c.next_is.ensures ∙ c.if-not-next_is.false) (rw c.skip.ensures at c.in_ok-next.ensures));
      names = rw pushed ((rw c.get.ensures at c.in_ok-declare.ensures.ok) ∙ ap (typedefs.after_declarator c.args.typedef (view_declarator c.loop-round.next)) c.loop-round.invariant.names
          ∙ sym (after_push c.args.typedef (map view_init c.loop-round.found) (view_declarator c.loop-round.next) (option_map view_value c.in_ok-value.value) c.args.names.now));
    }

pub returns-clause-gives : goal.returns-clause-gives
unfolding inits_from
returns-clause-gives c =
    let e = no_more (λ n. inits_from c.args.depth c.args.typedef n c.loop-round.names (view_declarator c.loop-round.next) (map view_init c.loop-round.found) c.loop-round.tokens) _ c.loop-round._round c.loop-round-test.false c.loop-round.invariant.reads in
    first_of (search rules, grind (arith, common_steps))
