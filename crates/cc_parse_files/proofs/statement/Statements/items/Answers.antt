use Rattle.std.proofs.Common.{rules, ◌≡◌, ◌-◌, ◌+◌, suc, refl, sym, ap, ◌∙◌, [], ◌∷◌, ◌++◌, length, map, arith}
use Rattle.std.proofs.lemmas.Grind.{common_steps}
use Rattle.std.proofs.lemmas.List.{map_push}
use Rattle.std.proofs.lemmas.Result.{err_from_is_err_and}
use Rattle.cc_grammar.specs.Names as typedefs
use Rattle.cc_grammar.specs.Reading as spec
use Rattle.cc_tree.specs.Views.{view_item}
use Rattle.cc_parse_tokens.proofs.Rounds.{one_more, no_more}
use Rattle.cc_parse_files.specs.Parts.{items_in}
use Rattle.cc_parse_files.specs.Rounds.{items_from}
use Rattle.cc_parse_files.proofs.ItemRounds.{items_is, after_push, closes, item_fails, goes_on}
use Rattle.cc_parse_files.proofs.statement.Statements.items.Goals as goal

pub loop-round-init : goal.loop-round-init
loop-round-init g c =
    let d = c.args.self.now.depth in
    let none : map view_item c.new-found.result ≡ [] = rw c.new-found.ensures refl in
    let rounds : c.len-round-end.result + 1 - 0 ≡ suc (length c.args.tokens.now) = omega (arith, c.len-round-end.ensures.value) in
    record { reads = rw (rounds, none) (items_is (spec.stmt d) d c.args.names.now c.args.tokens.now); names = rw none refl }

pub returns-then-next_is-clause-gives : goal.returns-then-next_is-clause-gives
unfolding items_in
returns-then-next_is-clause-gives g c =
    let d = c.args.self.now.depth in
    let e = one_more (λ n. items_from (spec.stmt d) d n c.loop-round.names (map view_item c.loop-round.found) c.loop-round.tokens) _ c.loop-round._round c.loop-round-test.true c.loop-round.invariant.reads in
    rw c.skip.ensures (e ∙ closes (spec.stmt d) d _ c.loop-round.names (map view_item c.loop-round.found) c.loop-round.tokens (sym c.next_is.ensures ∙ c.if-next_is.true))

pub returns-in_err-item-clause-gives : goal.returns-in_err-item-clause-gives
unfolding items_in
returns-in_err-item-clause-gives g c =
    let d = c.args.self.now.depth in
    let e = one_more (λ n. items_from (spec.stmt d) d n c.loop-round.names (map view_item c.loop-round.found) c.loop-round.tokens) _ c.loop-round._round c.loop-round-test.true c.loop-round.invariant.reads in
    let p = err_from_is_err_and c.from_residual.result c.from_residual.ensures.1 in
    rw (p.1, p.2) (λ s. e ∙ item_fails (spec.stmt d) d _ c.loop-round.names (map view_item c.loop-round.found) c.loop-round.tokens c.item.new.tokens (sym c.next_is.ensures ∙ c.if-next_is.false) (c.in_err-item.ensures.gives s))

pub loop-round-preserved : goal.loop-round-preserved
loop-round-preserved g c =
    let d = c.args.self.now.depth in
    let i = view_item c.in_ok-item.item in
    let e = one_more (λ n. items_from (spec.stmt d) d n c.loop-round.names (map view_item c.loop-round.found) c.loop-round.tokens) _ c.loop-round._round c.loop-round-test.true c.loop-round.invariant.reads in
    let pushed : map view_item c.push.new.self ≡ map view_item c.loop-round.found ++ i ∷ [] = rw c.in_ok-push.ensures.ok (map_push view_item c.loop-round.found c.in_ok-item.item) in
    record {
      reads = rw (pushed, c.in_ok-item.ensures.after) (e ∙ goes_on (spec.stmt d) d _ c.loop-round.names (map view_item c.loop-round.found) c.loop-round.tokens i c.item.new.tokens (sym c.next_is.ensures ∙ c.if-next_is.false) c.in_ok-item.ensures.gives);
      names = rw pushed (c.in_ok-item.ensures.after ∙ ap (typedefs.after_item i) c.loop-round.invariant.names ∙ sym (after_push (map view_item c.loop-round.found) i c.args.names.now));
    }

pub returns-clause-gives : goal.returns-clause-gives
unfolding items_from items_in
returns-clause-gives g c =
    let d = c.args.self.now.depth in
    let e = no_more (λ n. items_from (spec.stmt d) d n c.loop-round.names (map view_item c.loop-round.found) c.loop-round.tokens) _ c.loop-round._round c.loop-round-test.false c.loop-round.invariant.reads in
    first_of (search rules, grind (arith, common_steps))
