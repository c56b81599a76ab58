use Rattle.std.proofs.Common.{◌≡◌, true, codes, sym, refl, ap, ◌∙◌}
use Rattle.cc_project.specs.Rules as rule
use Rattle.cc_project.proofs.Firsts.{passed_up, at-holds, Reports-same}
use Rattle.cc_project.proofs.Rounds.{new_fails, new_holds, new_ends, seen_more, grown, environment_holds, first_true, second_true}
use Rattle.cc_project.specs.Order.{at, first_failing}
use Rattle.cc_project.specs.Places.{item_key}
use Rattle.cc_project.proofs.shape.check_environment.Goals as goal

pub returns-in_err-demand_at-clause-err : goal.returns-in_err-demand_at-clause-err
returns-in_err-demand_at-clause-err c = passed_up c.from_residual-in_err-demand_at.result c.in_err-demand_at.field-0.0 _ c.from_residual-in_err-demand_at.ensures.1
    (new_fails (codes "environment") 9 (rule.is_environment c.args.entries.now) c.loop-k.k c.loop-k.environment c.args.items.now c.index-items-k.result _ c.in_err-demand_at.field-0.0 c.is_environment-holds.result
    c.loop-k-test.true c.index-items-k.is c.loop-k.invariant.left (environment_holds c.is_environment-holds.result c.in_ok-is_new.is_new c.args.entries.now c.loop-k.environment c.text_of-text.result.now _ c.is_environment-holds.ensures c.in_ok-is_new.ensures.value c.text_of-text.ensures) (Reports-same _ _ _ (ap (λ key. first_failing (at (item_key key c.loop-k.k) 9 c.is_environment-holds.result)) c.top.ensures) c.in_err-demand_at.ensures.err))

pub loop-k-preserved : goal.loop-k-preserved
loop-k-preserved c =
    let holds_true : c.is_environment-holds.result ≡ true = at-holds _ _ _ c.in_ok-demand_at.ensures.ok in
    let is : c.add.new.self ≡ _ = grown c.in_ok-is_new.is_new _ _ _ _ c.in_ok-is_new.ensures.after (second_true _ _ c.in_ok-is_new.is_new refl (first_true c.is_environment-holds.result _ _ c.is_environment-holds.ensures holds_true)) c.text_of-text.ensures in
    record {
      left = new_holds (codes "environment") 9 (rule.is_environment c.args.entries.now) c.loop-k.k c.loop-k.environment c.add.new.self c.args.items.now c.index-items-k.result _ c.is_environment-holds.result
          c.loop-k-test.true c.index-items-k.is c.loop-k.invariant.left (environment_holds c.is_environment-holds.result c.in_ok-is_new.is_new c.args.entries.now c.loop-k.environment c.text_of-text.result.now _ c.is_environment-holds.ensures c.in_ok-is_new.ensures.value c.text_of-text.ensures) (sym (ap (λ key. first_failing (at (item_key key c.loop-k.k) 9 c.is_environment-holds.result)) c.top.ensures) ∙ c.in_ok-demand_at.ensures.ok) is;
      seen = seen_more c.loop-k.k c.loop-k.environment c.add.new.self _ c.args.items.now c.index-items-k.result c.loop-k-test.true c.index-items-k.is c.loop-k.invariant.seen is;
    }

pub returns-clause-ok : goal.returns-clause-ok
returns-clause-ok c = new_ends (codes "environment") 9 (rule.is_environment c.args.entries.now) c.loop-k.k c.loop-k.environment c.args.items.now _ c.loop-k-test.false c.loop-k.invariant.left
