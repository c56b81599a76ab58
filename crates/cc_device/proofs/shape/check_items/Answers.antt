use Rattle.std.proofs.Common.{◌≡◌, true}
use Rattle.cc_project.proofs.Firsts.{at-holds}
use Rattle.cc_project.proofs.Rounds.{new_holds, new_ends, seen_more, seen_all, grown, second_true}
use Rattle.cc_device.specs.Keys.{member_text}
use Rattle.cc_device.specs.Rules.{is_free}
use Rattle.cc_device.proofs.Firsts.{passed_up}
use Rattle.cc_device.proofs.Rounds.{new_fails, free_holds}
use Rattle.cc_device.proofs.shape.check_items.Goals as goal

pub returns-in_err-demand-clause-err : goal.returns-in_err-demand-clause-err
returns-in_err-demand-clause-err c = passed_up c.from_residual-in_err-demand.result c.in_err-demand.field-0.0 _ c.from_residual-in_err-demand.ensures.1
    (new_fails (member_text c.args.device c.args.key.now) c.args.rule (is_free c.args.environment.now) c.loop-k.k c.loop-k.functions c.args.items.now c.index-items-k.result _ c.in_err-demand.field-0.0 c.is_free-holds.result
    c.loop-k-test.true c.index-items-k.is c.loop-k.invariant.left (free_holds c.is_free-holds.result c.in_ok-is_new.is_new c.args.environment.now c.loop-k.functions c.text_of-text.result.now _ c.is_free-holds.ensures c.in_ok-is_new.ensures.value c.text_of-text.ensures) c.in_err-demand.ensures.err)

pub loop-k-preserved : goal.loop-k-preserved
loop-k-preserved c =
    let holds_true : c.is_free-holds.result ≡ true = at-holds _ _ _ c.in_ok-demand.ensures.ok in
    let is : c.add.new.self ≡ _ = grown c.in_ok-is_new.is_new _ _ _ _ c.in_ok-is_new.ensures.after (second_true c.is_free-holds.result _ c.in_ok-is_new.is_new c.is_free-holds.ensures holds_true) c.text_of-text.ensures in
    record {
      left = new_holds (member_text c.args.device c.args.key.now) c.args.rule (is_free c.args.environment.now) c.loop-k.k c.loop-k.functions c.add.new.self c.args.items.now c.index-items-k.result _ c.is_free-holds.result
          c.loop-k-test.true c.index-items-k.is c.loop-k.invariant.left (free_holds c.is_free-holds.result c.in_ok-is_new.is_new c.args.environment.now c.loop-k.functions c.text_of-text.result.now _ c.is_free-holds.ensures c.in_ok-is_new.ensures.value c.text_of-text.ensures) c.in_ok-demand.ensures.ok is;
      seen = seen_more c.loop-k.k c.loop-k.functions c.add.new.self _ c.args.items.now c.index-items-k.result c.loop-k-test.true c.index-items-k.is c.loop-k.invariant.seen is;
    }

pub returns-clause-ok : goal.returns-clause-ok
returns-clause-ok c = new_ends (member_text c.args.device c.args.key.now) c.args.rule (is_free c.args.environment.now) c.loop-k.k c.loop-k.functions c.args.items.now _ c.loop-k-test.false c.loop-k.invariant.left

pub returns-clause-functions : goal.returns-clause-functions
returns-clause-functions c = seen_all c.loop-k.k c.loop-k.functions _ c.args.items.now c.loop-k-test.false c.loop-k.invariant.seen
