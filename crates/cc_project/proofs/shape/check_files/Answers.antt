use Rattle.std.proofs.Common.{◌≡◌, true}
use Rattle.cc_project.specs.Rules as rule
use Rattle.cc_project.proofs.Firsts.{passed_up, at-holds}
use Rattle.cc_project.proofs.Rounds.{new_fails, new_holds, new_ends, seen_more, seen_all, grown, file_holds, first_true}
use Rattle.cc_project.specs.Keys.{field_text}
use Rattle.cc_project.proofs.shape.check_files.Goals as goal

pub returns-in_err-demand_at-clause-err : goal.returns-in_err-demand_at-clause-err
returns-in_err-demand_at-clause-err c = passed_up c.from_residual-in_err-demand_at.result c.in_err-demand_at.field-0.0 _ c.from_residual-in_err-demand_at.ensures.1
    (new_fails (field_text c.args.field) 6 rule.is_new_file c.loop-k.k c.loop-k.files c.args.items.now c.index-items-k.result _ c.in_err-demand_at.field-0.0 c.is_new_file.result
    c.loop-k-test.true c.index-items-k.is c.loop-k.invariant.left (file_holds c.is_new_file.result c.in_ok-is_new.is_new c.len-count.result c.loop-k.files c.text_of.result.now _ c.is_new_file.ensures c.in_ok-is_new.ensures.value c.len-count.ensures c.text_of.ensures) c.in_err-demand_at.ensures.err)

pub loop-k-preserved : goal.loop-k-preserved
loop-k-preserved c =
    let holds_true : c.is_new_file.result ≡ true = at-holds _ _ _ c.in_ok-demand_at.ensures.ok in
    let is : c.add.new.self ≡ _ = grown c.in_ok-is_new.is_new _ _ _ _ c.in_ok-is_new.ensures.after (first_true c.is_new_file.result c.in_ok-is_new.is_new _ c.is_new_file.ensures holds_true) c.text_of.ensures in
    record {
      left = new_holds (field_text c.args.field) 6 rule.is_new_file c.loop-k.k c.loop-k.files c.add.new.self c.args.items.now c.index-items-k.result _ c.is_new_file.result
          c.loop-k-test.true c.index-items-k.is c.loop-k.invariant.left (file_holds c.is_new_file.result c.in_ok-is_new.is_new c.len-count.result c.loop-k.files c.text_of.result.now _ c.is_new_file.ensures c.in_ok-is_new.ensures.value c.len-count.ensures c.text_of.ensures) c.in_ok-demand_at.ensures.ok is;
      seen = seen_more c.loop-k.k c.loop-k.files c.add.new.self _ c.args.items.now c.index-items-k.result c.loop-k-test.true c.index-items-k.is c.loop-k.invariant.seen is;
    }

pub returns-clause-ok : goal.returns-clause-ok
returns-clause-ok c = new_ends (field_text c.args.field) 6 rule.is_new_file c.loop-k.k c.loop-k.files c.args.items.now _ c.loop-k-test.false c.loop-k.invariant.left

pub returns-clause-files : goal.returns-clause-files
returns-clause-files c = seen_all c.loop-k.k c.loop-k.files _ c.args.items.now c.loop-k-test.false c.loop-k.invariant.seen
