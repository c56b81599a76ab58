use Rattle.std.proofs.Common.{◌≡◌, true, codes, sym, ap, ◌∙◌}
use Rattle.cc_project.specs.Rules as rule
use Rattle.cc_project.proofs.Firsts.{passed_up, at-holds, Reports-same}
use Rattle.cc_project.proofs.Rounds.{new_fails, new_holds, new_ends, seen_more, seen_all, grown, entry_holds, second_true}
use Rattle.cc_project.specs.Order.{at, first_failing}
use Rattle.cc_project.specs.Places.{item_key}
use Rattle.cc_project.proofs.shape.check_entries.Goals as goal

pub returns-in_err-demand_at-clause-err : goal.returns-in_err-demand_at-clause-err
returns-in_err-demand_at-clause-err c = passed_up c.from_residual-in_err-demand_at.result c.in_err-demand_at.field-0.0 _ c.from_residual-in_err-demand_at.ensures.1
    (new_fails (codes "entries") 8 rule.is_entry c.loop-k.k c.loop-k.entries c.args.items.now c.index-items-k.result _ c.in_err-demand_at.field-0.0 c.is_entry.result
    c.loop-k-test.true c.index-items-k.is c.loop-k.invariant.left (entry_holds c.is_entry.result c.in_ok-is_new.is_new c.loop-k.entries c.text_of-text.result.now _ c.is_entry.ensures c.in_ok-is_new.ensures.value c.text_of-text.ensures) (Reports-same _ _ _ (ap (λ key. first_failing (at (item_key key c.loop-k.k) 8 c.is_entry.result)) c.top.ensures) c.in_err-demand_at.ensures.err))

pub loop-k-preserved : goal.loop-k-preserved
loop-k-preserved c =
    let holds_true : c.is_entry.result ≡ true = at-holds _ _ _ c.in_ok-demand_at.ensures.ok in
    let is : c.add.new.self ≡ _ = grown c.in_ok-is_new.is_new _ _ _ _ c.in_ok-is_new.ensures.after (second_true c.is_entry.result _ c.in_ok-is_new.is_new c.is_entry.ensures holds_true) c.text_of-text.ensures in
    record {
      left = new_holds (codes "entries") 8 rule.is_entry c.loop-k.k c.loop-k.entries c.add.new.self c.args.items.now c.index-items-k.result _ c.is_entry.result
          c.loop-k-test.true c.index-items-k.is c.loop-k.invariant.left (entry_holds c.is_entry.result c.in_ok-is_new.is_new c.loop-k.entries c.text_of-text.result.now _ c.is_entry.ensures c.in_ok-is_new.ensures.value c.text_of-text.ensures) (sym (ap (λ key. first_failing (at (item_key key c.loop-k.k) 8 c.is_entry.result)) c.top.ensures) ∙ c.in_ok-demand_at.ensures.ok) is;
      seen = seen_more c.loop-k.k c.loop-k.entries c.add.new.self _ c.args.items.now c.index-items-k.result c.loop-k-test.true c.index-items-k.is c.loop-k.invariant.seen is;
    }

pub returns-clause-ok : goal.returns-clause-ok
returns-clause-ok c = new_ends (codes "entries") 8 rule.is_entry c.loop-k.k c.loop-k.entries c.args.items.now _ c.loop-k-test.false c.loop-k.invariant.left

pub returns-clause-entries : goal.returns-clause-entries
returns-clause-entries c = seen_all c.loop-k.k c.loop-k.entries _ c.args.items.now c.loop-k-test.false c.loop-k.invariant.seen
