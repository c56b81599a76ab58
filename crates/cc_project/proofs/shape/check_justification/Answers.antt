use Rattle.std.proofs.Common.{sym, ap, ◌∙◌}
use Rattle.cc_project.specs.Places.{item_key}
use Rattle.cc_project.specs.Rules as rule
use Rattle.cc_project.specs.Values.{text_in}
use Rattle.cc_project.specs.Order.{justification_rules}
use Rattle.cc_project.proofs.Firsts.{passed_up, at-holds, Reports-same, fails_at_1, fails_at_2, fails_last_3, all_hold_3}
use Rattle.cc_project.proofs.Rounds.{moved, grown, second_true, line_holds}
use Rattle.cc_project.proofs.shape.check_justification.Goals as goal

pub returns-in_err-demand_of-clause-err : goal.returns-in_err-demand_of-clause-err
unfolding justification_rules
returns-in_err-demand_of-clause-err c = passed_up c.from_residual-in_err-demand_of.result c.in_err-demand_of.field-0.0 _ c.from_residual-in_err-demand_of.ensures.1
    (fails_at_1 _ _ _
    (Reports-same _ _ _ (moved _ _ 16 _ _ c.member.ensures (line_holds _ _ c.args.lines.now _ _ _ c.is_line.ensures c.in_ok-is_new.ensures.value c.text_in.ensures c.at_key-line.ensures)) c.in_err-demand_of.ensures.err))

pub returns-in_err-demand_of-2-clause-err : goal.returns-in_err-demand_of-2-clause-err
unfolding justification_rules
returns-in_err-demand_of-2-clause-err c = passed_up c.from_residual-in_err-demand_of-2.result c.in_err-demand_of-2.field-0.0 _ c.from_residual-in_err-demand_of-2.ensures.1
    (fails_at_2 _ _ _ _
    (sym (moved _ _ 16 _ _ c.member.ensures (line_holds _ _ c.args.lines.now _ _ _ c.is_line.ensures c.in_ok-is_new.ensures.value c.text_in.ensures c.at_key-line.ensures)) ∙ c.in_ok-demand_of.ensures.ok)
    (Reports-same _ _ _ (moved _ _ 17 _ _ c.member-2.ensures (c.is_reason_value.ensures ∙ ap rule.is_reason_value c.at_key.ensures)) c.in_err-demand_of-2.ensures.err))

pub returns-in_err-demand_at-clause-err : goal.returns-in_err-demand_at-clause-err
unfolding justification_rules
returns-in_err-demand_at-clause-err c = passed_up c.from_residual-in_err-demand_at.result c.in_err-demand_at.field-0.0 _ c.from_residual-in_err-demand_at.ensures.1
    (fails_last_3 _ _ _ _
    (sym (moved _ _ 16 _ _ c.member.ensures (line_holds _ _ c.args.lines.now _ _ _ c.is_line.ensures c.in_ok-is_new.ensures.value c.text_in.ensures c.at_key-line.ensures)) ∙ c.in_ok-demand_of.ensures.ok)
    (sym (moved _ _ 17 _ _ c.member-2.ensures (c.is_reason_value.ensures ∙ ap rule.is_reason_value c.at_key.ensures)) ∙ c.in_ok-demand_of-2.ensures.ok)
    (Reports-same _ _ _ (moved _ _ 18 _ _ (ap (λ key. item_key key c.args.i) c.top.ensures) c.has_only-is_all.ensures) c.in_err-demand_at.ensures.err))

pub returns-clause-ok : goal.returns-clause-ok
unfolding justification_rules
returns-clause-ok c = all_hold_3 _ _ _
    (sym (moved _ _ 16 _ _ c.member.ensures (line_holds _ _ c.args.lines.now _ _ _ c.is_line.ensures c.in_ok-is_new.ensures.value c.text_in.ensures c.at_key-line.ensures)) ∙ c.in_ok-demand_of.ensures.ok)
    (sym (moved _ _ 17 _ _ c.member-2.ensures (c.is_reason_value.ensures ∙ ap rule.is_reason_value c.at_key.ensures)) ∙ c.in_ok-demand_of-2.ensures.ok)
    (sym (moved _ _ 18 _ _ (ap (λ key. item_key key c.args.i) c.top.ensures) c.has_only-is_all.ensures) ∙ c.in_ok-demand_at.ensures.ok)

pub returns-clause-lines : goal.returns-clause-lines
returns-clause-lines c = grown c.in_ok-is_new.is_new _ _ _ _ c.in_ok-is_new.ensures.after (second_true _ _ _ c.is_line.ensures (at-holds _ _ _ c.in_ok-demand_of.ensures.ok)) (c.text_in.ensures ∙ ap text_in c.at_key-line.ensures)
