use Rattle.std.proofs.Common.{sym, ap, ◌∙◌}
use Rattle.cc_project.specs.Places.{item_key}
use Rattle.cc_project.specs.Rules as rule
use Rattle.cc_project.specs.Values.{text_in, is_integer}
use Rattle.cc_project.specs.Order.{test_rules}
use Rattle.cc_project.proofs.Firsts.{passed_up, at-holds, Reports-same, fails_at_1, fails_at_2, fails_at_3, fails_at_4, fails_at_5, fails_last_6, all_hold_6}
use Rattle.cc_project.proofs.Rounds.{moved, moved_array, grown, second_true, test_name_holds}
use Rattle.cc_project.proofs.shape.check_test.Goals as goal

pub returns-in_err-demand_of-clause-err : goal.returns-in_err-demand_of-clause-err
unfolding test_rules
returns-in_err-demand_of-clause-err c = passed_up c.from_residual-in_err-demand_of.result c.in_err-demand_of.field-0.0 _ c.from_residual-in_err-demand_of.ensures.1
    (fails_at_1 _ _ _
    (Reports-same _ _ _ (moved _ _ 11 _ _ c.member.ensures (test_name_holds _ _ c.args.names.now _ _ _ c.is_test_name.ensures c.in_ok-is_new.ensures.value c.text_in.ensures c.at_key-name.ensures)) c.in_err-demand_of.ensures.err))

pub returns-in_err-demand_of-2-clause-err : goal.returns-in_err-demand_of-2-clause-err
unfolding test_rules
returns-in_err-demand_of-2-clause-err c = passed_up c.from_residual-in_err-demand_of-2.result c.in_err-demand_of-2.field-0.0 _ c.from_residual-in_err-demand_of-2.ensures.1
    (fails_at_2 _ _ _ _
    (sym (moved _ _ 11 _ _ c.member.ensures (test_name_holds _ _ c.args.names.now _ _ _ c.is_test_name.ensures c.in_ok-is_new.ensures.value c.text_in.ensures c.at_key-name.ensures)) ∙ c.in_ok-demand_of.ensures.ok)
    (Reports-same _ _ _ (moved _ _ 12 _ _ c.member-2.ensures (c.is_turns.ensures ∙ ap rule.is_turns c.at_key.ensures)) c.in_err-demand_of-2.ensures.err))

pub returns-in_err-check_array-clause-err : goal.returns-in_err-check_array-clause-err
unfolding test_rules
returns-in_err-check_array-clause-err c = passed_up c.from_residual-in_err-check_array.result c.in_err-check_array.field-0.0 _ c.from_residual-in_err-check_array.ensures.1
    (fails_at_3 _ _ _ _ _
    (sym (moved _ _ 11 _ _ c.member.ensures (test_name_holds _ _ c.args.names.now _ _ _ c.is_test_name.ensures c.in_ok-is_new.ensures.value c.text_in.ensures c.at_key-name.ensures)) ∙ c.in_ok-demand_of.ensures.ok)
    (sym (moved _ _ 12 _ _ c.member-2.ensures (c.is_turns.ensures ∙ ap rule.is_turns c.at_key.ensures)) ∙ c.in_ok-demand_of-2.ensures.ok)
    (Reports-same _ _ _ (moved_array _ _ 13 _ _ rule.is_call _ _ c.member-3.ensures (c.has_array-is_whole.ensures ∙ ap rule.is_call_array c.at_key-calls.ensures) c.at_key-calls.ensures) c.in_err-check_array.ensures.err))

pub returns-in_err-check_array-2-clause-err : goal.returns-in_err-check_array-2-clause-err
unfolding test_rules
returns-in_err-check_array-2-clause-err c = passed_up c.from_residual-in_err-check_array-2.result c.in_err-check_array-2.field-0.0 _ c.from_residual-in_err-check_array-2.ensures.1
    (fails_at_4 _ _ _ _ _ _
    (sym (moved _ _ 11 _ _ c.member.ensures (test_name_holds _ _ c.args.names.now _ _ _ c.is_test_name.ensures c.in_ok-is_new.ensures.value c.text_in.ensures c.at_key-name.ensures)) ∙ c.in_ok-demand_of.ensures.ok)
    (sym (moved _ _ 12 _ _ c.member-2.ensures (c.is_turns.ensures ∙ ap rule.is_turns c.at_key.ensures)) ∙ c.in_ok-demand_of-2.ensures.ok)
    (sym (moved_array _ _ 13 _ _ rule.is_call _ _ c.member-3.ensures (c.has_array-is_whole.ensures ∙ ap rule.is_call_array c.at_key-calls.ensures) c.at_key-calls.ensures) ∙ c.in_ok-check_array.ensures.ok)
    (Reports-same _ _ _ (moved_array _ _ 13 _ _ is_integer _ _ c.member-4.ensures (c.may_have_array-is_whole.ensures ∙ ap rule.is_answer_array c.at_key-answers.ensures) c.at_key-answers.ensures) c.in_err-check_array-2.ensures.err))

pub returns-in_err-check_array-3-clause-err : goal.returns-in_err-check_array-3-clause-err
unfolding test_rules
returns-in_err-check_array-3-clause-err c = passed_up c.from_residual-in_err-check_array-3.result c.in_err-check_array-3.field-0.0 _ c.from_residual-in_err-check_array-3.ensures.1
    (fails_at_5 _ _ _ _ _ _ _
    (sym (moved _ _ 11 _ _ c.member.ensures (test_name_holds _ _ c.args.names.now _ _ _ c.is_test_name.ensures c.in_ok-is_new.ensures.value c.text_in.ensures c.at_key-name.ensures)) ∙ c.in_ok-demand_of.ensures.ok)
    (sym (moved _ _ 12 _ _ c.member-2.ensures (c.is_turns.ensures ∙ ap rule.is_turns c.at_key.ensures)) ∙ c.in_ok-demand_of-2.ensures.ok)
    (sym (moved_array _ _ 13 _ _ rule.is_call _ _ c.member-3.ensures (c.has_array-is_whole.ensures ∙ ap rule.is_call_array c.at_key-calls.ensures) c.at_key-calls.ensures) ∙ c.in_ok-check_array.ensures.ok)
    (sym (moved_array _ _ 13 _ _ is_integer _ _ c.member-4.ensures (c.may_have_array-is_whole.ensures ∙ ap rule.is_answer_array c.at_key-answers.ensures) c.at_key-answers.ensures) ∙ c.in_ok-check_array-2.ensures.ok)
    (Reports-same _ _ _ (moved_array _ _ 13 _ _ rule.is_requirement_text _ _ c.member-5.ensures (c.may_have_array-is_whole-2.ensures ∙ ap rule.is_requirement_array c.at_key-listed.ensures) c.at_key-listed.ensures) c.in_err-check_array-3.ensures.err))

pub returns-in_err-demand_at-clause-err : goal.returns-in_err-demand_at-clause-err
unfolding test_rules
returns-in_err-demand_at-clause-err c = passed_up c.from_residual-in_err-demand_at.result c.in_err-demand_at.field-0.0 _ c.from_residual-in_err-demand_at.ensures.1
    (fails_last_6 _ _ _ _ _ _ _
    (sym (moved _ _ 11 _ _ c.member.ensures (test_name_holds _ _ c.args.names.now _ _ _ c.is_test_name.ensures c.in_ok-is_new.ensures.value c.text_in.ensures c.at_key-name.ensures)) ∙ c.in_ok-demand_of.ensures.ok)
    (sym (moved _ _ 12 _ _ c.member-2.ensures (c.is_turns.ensures ∙ ap rule.is_turns c.at_key.ensures)) ∙ c.in_ok-demand_of-2.ensures.ok)
    (sym (moved_array _ _ 13 _ _ rule.is_call _ _ c.member-3.ensures (c.has_array-is_whole.ensures ∙ ap rule.is_call_array c.at_key-calls.ensures) c.at_key-calls.ensures) ∙ c.in_ok-check_array.ensures.ok)
    (sym (moved_array _ _ 13 _ _ is_integer _ _ c.member-4.ensures (c.may_have_array-is_whole.ensures ∙ ap rule.is_answer_array c.at_key-answers.ensures) c.at_key-answers.ensures) ∙ c.in_ok-check_array-2.ensures.ok)
    (sym (moved_array _ _ 13 _ _ rule.is_requirement_text _ _ c.member-5.ensures (c.may_have_array-is_whole-2.ensures ∙ ap rule.is_requirement_array c.at_key-listed.ensures) c.at_key-listed.ensures) ∙ c.in_ok-check_array-3.ensures.ok)
    (Reports-same _ _ _ (moved _ _ 14 _ _ (ap (λ key. item_key key c.args.i) c.top.ensures) c.has_only-is_all.ensures) c.in_err-demand_at.ensures.err))

pub returns-clause-ok : goal.returns-clause-ok
unfolding test_rules
returns-clause-ok c = all_hold_6 _ _ _ _ _ _
    (sym (moved _ _ 11 _ _ c.member.ensures (test_name_holds _ _ c.args.names.now _ _ _ c.is_test_name.ensures c.in_ok-is_new.ensures.value c.text_in.ensures c.at_key-name.ensures)) ∙ c.in_ok-demand_of.ensures.ok)
    (sym (moved _ _ 12 _ _ c.member-2.ensures (c.is_turns.ensures ∙ ap rule.is_turns c.at_key.ensures)) ∙ c.in_ok-demand_of-2.ensures.ok)
    (sym (moved_array _ _ 13 _ _ rule.is_call _ _ c.member-3.ensures (c.has_array-is_whole.ensures ∙ ap rule.is_call_array c.at_key-calls.ensures) c.at_key-calls.ensures) ∙ c.in_ok-check_array.ensures.ok)
    (sym (moved_array _ _ 13 _ _ is_integer _ _ c.member-4.ensures (c.may_have_array-is_whole.ensures ∙ ap rule.is_answer_array c.at_key-answers.ensures) c.at_key-answers.ensures) ∙ c.in_ok-check_array-2.ensures.ok)
    (sym (moved_array _ _ 13 _ _ rule.is_requirement_text _ _ c.member-5.ensures (c.may_have_array-is_whole-2.ensures ∙ ap rule.is_requirement_array c.at_key-listed.ensures) c.at_key-listed.ensures) ∙ c.in_ok-check_array-3.ensures.ok)
    (sym (moved _ _ 14 _ _ (ap (λ key. item_key key c.args.i) c.top.ensures) c.has_only-is_all.ensures) ∙ c.in_ok-demand_at.ensures.ok)

pub returns-clause-names : goal.returns-clause-names
returns-clause-names c = grown c.in_ok-is_new.is_new _ _ _ _ c.in_ok-is_new.ensures.after (second_true _ _ _ c.is_test_name.ensures (at-holds _ _ _ c.in_ok-demand_of.ensures.ok)) (c.text_in.ensures ∙ ap text_in c.at_key-name.ensures)
