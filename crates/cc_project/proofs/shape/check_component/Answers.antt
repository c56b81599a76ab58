use Rattle.std.proofs.Common.{map, refl, sym, ap, ◌∙◌}
use Rattle.cc_project.specs.Places.{item_key}
use Rattle.cc_project.specs.Rules as rule
use Rattle.cc_project.specs.Values.{text_of, text_in, items_in}
use Rattle.cc_project.specs.Order.{component_rules}
use Rattle.cc_project.proofs.Firsts.{passed_up, at-holds, Reports-same, fails_at_1, fails_at_2, fails_at_3, fails_at_4, fails_last_5, all_hold_5}
use Rattle.cc_project.proofs.Rounds.{moved, moved_array, moved_new, grown}
use Rattle.cc_project.proofs.shape.check_component.Goals as goal

pub returns-in_err-demand_of-clause-err : goal.returns-in_err-demand_of-clause-err
unfolding component_rules
returns-in_err-demand_of-clause-err c = passed_up c.from_residual.result c.in_err-demand_of.field-0.0 _ c.from_residual.ensures.1
    (fails_at_1 _ _ _
    (Reports-same _ _ _ (moved _ _ 3 _ _ c.member.ensures (c.is_name_value.ensures ∙ ap rule.is_component_name c.at_key-name.ensures)) c.in_err-demand_of.ensures.err))

pub returns-in_err-demand_of-2-clause-err : goal.returns-in_err-demand_of-2-clause-err
unfolding component_rules
returns-in_err-demand_of-2-clause-err c = passed_up c.from_residual-in_err-demand_of-2.result c.in_err-demand_of-2.field-0.0 _ c.from_residual-in_err-demand_of-2.ensures.1
    (fails_at_2 _ _ _ _
    (sym (moved _ _ 3 _ _ c.member.ensures (c.is_name_value.ensures ∙ ap rule.is_component_name c.at_key-name.ensures)) ∙ c.in_ok-demand_of.ensures.ok)
    (Reports-same _ _ _ (moved _ _ 4 _ _ c.member-2.ensures (c.in_ok-is_new.ensures.value ∙ ap (rule.is_new_component_name c.args.names.now) (c.text_in.ensures ∙ ap text_in c.at_key-name.ensures))) c.in_err-demand_of-2.ensures.err))

pub returns-in_err-check_array-clause-err : goal.returns-in_err-check_array-clause-err
unfolding component_rules
returns-in_err-check_array-clause-err c = passed_up c.from_residual-in_err-check_array.result c.in_err-check_array.field-0.0 _ c.from_residual-in_err-check_array.ensures.1
    (fails_at_3 _ _ _ _ _
    (sym (moved _ _ 3 _ _ c.member.ensures (c.is_name_value.ensures ∙ ap rule.is_component_name c.at_key-name.ensures)) ∙ c.in_ok-demand_of.ensures.ok)
    (sym (moved _ _ 4 _ _ c.member-2.ensures (c.in_ok-is_new.ensures.value ∙ ap (rule.is_new_component_name c.args.names.now) (c.text_in.ensures ∙ ap text_in c.at_key-name.ensures))) ∙ c.in_ok-demand_of-2.ensures.ok)
    (Reports-same _ _ _ (moved_array _ _ 5 _ _ rule.is_file _ _ c.member-field.ensures (c.has_array-is_whole.ensures ∙ ap rule.is_file_array c.at_key-array.ensures) c.at_key-array.ensures) c.in_err-check_array.ensures.err))

pub returns-in_err-check_files-clause-err : goal.returns-in_err-check_files-clause-err
unfolding component_rules
returns-in_err-check_files-clause-err c = passed_up c.from_residual-in_err-check_files.result c.in_err-check_files.field-0.0 _ c.from_residual-in_err-check_files.ensures.1
    (fails_at_4 _ _ _ _ _ _
    (sym (moved _ _ 3 _ _ c.member.ensures (c.is_name_value.ensures ∙ ap rule.is_component_name c.at_key-name.ensures)) ∙ c.in_ok-demand_of.ensures.ok)
    (sym (moved _ _ 4 _ _ c.member-2.ensures (c.in_ok-is_new.ensures.value ∙ ap (rule.is_new_component_name c.args.names.now) (c.text_in.ensures ∙ ap text_in c.at_key-name.ensures))) ∙ c.in_ok-demand_of-2.ensures.ok)
    (sym (moved_array _ _ 5 _ _ rule.is_file _ _ c.member-field.ensures (c.has_array-is_whole.ensures ∙ ap rule.is_file_array c.at_key-array.ensures) c.at_key-array.ensures) ∙ c.in_ok-check_array.ensures.ok)
    (Reports-same _ _ _ (moved_new _ _ 6 rule.is_new_file _ _ _ _ c.member-field.ensures refl (ap (map text_of) (c.items_in.ensures ∙ ap items_in c.at_key-array.ensures))) c.in_err-check_files.ensures.err))

pub returns-in_err-demand_at-clause-err : goal.returns-in_err-demand_at-clause-err
unfolding component_rules
returns-in_err-demand_at-clause-err c = passed_up c.from_residual-in_err-demand_at.result c.in_err-demand_at.field-0.0 _ c.from_residual-in_err-demand_at.ensures.1
    (fails_last_5 _ _ _ _ _ _
    (sym (moved _ _ 3 _ _ c.member.ensures (c.is_name_value.ensures ∙ ap rule.is_component_name c.at_key-name.ensures)) ∙ c.in_ok-demand_of.ensures.ok)
    (sym (moved _ _ 4 _ _ c.member-2.ensures (c.in_ok-is_new.ensures.value ∙ ap (rule.is_new_component_name c.args.names.now) (c.text_in.ensures ∙ ap text_in c.at_key-name.ensures))) ∙ c.in_ok-demand_of-2.ensures.ok)
    (sym (moved_array _ _ 5 _ _ rule.is_file _ _ c.member-field.ensures (c.has_array-is_whole.ensures ∙ ap rule.is_file_array c.at_key-array.ensures) c.at_key-array.ensures) ∙ c.in_ok-check_array.ensures.ok)
    (sym (moved_new _ _ 6 rule.is_new_file _ _ _ _ c.member-field.ensures refl (ap (map text_of) (c.items_in.ensures ∙ ap items_in c.at_key-array.ensures))) ∙ c.in_ok-check_files.ensures.ok)
    (Reports-same _ _ _ (moved _ _ 7 _ _ (ap (λ key. item_key key c.args.i) c.top.ensures) c.has_only-is_all.ensures) c.in_err-demand_at.ensures.err))

pub returns-clause-ok : goal.returns-clause-ok
unfolding component_rules
returns-clause-ok c = all_hold_5 _ _ _ _ _
    (sym (moved _ _ 3 _ _ c.member.ensures (c.is_name_value.ensures ∙ ap rule.is_component_name c.at_key-name.ensures)) ∙ c.in_ok-demand_of.ensures.ok)
    (sym (moved _ _ 4 _ _ c.member-2.ensures (c.in_ok-is_new.ensures.value ∙ ap (rule.is_new_component_name c.args.names.now) (c.text_in.ensures ∙ ap text_in c.at_key-name.ensures))) ∙ c.in_ok-demand_of-2.ensures.ok)
    (sym (moved_array _ _ 5 _ _ rule.is_file _ _ c.member-field.ensures (c.has_array-is_whole.ensures ∙ ap rule.is_file_array c.at_key-array.ensures) c.at_key-array.ensures) ∙ c.in_ok-check_array.ensures.ok)
    (sym (moved_new _ _ 6 rule.is_new_file _ _ _ _ c.member-field.ensures refl (ap (map text_of) (c.items_in.ensures ∙ ap items_in c.at_key-array.ensures))) ∙ c.in_ok-check_files.ensures.ok)
    (sym (moved _ _ 7 _ _ (ap (λ key. item_key key c.args.i) c.top.ensures) c.has_only-is_all.ensures) ∙ c.in_ok-demand_at.ensures.ok)

pub returns-clause-names : goal.returns-clause-names
returns-clause-names c = grown c.in_ok-is_new.is_new _ _ _ _ c.in_ok-is_new.ensures.after (at-holds _ _ _ c.in_ok-demand_of-2.ensures.ok) (c.text_in.ensures ∙ ap text_in c.at_key-name.ensures)
