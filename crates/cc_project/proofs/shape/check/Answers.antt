use Rattle.toml.specs.Data.{get}
use Rattle.toml.specs.View.{view}
use Rattle.std.proofs.Common.{codes, [], sym, ap, ◌∙◌}
use Rattle.cc_project.specs.Rules as rule
use Rattle.cc_project.specs.Values.{items_in, texts_in}
use Rattle.cc_project.specs.Order.{new_array_rules, components_rules, tests_rules, justified_rules, rules_of, first_failing}
use Rattle.cc_project.specs.Views.{data_in}
use Rattle.cc_project.proofs.Firsts.{passed_up, Reports-same, fails_at_1, fails_at_2, fails_at_3, fails_at_4, fails_at_5, fails_at_6, fails_at_7, fails_at_8, fails_last_9, all_hold_9}
use Rattle.cc_project.proofs.Rounds.{moved}
use Rattle.cc_project.proofs.shape.check.Goals as goal

pub returns-in_err-demand_of-clause-err : goal.returns-in_err-demand_of-clause-err
unfolding rules_of
returns-in_err-demand_of-clause-err c = passed_up c.from_residual.result c.in_err-demand_of.field-0.0 _ c.from_residual.ensures.1
    (fails_at_1 _ _ _
    (Reports-same _ _ _ (moved _ _ 1 _ _ c.top.ensures (c.is_format.ensures ∙ ap rule.is_format c.at_key.ensures)) c.in_err-demand_of.ensures.err))

pub returns-in_err-demand_of-2-clause-err : goal.returns-in_err-demand_of-2-clause-err
unfolding rules_of
returns-in_err-demand_of-2-clause-err c = passed_up c.from_residual-in_err-demand_of-2.result c.in_err-demand_of-2.field-0.0 _ c.from_residual-in_err-demand_of-2.ensures.1
    (fails_at_2 _ _ _ _
    (sym (moved _ _ 1 _ _ c.top.ensures (c.is_format.ensures ∙ ap rule.is_format c.at_key.ensures)) ∙ c.in_ok-demand_of.ensures.ok)
    (Reports-same _ _ _ (moved _ _ 2 _ _ c.top-2.ensures (c.has_array.ensures ∙ ap rule.is_component_array c.at_key-components.ensures)) c.in_err-demand_of-2.ensures.err))

pub returns-in_err-check_components-clause-err : goal.returns-in_err-check_components-clause-err
unfolding rules_of
returns-in_err-check_components-clause-err c = passed_up c.from_residual-in_err-check_components.result c.in_err-check_components.field-0.0 _ c.from_residual-in_err-check_components.ensures.1
    (fails_at_3 _ _ _ _ _
    (sym (moved _ _ 1 _ _ c.top.ensures (c.is_format.ensures ∙ ap rule.is_format c.at_key.ensures)) ∙ c.in_ok-demand_of.ensures.ok)
    (sym (moved _ _ 2 _ _ c.top-2.ensures (c.has_array.ensures ∙ ap rule.is_component_array c.at_key-components.ensures)) ∙ c.in_ok-demand_of-2.ensures.ok)
    (Reports-same _ _ _ (ap (λ ds. first_failing (components_rules 0 [] [] ds)) (c.items_in.ensures ∙ ap items_in c.at_key-components.ensures)) c.in_err-check_components.ensures.err))

pub returns-in_err-check_entry_array-clause-err : goal.returns-in_err-check_entry_array-clause-err
unfolding rules_of
returns-in_err-check_entry_array-clause-err c = passed_up c.from_residual-in_err-check_entry_array.result c.in_err-check_entry_array.field-0.0 _ c.from_residual-in_err-check_entry_array.ensures.1
    (fails_at_4 _ _ _ _ _ _
    (sym (moved _ _ 1 _ _ c.top.ensures (c.is_format.ensures ∙ ap rule.is_format c.at_key.ensures)) ∙ c.in_ok-demand_of.ensures.ok)
    (sym (moved _ _ 2 _ _ c.top-2.ensures (c.has_array.ensures ∙ ap rule.is_component_array c.at_key-components.ensures)) ∙ c.in_ok-demand_of-2.ensures.ok)
    (sym (ap (λ ds. first_failing (components_rules 0 [] [] ds)) (c.items_in.ensures ∙ ap items_in c.at_key-components.ensures)) ∙ c.in_ok-check_components.ensures.ok)
    (Reports-same _ _ _ (ap (λ v. first_failing (new_array_rules (codes "entries") 8 (rule.is_entry_array v) rule.is_entry v)) c.at_key-2.ensures) c.in_err-check_entry_array.ensures.err))

pub returns-in_err-check_environment_array-clause-err : goal.returns-in_err-check_environment_array-clause-err
unfolding rules_of
returns-in_err-check_environment_array-clause-err c = passed_up c.from_residual-in_err-check_environment_array.result c.in_err-check_environment_array.field-0.0 _ c.from_residual-in_err-check_environment_array.ensures.1
    (fails_at_5 _ _ _ _ _ _ _
    (sym (moved _ _ 1 _ _ c.top.ensures (c.is_format.ensures ∙ ap rule.is_format c.at_key.ensures)) ∙ c.in_ok-demand_of.ensures.ok)
    (sym (moved _ _ 2 _ _ c.top-2.ensures (c.has_array.ensures ∙ ap rule.is_component_array c.at_key-components.ensures)) ∙ c.in_ok-demand_of-2.ensures.ok)
    (sym (ap (λ ds. first_failing (components_rules 0 [] [] ds)) (c.items_in.ensures ∙ ap items_in c.at_key-components.ensures)) ∙ c.in_ok-check_components.ensures.ok)
    (sym (ap (λ v. first_failing (new_array_rules (codes "entries") 8 (rule.is_entry_array v) rule.is_entry v)) c.at_key-2.ensures) ∙ c.in_ok-check_entry_array.ensures.ok)
    (Reports-same _ _ _ (ap (λ es. first_failing (new_array_rules (codes "environment") 9 (rule.is_environment_array (data_in c.at_key-3.result)) (rule.is_environment es) (data_in c.at_key-3.result))) (c.in_ok-check_entry_array.ensures.entries ∙ ap texts_in c.at_key-2.ensures) ∙ ap (λ v. first_failing (new_array_rules (codes "environment") 9 (rule.is_environment_array v) (rule.is_environment (texts_in (get (codes "entries") (view c.args.document.now)))) v)) c.at_key-3.ensures) c.in_err-check_environment_array.ensures.err))

pub returns-in_err-demand_of-3-clause-err : goal.returns-in_err-demand_of-3-clause-err
unfolding rules_of
returns-in_err-demand_of-3-clause-err c = passed_up c.from_residual-in_err-demand_of-3.result c.in_err-demand_of-3.field-0.0 _ c.from_residual-in_err-demand_of-3.ensures.1
    (fails_at_6 _ _ _ _ _ _ _ _
    (sym (moved _ _ 1 _ _ c.top.ensures (c.is_format.ensures ∙ ap rule.is_format c.at_key.ensures)) ∙ c.in_ok-demand_of.ensures.ok)
    (sym (moved _ _ 2 _ _ c.top-2.ensures (c.has_array.ensures ∙ ap rule.is_component_array c.at_key-components.ensures)) ∙ c.in_ok-demand_of-2.ensures.ok)
    (sym (ap (λ ds. first_failing (components_rules 0 [] [] ds)) (c.items_in.ensures ∙ ap items_in c.at_key-components.ensures)) ∙ c.in_ok-check_components.ensures.ok)
    (sym (ap (λ v. first_failing (new_array_rules (codes "entries") 8 (rule.is_entry_array v) rule.is_entry v)) c.at_key-2.ensures) ∙ c.in_ok-check_entry_array.ensures.ok)
    (sym (ap (λ es. first_failing (new_array_rules (codes "environment") 9 (rule.is_environment_array (data_in c.at_key-3.result)) (rule.is_environment es) (data_in c.at_key-3.result))) (c.in_ok-check_entry_array.ensures.entries ∙ ap texts_in c.at_key-2.ensures) ∙ ap (λ v. first_failing (new_array_rules (codes "environment") 9 (rule.is_environment_array v) (rule.is_environment (texts_in (get (codes "entries") (view c.args.document.now)))) v)) c.at_key-3.ensures) ∙ c.in_ok-check_environment_array.ensures.ok)
    (Reports-same _ _ _ (moved _ _ 10 _ _ c.top-3.ensures (c.may_have_array.ensures ∙ ap rule.is_test_array c.at_key-tests.ensures)) c.in_err-demand_of-3.ensures.err))

pub returns-in_err-check_tests-clause-err : goal.returns-in_err-check_tests-clause-err
unfolding rules_of
returns-in_err-check_tests-clause-err c = passed_up c.from_residual-in_err-check_tests.result c.in_err-check_tests.field-0.0 _ c.from_residual-in_err-check_tests.ensures.1
    (fails_at_7 _ _ _ _ _ _ _ _ _
    (sym (moved _ _ 1 _ _ c.top.ensures (c.is_format.ensures ∙ ap rule.is_format c.at_key.ensures)) ∙ c.in_ok-demand_of.ensures.ok)
    (sym (moved _ _ 2 _ _ c.top-2.ensures (c.has_array.ensures ∙ ap rule.is_component_array c.at_key-components.ensures)) ∙ c.in_ok-demand_of-2.ensures.ok)
    (sym (ap (λ ds. first_failing (components_rules 0 [] [] ds)) (c.items_in.ensures ∙ ap items_in c.at_key-components.ensures)) ∙ c.in_ok-check_components.ensures.ok)
    (sym (ap (λ v. first_failing (new_array_rules (codes "entries") 8 (rule.is_entry_array v) rule.is_entry v)) c.at_key-2.ensures) ∙ c.in_ok-check_entry_array.ensures.ok)
    (sym (ap (λ es. first_failing (new_array_rules (codes "environment") 9 (rule.is_environment_array (data_in c.at_key-3.result)) (rule.is_environment es) (data_in c.at_key-3.result))) (c.in_ok-check_entry_array.ensures.entries ∙ ap texts_in c.at_key-2.ensures) ∙ ap (λ v. first_failing (new_array_rules (codes "environment") 9 (rule.is_environment_array v) (rule.is_environment (texts_in (get (codes "entries") (view c.args.document.now)))) v)) c.at_key-3.ensures) ∙ c.in_ok-check_environment_array.ensures.ok)
    (sym (moved _ _ 10 _ _ c.top-3.ensures (c.may_have_array.ensures ∙ ap rule.is_test_array c.at_key-tests.ensures)) ∙ c.in_ok-demand_of-3.ensures.ok)
    (Reports-same _ _ _ (ap (λ ds. first_failing (tests_rules 0 [] ds)) (c.items_in-2.ensures ∙ ap items_in c.at_key-tests.ensures)) c.in_err-check_tests.ensures.err))

pub returns-in_err-check_justified_array-clause-err : goal.returns-in_err-check_justified_array-clause-err
unfolding rules_of
returns-in_err-check_justified_array-clause-err c = passed_up c.from_residual-in_err-check_justified_array.result c.in_err-check_justified_array.field-0.0 _ c.from_residual-in_err-check_justified_array.ensures.1
    (fails_at_8 _ _ _ _ _ _ _ _ _ _
    (sym (moved _ _ 1 _ _ c.top.ensures (c.is_format.ensures ∙ ap rule.is_format c.at_key.ensures)) ∙ c.in_ok-demand_of.ensures.ok)
    (sym (moved _ _ 2 _ _ c.top-2.ensures (c.has_array.ensures ∙ ap rule.is_component_array c.at_key-components.ensures)) ∙ c.in_ok-demand_of-2.ensures.ok)
    (sym (ap (λ ds. first_failing (components_rules 0 [] [] ds)) (c.items_in.ensures ∙ ap items_in c.at_key-components.ensures)) ∙ c.in_ok-check_components.ensures.ok)
    (sym (ap (λ v. first_failing (new_array_rules (codes "entries") 8 (rule.is_entry_array v) rule.is_entry v)) c.at_key-2.ensures) ∙ c.in_ok-check_entry_array.ensures.ok)
    (sym (ap (λ es. first_failing (new_array_rules (codes "environment") 9 (rule.is_environment_array (data_in c.at_key-3.result)) (rule.is_environment es) (data_in c.at_key-3.result))) (c.in_ok-check_entry_array.ensures.entries ∙ ap texts_in c.at_key-2.ensures) ∙ ap (λ v. first_failing (new_array_rules (codes "environment") 9 (rule.is_environment_array v) (rule.is_environment (texts_in (get (codes "entries") (view c.args.document.now)))) v)) c.at_key-3.ensures) ∙ c.in_ok-check_environment_array.ensures.ok)
    (sym (moved _ _ 10 _ _ c.top-3.ensures (c.may_have_array.ensures ∙ ap rule.is_test_array c.at_key-tests.ensures)) ∙ c.in_ok-demand_of-3.ensures.ok)
    (sym (ap (λ ds. first_failing (tests_rules 0 [] ds)) (c.items_in-2.ensures ∙ ap items_in c.at_key-tests.ensures)) ∙ c.in_ok-check_tests.ensures.ok)
    (Reports-same _ _ _ (ap (λ v. first_failing (justified_rules v)) c.justified_in.ensures) c.in_err-check_justified_array.ensures.err))

pub returns-in_err-demand_of-4-clause-err : goal.returns-in_err-demand_of-4-clause-err
unfolding rules_of
returns-in_err-demand_of-4-clause-err c = passed_up c.from_residual-in_err-demand_of-4.result c.in_err-demand_of-4.field-0.0 _ c.from_residual-in_err-demand_of-4.ensures.1
    (fails_last_9 _ _ _ _ _ _ _ _ _ _
    (sym (moved _ _ 1 _ _ c.top.ensures (c.is_format.ensures ∙ ap rule.is_format c.at_key.ensures)) ∙ c.in_ok-demand_of.ensures.ok)
    (sym (moved _ _ 2 _ _ c.top-2.ensures (c.has_array.ensures ∙ ap rule.is_component_array c.at_key-components.ensures)) ∙ c.in_ok-demand_of-2.ensures.ok)
    (sym (ap (λ ds. first_failing (components_rules 0 [] [] ds)) (c.items_in.ensures ∙ ap items_in c.at_key-components.ensures)) ∙ c.in_ok-check_components.ensures.ok)
    (sym (ap (λ v. first_failing (new_array_rules (codes "entries") 8 (rule.is_entry_array v) rule.is_entry v)) c.at_key-2.ensures) ∙ c.in_ok-check_entry_array.ensures.ok)
    (sym (ap (λ es. first_failing (new_array_rules (codes "environment") 9 (rule.is_environment_array (data_in c.at_key-3.result)) (rule.is_environment es) (data_in c.at_key-3.result))) (c.in_ok-check_entry_array.ensures.entries ∙ ap texts_in c.at_key-2.ensures) ∙ ap (λ v. first_failing (new_array_rules (codes "environment") 9 (rule.is_environment_array v) (rule.is_environment (texts_in (get (codes "entries") (view c.args.document.now)))) v)) c.at_key-3.ensures) ∙ c.in_ok-check_environment_array.ensures.ok)
    (sym (moved _ _ 10 _ _ c.top-3.ensures (c.may_have_array.ensures ∙ ap rule.is_test_array c.at_key-tests.ensures)) ∙ c.in_ok-demand_of-3.ensures.ok)
    (sym (ap (λ ds. first_failing (tests_rules 0 [] ds)) (c.items_in-2.ensures ∙ ap items_in c.at_key-tests.ensures)) ∙ c.in_ok-check_tests.ensures.ok)
    (sym (ap (λ v. first_failing (justified_rules v)) c.justified_in.ensures) ∙ c.in_ok-check_justified_array.ensures.ok)
    (Reports-same _ _ _ (moved _ _ 14 _ _ c.top-4.ensures c.has_only_document_keys.ensures) c.in_err-demand_of-4.ensures.err))

pub returns-clause-ok : goal.returns-clause-ok
unfolding rules_of
returns-clause-ok c = all_hold_9 _ _ _ _ _ _ _ _ _
    (sym (moved _ _ 1 _ _ c.top.ensures (c.is_format.ensures ∙ ap rule.is_format c.at_key.ensures)) ∙ c.in_ok-demand_of.ensures.ok)
    (sym (moved _ _ 2 _ _ c.top-2.ensures (c.has_array.ensures ∙ ap rule.is_component_array c.at_key-components.ensures)) ∙ c.in_ok-demand_of-2.ensures.ok)
    (sym (ap (λ ds. first_failing (components_rules 0 [] [] ds)) (c.items_in.ensures ∙ ap items_in c.at_key-components.ensures)) ∙ c.in_ok-check_components.ensures.ok)
    (sym (ap (λ v. first_failing (new_array_rules (codes "entries") 8 (rule.is_entry_array v) rule.is_entry v)) c.at_key-2.ensures) ∙ c.in_ok-check_entry_array.ensures.ok)
    (sym (ap (λ es. first_failing (new_array_rules (codes "environment") 9 (rule.is_environment_array (data_in c.at_key-3.result)) (rule.is_environment es) (data_in c.at_key-3.result))) (c.in_ok-check_entry_array.ensures.entries ∙ ap texts_in c.at_key-2.ensures) ∙ ap (λ v. first_failing (new_array_rules (codes "environment") 9 (rule.is_environment_array v) (rule.is_environment (texts_in (get (codes "entries") (view c.args.document.now)))) v)) c.at_key-3.ensures) ∙ c.in_ok-check_environment_array.ensures.ok)
    (sym (moved _ _ 10 _ _ c.top-3.ensures (c.may_have_array.ensures ∙ ap rule.is_test_array c.at_key-tests.ensures)) ∙ c.in_ok-demand_of-3.ensures.ok)
    (sym (ap (λ ds. first_failing (tests_rules 0 [] ds)) (c.items_in-2.ensures ∙ ap items_in c.at_key-tests.ensures)) ∙ c.in_ok-check_tests.ensures.ok)
    (sym (ap (λ v. first_failing (justified_rules v)) c.justified_in.ensures) ∙ c.in_ok-check_justified_array.ensures.ok)
    (sym (moved _ _ 14 _ _ c.top-4.ensures c.has_only_document_keys.ensures) ∙ c.in_ok-demand_of-4.ensures.ok)
