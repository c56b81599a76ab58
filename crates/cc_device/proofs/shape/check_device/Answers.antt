use Rattle.std.proofs.Common.{refl, sym, ap, ◌++◌, ◌∙◌, codes}
use Rattle.toml.specs.View.{view}
use Rattle.cc_project.specs.Order.{first_failing}
use Rattle.cc_project.specs.Values.{text_in, texts_in}
use Rattle.cc_project.specs.Views.{data_in}
use Rattle.cc_project.proofs.Firsts.{at-holds}
use Rattle.cc_project.proofs.Rounds.{moved, grown, second_true, test_name_holds}
use Rattle.cc_device.specs.Keys.{member_text}
use Rattle.cc_device.specs.Order.{function_rules, device_rules, writes_of}
use Rattle.cc_device.proofs.Firsts.{passed_up, Reports-same, Reports-front, fails_at_2, fails_at_3, fails_last_4, all_hold_4}
use Rattle.cc_device.proofs.Rounds.{both_functions}
use Rattle.cc_device.proofs.shape.check_device.Goals as goal

pub returns-in_err-demand-clause-err : goal.returns-in_err-demand-clause-err
unfolding device_rules
returns-in_err-demand-clause-err c = passed_up c.from_residual-in_err-demand.result c.in_err-demand.field-0.0 _ c.from_residual-in_err-demand.ensures.1
    (Reports-front _ _ _
    (Reports-same _ _ _ (moved _ _ 2 _ _ refl (test_name_holds _ _ c.args.names.now _ _ _ c.is_device_name-is_named.ensures c.in_ok-is_new.ensures.value c.text_in.ensures c.at_key-name.ensures)) c.in_err-demand.ensures.err))

pub returns-in_err-check_functions-clause-err : goal.returns-in_err-check_functions-clause-err
unfolding device_rules
returns-in_err-check_functions-clause-err c = passed_up c.from_residual-in_err-check_functions.result c.in_err-check_functions.field-0.0 _ c.from_residual-in_err-check_functions.ensures.1
    (fails_at_2 _ _ _ _
    (sym (moved _ _ 2 _ _ refl (test_name_holds _ _ c.args.names.now _ _ _ c.is_device_name-is_named.ensures c.in_ok-is_new.ensures.value c.text_in.ensures c.at_key-name.ensures)) ∙ c.in_ok-demand.ensures.ok)
    (Reports-same _ _ _ (ap (λ v. first_failing (function_rules c.args.environment.now (member_text c.args.i (codes "writes")) 3 c.args.functions.now v)) c.at_key-writes.ensures) c.in_err-check_functions.ensures.err))

pub returns-in_err-check_functions-2-clause-err : goal.returns-in_err-check_functions-2-clause-err
unfolding device_rules
returns-in_err-check_functions-2-clause-err c = passed_up c.from_residual-in_err-check_functions-2.result c.in_err-check_functions-2.field-0.0 _ c.from_residual-in_err-check_functions-2.ensures.1
    (fails_at_3 _ _ _ _ _
    (sym (moved _ _ 2 _ _ refl (test_name_holds _ _ c.args.names.now _ _ _ c.is_device_name-is_named.ensures c.in_ok-is_new.ensures.value c.text_in.ensures c.at_key-name.ensures)) ∙ c.in_ok-demand.ensures.ok)
    (sym (ap (λ v. first_failing (function_rules c.args.environment.now (member_text c.args.i (codes "writes")) 3 c.args.functions.now v)) c.at_key-writes.ensures) ∙ c.in_ok-check_functions.ensures.ok)
    (Reports-same _ _ _
    (ap (λ seen. first_failing (function_rules c.args.environment.now (member_text c.args.i (codes "reads")) 4 seen (data_in c.at_key-reads.result))) (c.in_ok-check_functions.ensures.functions ∙ ap (λ v. c.args.functions.now ++ texts_in v) c.at_key-writes.ensures)
    ∙ ap (λ v. first_failing (function_rules c.args.environment.now (member_text c.args.i (codes "reads")) 4 (c.args.functions.now ++ writes_of (view c.args.device.now)) v)) c.at_key-reads.ensures) c.in_err-check_functions-2.ensures.err))

pub returns-in_err-demand-2-clause-err : goal.returns-in_err-demand-2-clause-err
unfolding device_rules
returns-in_err-demand-2-clause-err c = passed_up c.from_residual-in_err-demand-2.result c.in_err-demand-2.field-0.0 _ c.from_residual-in_err-demand-2.ensures.1
    (fails_last_4 _ _ _ _ _
    (sym (moved _ _ 2 _ _ refl (test_name_holds _ _ c.args.names.now _ _ _ c.is_device_name-is_named.ensures c.in_ok-is_new.ensures.value c.text_in.ensures c.at_key-name.ensures)) ∙ c.in_ok-demand.ensures.ok)
    (sym (ap (λ v. first_failing (function_rules c.args.environment.now (member_text c.args.i (codes "writes")) 3 c.args.functions.now v)) c.at_key-writes.ensures) ∙ c.in_ok-check_functions.ensures.ok)
    (sym
    (ap (λ seen. first_failing (function_rules c.args.environment.now (member_text c.args.i (codes "reads")) 4 seen (data_in c.at_key-reads.result))) (c.in_ok-check_functions.ensures.functions ∙ ap (λ v. c.args.functions.now ++ texts_in v) c.at_key-writes.ensures)
    ∙ ap (λ v. first_failing (function_rules c.args.environment.now (member_text c.args.i (codes "reads")) 4 (c.args.functions.now ++ writes_of (view c.args.device.now)) v)) c.at_key-reads.ensures)
    ∙ c.in_ok-check_functions-2.ensures.ok)
    (Reports-same _ _ _ (moved _ _ 5 _ _ refl c.has_only-is_all.ensures) c.in_err-demand-2.ensures.err))

pub returns-clause-ok : goal.returns-clause-ok
unfolding device_rules
returns-clause-ok c = all_hold_4 _ _ _ _
    (sym (moved _ _ 2 _ _ refl (test_name_holds _ _ c.args.names.now _ _ _ c.is_device_name-is_named.ensures c.in_ok-is_new.ensures.value c.text_in.ensures c.at_key-name.ensures)) ∙ c.in_ok-demand.ensures.ok)
    (sym (ap (λ v. first_failing (function_rules c.args.environment.now (member_text c.args.i (codes "writes")) 3 c.args.functions.now v)) c.at_key-writes.ensures) ∙ c.in_ok-check_functions.ensures.ok)
    (sym
    (ap (λ seen. first_failing (function_rules c.args.environment.now (member_text c.args.i (codes "reads")) 4 seen (data_in c.at_key-reads.result))) (c.in_ok-check_functions.ensures.functions ∙ ap (λ v. c.args.functions.now ++ texts_in v) c.at_key-writes.ensures)
    ∙ ap (λ v. first_failing (function_rules c.args.environment.now (member_text c.args.i (codes "reads")) 4 (c.args.functions.now ++ writes_of (view c.args.device.now)) v)) c.at_key-reads.ensures)
    ∙ c.in_ok-check_functions-2.ensures.ok)
    (sym (moved _ _ 5 _ _ refl c.has_only-is_all.ensures) ∙ c.in_ok-demand-2.ensures.ok)

pub returns-clause-names : goal.returns-clause-names
returns-clause-names c = grown c.in_ok-is_new.is_new _ _ _ _ c.in_ok-is_new.ensures.after
    (second_true c.is_device_name-is_named.result _ c.in_ok-is_new.is_new c.is_device_name-is_named.ensures (at-holds _ _ _ c.in_ok-demand.ensures.ok)) (c.text_in.ensures ∙ ap text_in c.at_key-name.ensures)

pub returns-clause-functions : goal.returns-clause-functions
returns-clause-functions c = both_functions _ _ _ _ _ _ _ c.in_ok-check_functions.ensures.functions (ap texts_in c.at_key-writes.ensures) c.in_ok-check_functions-2.ensures.functions (ap texts_in c.at_key-reads.ensures)
