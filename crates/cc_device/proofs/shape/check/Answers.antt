use Rattle.std.proofs.Common.{[], refl, sym, ap, ◌∙◌}
use Rattle.cc_project.specs.Order.{first_failing}
use Rattle.cc_project.specs.Values.{items_in}
use Rattle.cc_project.proofs.Firsts.{all_hold_3}
use Rattle.cc_project.proofs.Rounds.{moved}
use Rattle.cc_device.specs.Order.{devices_rules, rules_of}
use Rattle.cc_device.specs.Rules.{is_device_array}
use Rattle.cc_device.proofs.Firsts.{passed_up, Reports-same, Reports-front, fails_at_2, fails_last_3}
use Rattle.cc_device.proofs.shape.check.Goals as goal

pub returns-in_err-demand-clause-err : goal.returns-in_err-demand-clause-err
unfolding rules_of
returns-in_err-demand-clause-err c = passed_up c.from_residual.result c.in_err-demand.field-0.0 _ c.from_residual.ensures.1
    (Reports-front _ _ _ (Reports-same _ _ _ (moved _ _ 1 _ _ refl (c.is_device_array.ensures ∙ ap is_device_array c.at_key-devices.ensures)) c.in_err-demand.ensures.err))

pub returns-in_err-check_devices-clause-err : goal.returns-in_err-check_devices-clause-err
unfolding rules_of
returns-in_err-check_devices-clause-err c = passed_up c.from_residual-in_err-check_devices.result c.in_err-check_devices.field-0.0 _ c.from_residual-in_err-check_devices.ensures.1
    (fails_at_2 _ _ _ _
    (sym (moved _ _ 1 _ _ refl (c.is_device_array.ensures ∙ ap is_device_array c.at_key-devices.ensures)) ∙ c.in_ok-demand.ensures.ok)
    (Reports-same _ _ _ (ap (λ ds. first_failing (devices_rules c.args.environment.now 0 [] [] ds)) (c.items_in.ensures ∙ ap items_in c.at_key-devices.ensures)) c.in_err-check_devices.ensures.err))

pub returns-in_err-demand-2-clause-err : goal.returns-in_err-demand-2-clause-err
unfolding rules_of
returns-in_err-demand-2-clause-err c = passed_up c.from_residual-in_err-demand-2.result c.in_err-demand-2.field-0.0 _ c.from_residual-in_err-demand-2.ensures.1
    (fails_last_3 _ _ _ _
    (sym (moved _ _ 1 _ _ refl (c.is_device_array.ensures ∙ ap is_device_array c.at_key-devices.ensures)) ∙ c.in_ok-demand.ensures.ok)
    (sym (ap (λ ds. first_failing (devices_rules c.args.environment.now 0 [] [] ds)) (c.items_in.ensures ∙ ap items_in c.at_key-devices.ensures)) ∙ c.in_ok-check_devices.ensures.ok)
    (Reports-same _ _ _ (moved _ _ 5 _ _ refl c.has_only-is_all.ensures) c.in_err-demand-2.ensures.err))

pub returns-clause-ok : goal.returns-clause-ok
unfolding rules_of
returns-clause-ok c = all_hold_3 _ _ _
    (sym (moved _ _ 1 _ _ refl (c.is_device_array.ensures ∙ ap is_device_array c.at_key-devices.ensures)) ∙ c.in_ok-demand.ensures.ok)
    (sym (ap (λ ds. first_failing (devices_rules c.args.environment.now 0 [] [] ds)) (c.items_in.ensures ∙ ap items_in c.at_key-devices.ensures)) ∙ c.in_ok-check_devices.ensures.ok)
    (sym (moved _ _ 5 _ _ refl c.has_only-is_all.ensures) ∙ c.in_ok-demand-2.ensures.ok)
