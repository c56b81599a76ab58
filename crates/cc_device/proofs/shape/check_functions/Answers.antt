use Rattle.std.proofs.Common.{map, refl, sym, ap, ◌++◌, ◌∙◌}
use Rattle.cc_project.specs.Values.{text_of}
use Rattle.cc_project.proofs.Firsts.{all_hold_2}
use Rattle.cc_project.proofs.Rounds.{moved, moved_new}
use Rattle.cc_device.specs.Keys.{member_text}
use Rattle.cc_device.specs.Rules.{is_free}
use Rattle.cc_device.proofs.Firsts.{passed_up, Reports-same, Reports-front, Reports-back}
use Rattle.cc_device.proofs.shape.check_functions.Goals as goal

pub returns-in_err-demand-clause-err : goal.returns-in_err-demand-clause-err
returns-in_err-demand-clause-err c = passed_up c.from_residual.result c.in_err-demand.field-0.0 _ c.from_residual.ensures.1
    (Reports-front _ _ _ (Reports-same _ _ _ (moved _ _ c.args.rule _ _ refl c.is_function_array-is_whole.ensures) c.in_err-demand.ensures.err))

pub returns-in_err-check_items-clause-err : goal.returns-in_err-check_items-clause-err
returns-in_err-check_items-clause-err c = passed_up c.from_residual-in_err-check_items.result c.in_err-check_items.field-0.0 _ c.from_residual-in_err-check_items.ensures.1
    (Reports-back _ _ _
    (sym (moved _ _ c.args.rule _ _ refl c.is_function_array-is_whole.ensures) ∙ c.in_ok-demand.ensures.ok)
    (Reports-same _ _ _ (moved_new (member_text c.args.device c.args.key.now) _ c.args.rule (is_free c.args.environment.now) c.args.functions.now _ _ _ refl refl (ap (map text_of) c.items_in-items.ensures)) c.in_err-check_items.ensures.err))

pub returns-clause-ok : goal.returns-clause-ok
returns-clause-ok c = all_hold_2 _ _
    (sym (moved _ _ c.args.rule _ _ refl c.is_function_array-is_whole.ensures) ∙ c.in_ok-demand.ensures.ok)
    (sym (moved_new (member_text c.args.device c.args.key.now) _ c.args.rule (is_free c.args.environment.now) c.args.functions.now _ _ _ refl refl (ap (map text_of) c.items_in-items.ensures)) ∙ c.in_ok-check_items.ensures.ok)

pub returns-clause-functions : goal.returns-clause-functions
returns-clause-functions c = c.in_ok-check_items.ensures.functions ∙ ap (λ ds. c.args.functions.now ++ map text_of ds) c.items_in-items.ensures
