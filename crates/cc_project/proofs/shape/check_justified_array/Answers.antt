use Rattle.std.proofs.Common.{[], sym, ap, ◌∙◌}
use Rattle.cc_project.specs.Order.{justifications_rules, first_failing}
use Rattle.cc_project.proofs.Firsts.{passed_up, Reports-same, fails_at_1, fails_last_2, all_hold_2}
use Rattle.cc_project.proofs.Rounds.{moved}
use Rattle.cc_project.proofs.shape.check_justified_array.Goals as goal

pub returns-in_err-demand_of-clause-err : goal.returns-in_err-demand_of-clause-err
returns-in_err-demand_of-clause-err c = passed_up c.from_residual.result c.in_err-demand_of.field-0.0 _ c.from_residual.ensures.1
    (fails_at_1 _ _ _
    (Reports-same _ _ _ (moved _ _ 15 _ _ c.top.ensures c.may_have_array.ensures) c.in_err-demand_of.ensures.err))

pub returns-in_err-check_justifications-clause-err : goal.returns-in_err-check_justifications-clause-err
returns-in_err-check_justifications-clause-err c = passed_up c.from_residual-in_err-check_justifications.result c.in_err-check_justifications.field-0.0 _ c.from_residual-in_err-check_justifications.ensures.1
    (fails_last_2 _ _ _
    (sym (moved _ _ 15 _ _ c.top.ensures c.may_have_array.ensures) ∙ c.in_ok-demand_of.ensures.ok)
    (Reports-same _ _ _ (ap (λ ds. first_failing (justifications_rules 0 [] ds)) c.items_in.ensures) c.in_err-check_justifications.ensures.err))

pub returns-clause-ok : goal.returns-clause-ok
returns-clause-ok c = all_hold_2 _ _
    (sym (moved _ _ 15 _ _ c.top.ensures c.may_have_array.ensures) ∙ c.in_ok-demand_of.ensures.ok)
    (sym (ap (λ ds. first_failing (justifications_rules 0 [] ds)) c.items_in.ensures) ∙ c.in_ok-check_justifications.ensures.ok)
