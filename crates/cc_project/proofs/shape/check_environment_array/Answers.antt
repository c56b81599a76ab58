use Rattle.std.proofs.Common.{codes, map, refl, sym, ap, ◌∙◌}
use Rattle.cc_project.specs.Rules as rule
use Rattle.cc_project.specs.Values.{text_of}
use Rattle.cc_project.proofs.Firsts.{passed_up, Reports-same, fails_at_1, fails_last_2, all_hold_2}
use Rattle.cc_project.proofs.Rounds.{moved, moved_new}
use Rattle.cc_project.proofs.shape.check_environment_array.Goals as goal

pub returns-in_err-demand_of-clause-err : goal.returns-in_err-demand_of-clause-err
returns-in_err-demand_of-clause-err c = passed_up c.from_residual.result c.in_err-demand_of.field-0.0 _ c.from_residual.ensures.1
    (fails_at_1 _ _ _
    (Reports-same _ _ _ (moved _ _ 9 _ _ c.top.ensures c.may_have_array.ensures) c.in_err-demand_of.ensures.err))

pub returns-in_err-check_environment-clause-err : goal.returns-in_err-check_environment-clause-err
returns-in_err-check_environment-clause-err c = passed_up c.from_residual-in_err-check_environment.result c.in_err-check_environment.field-0.0 _ c.from_residual-in_err-check_environment.ensures.1
    (fails_last_2 _ _ _
    (sym (moved _ _ 9 _ _ c.top.ensures c.may_have_array.ensures) ∙ c.in_ok-demand_of.ensures.ok)
    (Reports-same _ _ _ (moved_new (codes "environment") _ 9 (rule.is_environment c.args.entries.now) _ _ _ _ refl c.new-environment.ensures (ap (map text_of) c.items_in.ensures)) c.in_err-check_environment.ensures.err))

pub returns-clause-ok : goal.returns-clause-ok
returns-clause-ok c = all_hold_2 _ _
    (sym (moved _ _ 9 _ _ c.top.ensures c.may_have_array.ensures) ∙ c.in_ok-demand_of.ensures.ok)
    (sym (moved_new (codes "environment") _ 9 (rule.is_environment c.args.entries.now) _ _ _ _ refl c.new-environment.ensures (ap (map text_of) c.items_in.ensures)) ∙ c.in_ok-check_environment.ensures.ok)
