use Rattle.std.proofs.Common.{sym, ◌∙◌}
use Rattle.cc_project.specs.Keys.{field_text}
use Rattle.cc_project.specs.Views.{test_of}
use Rattle.cc_project.proofs.Firsts.{passed_up, Reports-same, fails_at_1, fails_last_2, all_hold_2}
use Rattle.cc_project.proofs.Rounds.{moved_items}
use Rattle.cc_project.proofs.shape.check_array.Goals as goal

pub returns-in_err-demand_of-clause-err : goal.returns-in_err-demand_of-clause-err
returns-in_err-demand_of-clause-err c = passed_up c.from_residual.result c.in_err-demand_of.field-0.0 _ c.from_residual.ensures.1
    (fails_at_1 _ _ _
    c.in_err-demand_of.ensures.err)

pub returns-in_err-check_items-clause-err : goal.returns-in_err-check_items-clause-err
returns-in_err-check_items-clause-err c = passed_up c.from_residual-in_err-check_items.result c.in_err-check_items.field-0.0 _ c.from_residual-in_err-check_items.ensures.1
    (fails_last_2 _ _ _
    c.in_ok-demand_of.ensures.ok
    (Reports-same _ _ _ (moved_items (field_text c.args.field) c.args.rule (test_of c.args.kind) _ _ c.items_in.ensures) c.in_err-check_items.ensures.err))

pub returns-clause-ok : goal.returns-clause-ok
returns-clause-ok c = all_hold_2 _ _
    c.in_ok-demand_of.ensures.ok
    (sym (moved_items (field_text c.args.field) c.args.rule (test_of c.args.kind) _ _ c.items_in.ensures) ∙ c.in_ok-check_items.ensures.ok)
