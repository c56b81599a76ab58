use Rattle.std.proofs.Common.{codes, ◌++◌, map, refl, sym, ap, ◌∙◌}
use Rattle.cc_project.specs.Rules as rule
use Rattle.cc_project.specs.Values.{text_of}
use Rattle.cc_project.specs.Views.{all_data}
use Rattle.cc_project.proofs.Firsts.{passed_up, Reports-same, fails_at_1, fails_last_2, all_hold_2}
use Rattle.cc_project.proofs.Rounds.{moved, moved_new}
use Rattle.cc_project.proofs.shape.check_entry_array.Goals as goal

pub returns-in_err-demand_of-clause-err : goal.returns-in_err-demand_of-clause-err
returns-in_err-demand_of-clause-err c = passed_up c.from_residual.result c.in_err-demand_of.field-0.0 _ c.from_residual.ensures.1
    (fails_at_1 _ _ _
    (Reports-same _ _ _ (moved _ _ 8 _ _ c.top.ensures c.has_array.ensures) c.in_err-demand_of.ensures.err))

pub returns-in_err-check_entries-clause-err : goal.returns-in_err-check_entries-clause-err
returns-in_err-check_entries-clause-err c = passed_up c.from_residual-in_err-check_entries.result c.in_err-check_entries.field-0.0 _ c.from_residual-in_err-check_entries.ensures.1
    (fails_last_2 _ _ _
    (sym (moved _ _ 8 _ _ c.top.ensures c.has_array.ensures) ∙ c.in_ok-demand_of.ensures.ok)
    (Reports-same _ _ _ (moved_new (codes "entries") _ 8 rule.is_entry _ _ _ _ refl c.requires (ap (map text_of) c.items_in.ensures)) c.in_err-check_entries.ensures.err))

pub returns-clause-ok : goal.returns-clause-ok
returns-clause-ok c = all_hold_2 _ _
    (sym (moved _ _ 8 _ _ c.top.ensures c.has_array.ensures) ∙ c.in_ok-demand_of.ensures.ok)
    (sym (moved_new (codes "entries") _ 8 rule.is_entry _ _ _ _ refl c.requires (ap (map text_of) c.items_in.ensures)) ∙ c.in_ok-check_entries.ensures.ok)

pub returns-clause-entries : goal.returns-clause-entries
returns-clause-entries c = c.in_ok-check_entries.ensures.entries ∙ ap (λ seen. seen ++ map text_of (all_data c.items_in.result.now)) c.requires ∙ ap (map text_of) c.items_in.ensures
