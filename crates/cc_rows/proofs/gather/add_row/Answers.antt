use Rattle.std.proofs.Common.{◌∷◌, [], ◌++◌, List, inl, inr, ⊎_elim, subst, sym}
use Rattle.std.specs.Prelude.{Contains}
use Rattle.std.proofs.lemmas.List.Elements.{Contains-push, Contains-push_cases, Contains-append_left}
use Rattle.cc_rows.proofs.gather.add_row.Goals as goal

pub returns-clause-added : goal.returns-clause-added
returns-clause-added g c = λ x.
    let items = c.in_ok-push.ensures.items in
    let rows = c.make_room.new.rows.items in
    let same = c.in_ok-make_room.ensures.same x in (
      λ is. ⊎_elim (λ old. inl (same.0 old)) inr (Contains-push_cases rows c.args.row x (subst (λ xs. Contains xs x) items is)),
      λ y. subst (λ xs. Contains xs x) (sym items) (⊎_elim
          (λ old. Contains-append_left rows (c.args.row ∷ []) x (same.1 old))
          (λ e. subst (Contains (rows ++ c.args.row ∷ [])) e (Contains-push rows c.args.row))
          y),
    )
