use Rattle.std.proofs.Common.{◌≡◌, ◌≢◌, ℕ, inl, inr, ⊎_elim, Err, List, [], sym, ap, ◌∙◌, arith}
use Rattle.std.proofs.lemmas.Bool.{cases_eq}
use Rattle.cc_blocks.specs.declared.cell.Cell.{Cell}
use Rattle.cc_blocks.specs.Cells.{row_bit}
use Rattle.cc_solver.specs.Solving.{In}
use Rattle.cc_solver.proofs.solving.add_pair.Goals as goal
use Rattle.std.proofs.lemmas.Result.{err_from_is_err_and}

row_only : (cells before : List Cell) (target : ℕ) → before ≡ [] → ((t : ℕ) → t ≢ target → row_bit cells t ≡ row_bit before t) → (t : ℕ) → In cells t → t ≡ target
unfolding row_bit
row_only cells before target none others t is = elim (cases_eq t target) [
  | inl e ↦ e
  | inr ne ↦ absurd (let z = others t ne ∙ ap (λ xs. row_bit xs t) none in omega arith)
]

pub returns-clause-grows : goal.returns-clause-grows
returns-clause-grows c =
    let l = c.in_ok-give.ensures.grows in
    record {
      same_length = l.same_length;
      kept = l.kept;
      only = λ h t is. ⊎_elim inl (λ n. inr (n.0, row_only c.add.new.self.cells.items c.new-row.result.cells.items c.args.pair.target c.new-row.ensures c.in_ok-add.ensures.others t n.1)) (l.only h t is);
      news = l.news;
      fresh_kept = l.fresh_kept;
      paid = l.paid;
    }

pub returns-clause-got : goal.returns-clause-got
returns-clause-got c = c.in_ok-give.ensures.got c.args.pair.target c.in_ok-add.ensures.at

pub returns-in_err-give-clause-many : goal.returns-in_err-give-clause-many
returns-in_err-give-clause-many c = λ is.
    let p = err_from_is_err_and c.from_residual-in_err-give.result c.from_residual-in_err-give.ensures.1 in
    let x = c.in_err-give.ensures.many (ap Err (sym p.2) ∙ sym p.1 ∙ is) in
    record {
      many = x.many;
      only = λ h t has. ⊎_elim inl (λ n. inr (n.0, row_only c.add.new.self.cells.items c.new-row.result.cells.items c.args.pair.target c.new-row.ensures c.in_ok-add.ensures.others t n.1)) (x.only h t has);
    }
