-- A holder that was taken from the work.
use Rattle.std.proofs.Common.{◌≡◌, ◌≢◌, ℕ, zero, suc, ◌<◌, ◌⊎◌, inl, inr, ⊎_elim, List, ◌∷◌, length, refl, sym, ap, ◌∙◌, subst, arith}
use Rattle.std.specs.Prelude.{Contains}
use Rattle.std.proofs.lemmas.Bool.{cases_eq}
use Rattle.cc_blocks.specs.declared.cell.Cell.{Cell}
use Rattle.cc_blocks.specs.declared.table.Rows.{Rows}
use Rattle.cc_blocks.specs.Cells.{row_bit}
use Rattle.cc_blocks.specs.Pairs.{pair_bit}
use Rattle.cc_solver.specs.declared.state.State.{State}
use Rattle.cc_solver.specs.declared.state.Limits.{Limits}
use Rattle.cc_solver.specs.Solving.{Has, IsState, Takes}

cons_cases : (x : ℕ) (xs : List ℕ) (h : ℕ) → Contains (x ∷ xs) h → Contains xs h ⊎ (x ≡ h)
cons_cases x xs h (zero, lt, e) = inr e
cons_cases x xs h (suc k, lt, e) = inl (k, omega arith, e)

cons_more : (x : ℕ) (xs : List ℕ) (h : ℕ) → Contains xs h → Contains (x ∷ xs) h
cons_more x xs h c = (suc c.0, omega (arith, c.1), c.2)

pub cons_first : (x : ℕ) (xs : List ℕ) → Contains (x ∷ xs) x
cons_first x xs = (0, omega arith, refl)

module _ (limits : Limits) (s : State) (fresh : Rows) (w : State) (holder : ℕ) (delta : List Cell) (old : IsState limits s) (popped : s.work.items ≡ holder ∷ w.work.items)
    (long : length fresh.rows.items ≡ length s.fresh.rows.items) (row : (t : ℕ) → row_bit delta t ≡ pair_bit s.fresh.rows.items holder t) (at : (t : ℕ) → pair_bit fresh.rows.items holder t ≡ 0)
    (others : (h t : ℕ) → h ≢ holder → pair_bit fresh.rows.items h t ≡ pair_bit s.fresh.rows.items h t) where
  was_fresh : (h t : ℕ) → Has fresh h t → (h ≡ holder → ⊥) × Has s.fresh h t
  was_fresh h t is = elim (cases_eq h holder) [
    | inl e ↦ absurd (let z = ap (λ x. pair_bit fresh.rows.items x t) e ∙ at t in omega arith)
    | inr ne ↦ (ne, sym (others h t ne) ∙ is)
  ]

  pub taken_state : IsState limits (record s { fresh = fresh; work = w.work })
  taken_state = record {
    fresh_length = long ∙ old.fresh_length;
    edges_length = old.edges_length;
    pending = λ h t is. let x = was_fresh h t is in ⊎_elim
        (λ c. c)
        (λ e. absurd (x.0 (sym e)))
        (cons_cases holder w.work.items h (subst (λ xs. Contains xs h) popped (old.pending h t x.1)));
    inside = λ h t is. old.inside h t (was_fresh h t is).1;
    work_within = λ h c. old.work_within h (subst (λ xs. Contains xs h) (sym popped) (cons_more holder w.work.items h c));
    edges_within = old.edges_within;
    counted = old.counted;
    limited = old.limited;
    told_is = old.told_is;
    told_limited = old.told_limited;
  }

  pub holder_within : holder < length s.pairs.rows.items
  holder_within = old.work_within holder (subst (λ xs. Contains xs holder) (sym popped) (cons_first holder w.work.items))

  pub takes : Takes s (record s { fresh = fresh; work = w.work }) holder delta
  takes = record {
    pairs = refl;
    edges = refl;
    count = refl;
    work = omega (arith, ap (λ (xs : List ℕ). length xs) popped);
    delta_is = λ t is. sym (row t) ∙ is;
    fresh = λ h t is. elim (cases_eq h holder) [
      | inl e ↦ inr (e, row t ∙ ap (λ x. pair_bit s.fresh.rows.items x t) (sym e) ∙ is)
      | inr ne ↦ inl (others h t ne ∙ is)
    ];
  }
