-- An edge that was added.
use Rattle.std.proofs.Common.{◌≡◌, ◌≢◌, ℕ, ◌<◌, ◌⊎◌, inl, inr, ⊎_elim, length, refl, sym, ap, ◌∙◌, arith}
use Rattle.std.proofs.lemmas.Bool.{cases_eq}
use Rattle.cc_blocks.specs.declared.table.Rows.{Rows}
use Rattle.cc_blocks.specs.Pairs.{pair_bit}
use Rattle.cc_solver.specs.declared.state.State.{State}
use Rattle.cc_solver.specs.declared.state.Limits.{Limits}
use Rattle.cc_solver.specs.Solving.{Has, IsState, Grows, Links}

module _ (old new : Rows) (from to : ℕ) (at : pair_bit new.rows.items from to ≡ 1) (others : (h t : ℕ) → (h ≡ from → t ≢ to) → pair_bit new.rows.items h t ≡ pair_bit old.rows.items h t) where
  pub edges_kept : (g h : ℕ) → Has old g h → Has new g h
  edges_kept g h is = elim (cases_eq g from) [
    | inl e ↦ elim (cases_eq h to) [
      | inl f ↦ ap (λ x. pair_bit new.rows.items x h) e ∙ ap (pair_bit new.rows.items from) f ∙ at
      | inr ne ↦ others g h (λ _. ne) ∙ is
    ]
    | inr ne ↦ others g h (λ e. absurd (ne e)) ∙ is
  ]

  pub edges_only : (g h : ℕ) → Has new g h → Has old g h ⊎ ((g ≡ from) × (h ≡ to))
  edges_only g h is = elim (cases_eq g from) [
    | inl e ↦ elim (cases_eq h to) [
      | inl f ↦ inr (e, f)
      | inr ne ↦ inl (sym (others g h (λ _. ne)) ∙ is)
    ]
    | inr ne ↦ inl (sym (others g h (λ e. absurd (ne e))) ∙ is)
  ]

module _ (limits : Limits) (s : State) (edges : Rows) (from to : ℕ) (at : pair_bit edges.rows.items from to ≡ 1) (others : (h t : ℕ) → (h ≡ from → t ≢ to) → pair_bit edges.rows.items h t ≡ pair_bit s.edges.rows.items h t)
    (long : length edges.rows.items ≡ length s.edges.rows.items) (old : IsState limits s) (to_within : to < length s.pairs.rows.items) where
  pub edges_state : IsState limits (record s { edges = edges })
  edges_state = record {
    fresh_length = old.fresh_length;
    edges_length = long ∙ old.edges_length;
    pending = old.pending;
    inside = old.inside;
    work_within = old.work_within;
    edges_within = λ g h is. ⊎_elim
        (λ before. old.edges_within g h before)
        (λ now. (let e = now.1 in omega arith))
        (edges_only s.edges edges from to at others g h is);
    counted = old.counted;
    limited = old.limited;
    told_is = old.told_is;
    told_limited = old.told_limited;
  }

  -- the edge needs no flow
  pub links_still : Has s.edges from to ⊎ (from ≡ to) → Links s (record s { edges = edges }) from to
  links_still why = record {
    grows = record {
      same_length = refl;
      kept = λ h t is. is;
      only = λ h t is. inl is;
      news = λ h t is. inl is;
      fresh_kept = λ h t is. is;
      paid = omega arith;
    };
    edge = at;
    edges_kept = edges_kept s.edges edges from to at others;
    edges_only = edges_only s.edges edges from to at others;
    got = ⊎_elim (λ h. inl h) (λ e. inr (λ t is. ap (λ x. pair_bit s.pairs.rows.items x t) (sym e) ∙ is)) why;
  }

  pub links_on : (s' : State) → Grows (record s { edges = edges }) s' to (Has s.pairs from) → ((t : ℕ) → Has s.pairs from t → Has s'.pairs to t) → s'.edges.rows.items ≡ edges.rows.items → Links s s' from to
  links_on s' g got same = record {
    grows = record { same_length = g.same_length; kept = g.kept; only = g.only; news = g.news; fresh_kept = g.fresh_kept; paid = g.paid };
    edge = ap (λ xs. pair_bit xs from to) same ∙ at;
    edges_kept = λ x y is. ap (λ xs. pair_bit xs x y) same ∙ edges_kept s.edges edges from to at others x y is;
    edges_only = λ x y is. edges_only s.edges edges from to at others x y (ap (λ xs. pair_bit xs x y) (sym same) ∙ is);
    got = inr got;
  }
