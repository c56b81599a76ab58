-- A table that was given targets.
use Rattle.std.proofs.Common.{◌≡◌, ◌≢◌, ℕ, ◌+◌, ◌-◌, ◌<◌, ◌≤◌, ◌⊎◌, inl, inr, ⊎_elim, max, List, [], ◌∷◌, ◌++◌, length, take, sym, ap, ◌∙◌, subst, arith, length-append}
use Rattle.std.specs.Prelude.{Contains}
use Rattle.std.proofs.lemmas.Bool.{cases_eq, cases_lt}
use Rattle.std.proofs.lemmas.List.Elements.{Contains-push, Contains-push_cases, Contains-append_left}
use Rattle.cc_blocks.specs.declared.row.Row.{Row}
use Rattle.cc_blocks.specs.Pairs.{pair_bit, pair_count}
use Rattle.cc_blocks.proofs.Tables.{pair_bit-lt}
use Rattle.cc_solver.specs.declared.state.State.{State}
use Rattle.cc_solver.specs.declared.state.Limits.{Limits}
use Rattle.cc_solver.specs.Solving.{Has, IsState, Grows, Exceeds, Told}
use Rattle.cc_solver.proofs.Counted.{told_in, told_out}

pub record IsGiven (pairs pairs' fresh fresh' : List Row) (to : ℕ) (src : ℕ → ℕ) (added : ℕ) : Type 0 where
  pub same_length : length pairs' ≡ length pairs
  pub fresh_length : length fresh' ≡ length fresh
  pub bits : (t : ℕ) → src t < 2
  pub at : (t : ℕ) → pair_bit pairs' to t ≡ max (pair_bit pairs to t) (src t)
  pub others : (h t : ℕ) → h ≢ to → pair_bit pairs' h t ≡ pair_bit pairs h t
  pub fresh_at : (t : ℕ) → pair_bit fresh' to t ≡ max (pair_bit fresh to t) (src t - pair_bit pairs to t)
  pub fresh_others : (h t : ℕ) → h ≢ to → pair_bit fresh' h t ≡ pair_bit fresh h t
  pub count : pair_count pairs' ≡ pair_count pairs + added
  pub none : added ≡ 0 → (t : ℕ) → src t ≤ pair_bit pairs to t

module _ (pairs pairs' fresh fresh' : List Row) (to : ℕ) (src : ℕ → ℕ) (added : ℕ) (g : IsGiven pairs pairs' fresh fresh' to src added) where
  pub kept : (h t : ℕ) → pair_bit pairs h t ≡ 1 → pair_bit pairs' h t ≡ 1
  kept h t is = elim (cases_eq h to) [
    | inl e ↦ (let is' : pair_bit pairs to t ≡ 1 = ap (λ x. pair_bit pairs x t) (sym e) ∙ is in ap (λ x. pair_bit pairs' x t) e ∙ omega (arith, g.at t, g.bits t))
    | inr ne ↦ g.others h t ne ∙ is
  ]

  pub got : (t : ℕ) → src t ≡ 1 → pair_bit pairs' to t ≡ 1
  got t is = omega (arith, g.at t, pair_bit-lt pairs to t)

  pub only : (h t : ℕ) → pair_bit pairs' h t ≡ 1 → (pair_bit pairs h t ≡ 1) ⊎ ((h ≡ to) × (src t ≡ 1))
  only h t is = elim (cases_eq h to) [
    | inl e ↦ (let is' : pair_bit pairs' to t ≡ 1 = ap (λ x. pair_bit pairs' x t) (sym e) ∙ is in
        elim (cases_eq (src t) 1) [
          | inl one ↦ inr (e, one)
          | inr ne ↦ inl (ap (λ x. pair_bit pairs x t) e ∙ omega (arith, g.at t, g.bits t))
        ])
    | inr ne ↦ inl (sym (g.others h t ne) ∙ is)
  ]

  pub news : (h t : ℕ) → pair_bit pairs' h t ≡ 1 → (pair_bit pairs h t ≡ 1) ⊎ (pair_bit fresh' h t ≡ 1)
  news h t is = elim (cases_eq h to) [
    | inl e ↦ (let is' : pair_bit pairs' to t ≡ 1 = ap (λ x. pair_bit pairs' x t) (sym e) ∙ is in
        elim (cases_eq (pair_bit pairs to t) 1) [
          | inl one ↦ inl (ap (λ x. pair_bit pairs x t) e ∙ one)
          | inr ne ↦ inr (ap (λ x. pair_bit fresh' x t) e ∙ omega (arith, g.at t, g.bits t, g.fresh_at t, pair_bit-lt pairs to t, pair_bit-lt fresh to t))
        ])
    | inr ne ↦ inl (sym (g.others h t ne) ∙ is)
  ]

  pub fresh_kept : (h t : ℕ) → pair_bit fresh h t ≡ 1 → pair_bit fresh' h t ≡ 1
  fresh_kept h t is = elim (cases_eq h to) [
    | inl e ↦ (let is' : pair_bit fresh to t ≡ 1 = ap (λ x. pair_bit fresh x t) (sym e) ∙ is in ap (λ x. pair_bit fresh' x t) e ∙ omega (arith, g.fresh_at t, g.bits t))
    | inr ne ↦ g.fresh_others h t ne ∙ is
  ]

  pub fresh_only : (h t : ℕ) → pair_bit fresh' h t ≡ 1 → (pair_bit fresh h t ≡ 1) ⊎ ((h ≡ to) × (0 < added) × (pair_bit pairs' h t ≡ 1))
  fresh_only h t is = elim (cases_eq h to) [
    | inl e ↦ (let is' : pair_bit fresh' to t ≡ 1 = ap (λ x. pair_bit fresh' x t) (sym e) ∙ is in
        elim (cases_eq (pair_bit fresh to t) 1) [
          | inl one ↦ inl (ap (λ x. pair_bit fresh x t) e ∙ one)
          | inr ne ↦
              (let source : (src t ≡ 1) × (pair_bit pairs to t ≡ 0) = (omega (arith, g.fresh_at t, g.bits t, pair_bit-lt fresh to t), omega (arith, g.fresh_at t, g.bits t, pair_bit-lt fresh to t)) in
              inr (e, elim (cases_eq added 0) [ inl z ↦ absurd (let le = g.none z t in let a = source.0 in let b = source.1 in omega arith) | inr nz ↦ omega arith ], ap (λ x. pair_bit pairs' x t) e ∙ got t source.0))
        ])
    | inr ne ↦ inl (sym (g.fresh_others h t ne) ∙ is)
  ]

module _ (limits : Limits) (to added : ℕ) (s s' : State) (p' f' : List Row) (src : ℕ → ℕ) (g : IsGiven s.pairs.rows.items p' s.fresh.rows.items f' to src added)
    (e_p : s'.pairs.rows.items ≡ p') (e_f : s'.fresh.rows.items ≡ f') (e_e : s'.edges.rows.items ≡ s.edges.rows.items) (old : IsState limits s) (lt : to < length s.pairs.rows.items) where
  p : List Row
  p = s.pairs.rows.items

  f : List Row
  f = s.fresh.rows.items

  long : length s'.pairs.rows.items ≡ length s.pairs.rows.items
  long = ap (λ (xs : List Row). length xs) e_p ∙ g.same_length

  has : (h t : ℕ) → pair_bit s'.pairs.rows.items h t ≡ pair_bit p' h t
  has h t = ap (λ xs. pair_bit xs h t) e_p

  has_fresh : (h t : ℕ) → pair_bit s'.fresh.rows.items h t ≡ pair_bit f' h t
  has_fresh h t = ap (λ xs. pair_bit xs h t) e_f

  pub grown : (s'.count ≡ s.count + added) × (s'.count ≤ limits.room) → ((added ≡ 0) × (s'.work.items ≡ s.work.items)) ⊎ ((0 < added) × (s'.work.items ≡ s.work.items ++ to ∷ [])) → Grows s s' to (λ t. src t ≡ 1)
  grown count work = record {
    same_length = long;
    kept = λ h t is. has h t ∙ kept s.pairs.rows.items p' s.fresh.rows.items f' to src added g h t is;
    only = λ h t is. only s.pairs.rows.items p' s.fresh.rows.items f' to src added g h t (sym (has h t) ∙ is);
    news = λ h t is. ⊎_elim inl (λ x. inr (has_fresh h t ∙ x)) (news s.pairs.rows.items p' s.fresh.rows.items f' to src added g h t (sym (has h t) ∙ is));
    fresh_kept = λ h t is. has_fresh h t ∙ fresh_kept s.pairs.rows.items p' s.fresh.rows.items f' to src added g h t is;
    paid = elim work [
      | inl w ↦ (let n = ap (λ (xs : List ℕ). length xs) w.1 in omega (arith, count.0))
      | inr w ↦ (let n = ap (λ (xs : List ℕ). length xs) w.1 in omega (arith, count.0, w.0, length-append s.work.items (to ∷ [])))
    ];
  }

  pub still_state : (s'.count ≡ s.count + added) × (s'.count ≤ limits.room) → ((added ≡ 0) × (s'.work.items ≡ s.work.items)) ⊎ ((0 < added) × (s'.work.items ≡ s.work.items ++ to ∷ [])) → Told limits s.told s'.told to added → IsState limits s'
  still_state count work told = record {
    fresh_length = ap (λ (xs : List Row). length xs) e_f ∙ g.fresh_length ∙ old.fresh_length ∙ sym long;
    edges_length = ap (λ (xs : List Row). length xs) e_e ∙ old.edges_length ∙ sym long;
    pending = λ h t is. ⊎_elim
        (λ before. elim work [
          | inl w ↦ subst (λ (xs : List ℕ). Contains xs h) (sym w.1) (old.pending h t before)
          | inr w ↦ subst (λ (xs : List ℕ). Contains xs h) (sym w.1) (Contains-append_left s.work.items (to ∷ []) h (old.pending h t before))
        ])
        (λ now. elim work [
          | inl w ↦ absurd (let z = w.0 in let m = now.1 in omega arith)
          | inr w ↦ subst (λ (xs : List ℕ). Contains xs h) (sym w.1) (subst (Contains (s.work.items ++ to ∷ [])) (sym now.0) (Contains-push s.work.items to))
        ])
        (fresh_only s.pairs.rows.items p' s.fresh.rows.items f' to src added g h t (sym (has_fresh h t) ∙ is));
    inside = λ h t is. ⊎_elim
        (λ before. has h t ∙ kept s.pairs.rows.items p' s.fresh.rows.items f' to src added g h t (old.inside h t before))
        (λ now. has h t ∙ now.2)
        (fresh_only s.pairs.rows.items p' s.fresh.rows.items f' to src added g h t (sym (has_fresh h t) ∙ is));
    work_within = λ h c. elim work [
      | inl w ↦ omega (arith, old.work_within h (subst (λ (xs : List ℕ). Contains xs h) w.1 c), long)
      | inr w ↦ ⊎_elim
          (λ before. (let b = old.work_within h before in omega (arith, long)))
          (λ now. omega (arith, long))
          (Contains-push_cases s.work.items to h (subst (λ (xs : List ℕ). Contains xs h) w.1 c))
    ];
    edges_within = λ x y is. (let b = old.edges_within x y (ap (λ xs. pair_bit xs x y) (sym e_e) ∙ is) in omega (arith, long));
    counted = count.0 ∙ ap (λ n. n + added) old.counted ∙ sym g.count ∙ ap pair_count (sym e_p);
    limited = count.1;
    told_is = elim (cases_lt to limits.counters) [
      | inl in_ ↦ told.counts in_ ∙ ap (λ n. n + added) old.told_is ∙ sym (told_in s.pairs.rows.items p' limits.counters to added in_ g.others g.count) ∙ ap (λ xs. pair_count (take limits.counters xs)) (sym e_p)
      | inr ge ↦ told.rest ge ∙ old.told_is ∙ sym (told_out s.pairs.rows.items p' limits.counters to ge g.others) ∙ ap (λ xs. pair_count (take limits.counters xs)) (sym e_p)
    ];
    told_limited = told.most;
  }

  pub given : (t : ℕ) → src t ≡ 1 → Has s'.pairs to t
  given t is = has to t ∙ got s.pairs.rows.items p' s.fresh.rows.items f' to src added g t is

  pub exceeded : (to < limits.counters) × (limits.most < s.told + added) → Exceeds limits s s' to (λ t. src t ≡ 1)
  exceeded many = record {
    many = omega (arith, many.1, ap (λ xs. pair_count (take limits.counters xs)) e_p, told_in s.pairs.rows.items p' limits.counters to added many.0 g.others g.count, old.told_is);
    only = λ h t is. only s.pairs.rows.items p' s.fresh.rows.items f' to src added g h t (sym (has h t) ∙ is);
  }
