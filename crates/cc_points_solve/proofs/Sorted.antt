-- What the sorted constraints are.
use Rattle.std.proofs.Common.{ℕ, zero, suc, ◌≡◌, ◌≢◌, ◌<◌, ◌≤◌, ◌⊎◌, inl, inr, ⊎_elim, List, [], ◌∷◌, ◌++◌, length, replicate, refl, sym, ap, ◌∙◌, subst, arith}
use Rattle.std.specs.Prelude.{Contains}
use Rattle.std.proofs.lemmas.Bool.{cases_eq, cases_lt}
use Rattle.std.proofs.lemmas.List.{length-set, length-replicate, get_or-set_same, get_or-set_other, get_or-replicate}
use Rattle.std.proofs.lemmas.List.Elements.{Contains-push, Contains-push_cases, Contains-append_left}
use Rattle.cc_points_base.specs.declared.constraint.Constraint.{Constraint}
use Rattle.cc_points_base.specs.declared.constraint.Constraint.TheVariants.{Has, Joins, Watches}
use Rattle.cc_points_base.specs.declared.constraint.Watch.{Watch}
use Rattle.cc_solver.specs.declared.rules.Pair.{Pair}
use Rattle.cc_solver.specs.declared.rules.Edge.{Edge}
use Rattle.cc_points_solve.specs.Problems.{with_pair, givens, with_edge, all_joins, row_of, put, with_watch, tabled}
use Rattle.cc_points_solve.proofs.Lists.{none, cons_cases, here, later}

-- pairs
pair_kept : (c : Constraint) (out : List Pair) (p : Pair) → Contains out p → Contains (with_pair c out) p
pair_kept (Has h t) out p is = Contains-append_left out _ p is
pair_kept (Joins g h) out p is = is
pair_kept (Watches h w) out p is = is

pair_cases : (c : Constraint) (out : List Pair) (p : Pair) → Contains (with_pair c out) p → Contains out p ⊎ (c ≡ Has p.holder p.target)
pair_cases (Has h t) out p is = ⊎_elim inl (λ e. inr (ap (λ (q : Pair). Has q.holder q.target) e)) (Contains-push_cases out _ p is)
pair_cases (Joins g h) out p is = inl is
pair_cases (Watches h w) out p is = inl is

pair_new : (c : Constraint) (out : List Pair) (p : Pair) → c ≡ Has p.holder p.target → Contains (with_pair c out) p
pair_new c out p e = subst (λ d. Contains (with_pair d out) p) (sym e) (Contains-push out p)

pub givens_has : (cs : List Constraint) (out : List Pair) (p : Pair) → Contains out p ⊎ Contains cs (Has p.holder p.target) → Contains (givens cs out) p
givens_has [] out p (inl is) = is
givens_has [] out p (inr never) = absurd (none _ never)
givens_has (c ∷ cs) out p (inl is) = givens_has cs (with_pair c out) p (inl (pair_kept c out p is))
givens_has (c ∷ cs) out p (inr is) = ⊎_elim
    (λ e. givens_has cs (with_pair c out) p (inl (pair_new c out p e)))
    (λ more. givens_has cs (with_pair c out) p (inr more))
    (cons_cases c cs _ is)

pub givens_only : (cs : List Constraint) (out : List Pair) (p : Pair) → Contains (givens cs out) p → Contains out p ⊎ Contains cs (Has p.holder p.target)
givens_only [] out p is = inl is
givens_only (c ∷ cs) out p is = ⊎_elim
    (λ old. ⊎_elim inl (λ e. inr (subst (Contains (c ∷ cs)) e (here c cs))) (pair_cases c out p old))
    (λ more. inr (later c cs _ more))
    (givens_only cs (with_pair c out) p is)

-- edges
edge_kept : (c : Constraint) (out : List Edge) (p : Edge) → Contains out p → Contains (with_edge c out) p
edge_kept (Has h t) out p is = is
edge_kept (Joins g h) out p is = Contains-append_left out _ p is
edge_kept (Watches h w) out p is = is

edge_cases : (c : Constraint) (out : List Edge) (p : Edge) → Contains (with_edge c out) p → Contains out p ⊎ (c ≡ Joins p.from p.to)
edge_cases (Has h t) out p is = inl is
edge_cases (Joins g h) out p is = ⊎_elim inl (λ e. inr (ap (λ (q : Edge). Joins q.from q.to) e)) (Contains-push_cases out _ p is)
edge_cases (Watches h w) out p is = inl is

edge_new : (c : Constraint) (out : List Edge) (p : Edge) → c ≡ Joins p.from p.to → Contains (with_edge c out) p
edge_new c out p e = subst (λ d. Contains (with_edge d out) p) (sym e) (Contains-push out p)

pub joins_has : (cs : List Constraint) (out : List Edge) (p : Edge) → Contains out p ⊎ Contains cs (Joins p.from p.to) → Contains (all_joins cs out) p
joins_has [] out p (inl is) = is
joins_has [] out p (inr never) = absurd (none _ never)
joins_has (c ∷ cs) out p (inl is) = joins_has cs (with_edge c out) p (inl (edge_kept c out p is))
joins_has (c ∷ cs) out p (inr is) = ⊎_elim
    (λ e. joins_has cs (with_edge c out) p (inl (edge_new c out p e)))
    (λ more. joins_has cs (with_edge c out) p (inr more))
    (cons_cases c cs _ is)

pub joins_only : (cs : List Constraint) (out : List Edge) (p : Edge) → Contains (all_joins cs out) p → Contains out p ⊎ Contains cs (Joins p.from p.to)
joins_only [] out p is = inl is
joins_only (c ∷ cs) out p is = ⊎_elim
    (λ old. ⊎_elim inl (λ e. inr (subst (Contains (c ∷ cs)) e (here c cs))) (edge_cases c out p old))
    (λ more. inr (later c cs _ more))
    (joins_only cs (with_edge c out) p is)

-- what the targets of a holder do
abbrev Table : Type 0
Table = List (List Watch)

watch_long : (c : Constraint) (table : Table) → length (with_watch c table) ≡ length table
watch_long (Has h t) table = refl
watch_long (Joins g h) table = refl
watch_long (Watches h w) table = length-set table h (row_of table h ++ w ∷ [])

put_same : (table : Table) (h : ℕ) (w : Watch) → h < length table → row_of (put h w table) h ≡ row_of table h ++ w ∷ []
put_same table h w lt = get_or-set_same table h (row_of table h ++ w ∷ []) [] lt

put_other : (table : Table) (h k : ℕ) (w : Watch) → k ≢ h → row_of (put h w table) k ≡ row_of table k
put_other table h k w ne = get_or-set_other table h k (row_of table h ++ w ∷ []) [] ne

watch_kept : (c : Constraint) (table : Table) (k : ℕ) (v : Watch) → k < length table → Contains (row_of table k) v → Contains (row_of (with_watch c table) k) v
watch_kept (Has h t) table k v lt is = is
watch_kept (Joins g h) table k v lt is = is
watch_kept (Watches h w) table k v lt is = ⊎_elim
    (λ e. subst (λ i. Contains (row_of (put h w table) i) v) (sym e) (subst (λ xs. Contains xs v) (sym (put_same table h w (omega (arith, lt, e)))) (Contains-append_left (row_of table h) _ v (subst (λ i. Contains (row_of table i) v) e is))))
    (λ ne. subst (λ xs. Contains xs v) (sym (put_other table h k w ne)) is)
    (cases_eq k h)

watch_cases : (c : Constraint) (table : Table) (k : ℕ) (v : Watch) → k < length table → Contains (row_of (with_watch c table) k) v → Contains (row_of table k) v ⊎ (c ≡ Watches k v)
watch_cases (Has h t) table k v lt is = inl is
watch_cases (Joins g h) table k v lt is = inl is
watch_cases (Watches h w) table k v lt is = ⊎_elim
    (λ e. ⊎_elim
    (λ old. inl (subst (λ i. Contains (row_of table i) v) (sym e) old))
    (λ f. inr (ap (λ i. Watches i w) (sym e) ∙ ap (Watches k) f))
    (Contains-push_cases (row_of table h) w v (subst (λ xs. Contains xs v) (put_same table h w (omega (arith, lt, e))) (subst (λ i. Contains (row_of (put h w table) i) v) e is))))
    (λ ne. inl (subst (λ xs. Contains xs v) (put_other table h k w ne) is))
    (cases_eq k h)

watch_new : (c : Constraint) (table : Table) (k : ℕ) (v : Watch) → k < length table → c ≡ Watches k v → Contains (row_of (with_watch c table) k) v
watch_new c table k v lt e = subst (λ d. Contains (row_of (with_watch d table) k) v) (sym e) (subst (λ xs. Contains xs v) (sym (put_same table k v lt)) (Contains-push (row_of table k) v))

pub tabled_has : (cs : List Constraint) (table : Table) (k : ℕ) (v : Watch) → k < length table → Contains (row_of table k) v ⊎ Contains cs (Watches k v) → Contains (row_of (tabled cs table) k) v
tabled_has [] table k v lt (inl is) = is
tabled_has [] table k v lt (inr never) = absurd (none _ never)
tabled_has (c ∷ cs) table k v lt (inl is) = tabled_has cs (with_watch c table) k v (subst (λ n. k < n) (sym (watch_long c table)) lt) (inl (watch_kept c table k v lt is))
tabled_has (c ∷ cs) table k v lt (inr is) = ⊎_elim
    (λ e. tabled_has cs (with_watch c table) k v (subst (λ n. k < n) (sym (watch_long c table)) lt) (inl (watch_new c table k v lt e)))
    (λ more. tabled_has cs (with_watch c table) k v (subst (λ n. k < n) (sym (watch_long c table)) lt) (inr more))
    (cons_cases c cs _ is)

pub tabled_only : (cs : List Constraint) (table : Table) (k : ℕ) (v : Watch) → k < length table → Contains (row_of (tabled cs table) k) v → Contains (row_of table k) v ⊎ Contains cs (Watches k v)
tabled_only [] table k v lt is = inl is
tabled_only (c ∷ cs) table k v lt is = ⊎_elim
    (λ old. ⊎_elim inl (λ e. inr (subst (Contains (c ∷ cs)) e (here c cs))) (watch_cases c table k v lt old))
    (λ more. inr (later c cs _ more))
    (tabled_only cs (with_watch c table) k v (subst (λ n. k < n) (sym (watch_long c table)) lt) is)

pub none_yet : (holders k : ℕ) (v : Watch) → k < holders → Contains (row_of (replicate holders []) k) v → ⊥
none_yet holders k v lt is = none v (subst (λ (xs : List Watch). Contains xs v) (get_or-replicate holders k [] [] lt) is)

pub tabled_long : (cs : List Constraint) (table : Table) → length (tabled cs table) ≡ length table
tabled_long [] table = refl
tabled_long (c ∷ cs) table = tabled_long cs (with_watch c table) ∙ watch_long c table

row_past : (table : Table) (k : ℕ) (v : Watch) → length table ≤ k → Contains (row_of table k) v → ⊥
row_past [] k v le is = none v is
row_past (r ∷ table) zero v le is = absurd (omega arith)
row_past (r ∷ table) (suc k) v le is = row_past table k v (omega arith) is

-- the table of the constraints
pub table_has : (cs : List Constraint) (holders k : ℕ) (v : Watch) → k < holders → Contains cs (Watches k v) → Contains (row_of (tabled cs (replicate holders [])) k) v
table_has cs holders k v lt is = tabled_has cs (replicate holders []) k v (omega (arith, lt, length-replicate {A = List Watch} holders [])) (inr is)

pub table_only : (cs : List Constraint) (holders k : ℕ) (v : Watch) → Contains (row_of (tabled cs (replicate holders [])) k) v → Contains cs (Watches k v)
table_only cs holders k v is = ⊎_elim
    (λ lt. ⊎_elim (λ never. absurd (none_yet holders k v lt never)) (λ y. y) (tabled_only cs (replicate holders []) k v (omega (arith, lt, length-replicate {A = List Watch} holders [])) is))
    (λ ge. absurd (row_past (tabled cs (replicate holders [])) k v (omega (arith, ge, tabled_long cs (replicate holders []), length-replicate {A = List Watch} holders [])) is))
    (cases_lt k holders)
