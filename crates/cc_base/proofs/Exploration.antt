-- How a search goes on, and what it has found when no work is left.
use Rattle.std.proofs.Common.{◌≡◌, ℕ, ◌<◌, inl, inr, ⊎_elim, List, [], ◌∷◌, ◌++◌, length, Some, Bool, true, sym, ap, ◌∙◌, subst, arith}
use Rattle.std.specs.Prelude.{slice_get, Contains, ◌↔◌}
use Rattle.std.specs.declared.vec.Vec.{Vec}
use Rattle.std.specs.declared.alloc.Global.{Global}
use Rattle.std.proofs.lemmas.Option.{slice_get_within}
use Rattle.std.proofs.lemmas.List.Elements.{Contains-push, Contains-push_cases, Contains-append_left}
use Rattle.cc_base.specs.Edges.{IsMarked}
use Rattle.cc_base.specs.Paths.{Reaches, Start, More}
use Rattle.cc_base.specs.Search.{Rows, HasEdge, MarksAll, Explores}
use Rattle.cc_base.proofs.Lists.{Contains-nil, Contains-one}
use Rattle.cc_base.proofs.Rows.{row_has}

-- a search begins with the start alone
pub explores_from : (rows : Rows) (start : ℕ) (none marks : List Bool) (work : List ℕ) → length none ≡ length rows → ((v : ℕ) → IsMarked none v → ⊥) → MarksAll none marks [] work (start ∷ []) → Explores rows start marks work
explores_from rows start none marks work long blank m = record {
  same_length = m.same_length ∙ long;
  start_marked = m.marked start (Contains-push [] start);
  reached = λ v h. ⊎_elim (λ p. absurd (blank v p)) (λ p. subst (Reaches (HasEdge rows) start) (sym (Contains-one v start p.0)) Start) (m.only v h);
  work_marked = λ v c. ⊎_elim (λ p. absurd (Contains-nil v p)) (m.marked v) (m.work_only v c);
  followed = λ a b h edge. ⊎_elim (λ p. absurd (blank a p)) (λ p. inr p.1) (m.only a h);
}

-- a point is taken from the work, and what comes next after it is marked
pub explores_on : (rows : Rows) (start point : ℕ) (row : Vec ℕ Global) (marks marks' : List Bool) (work work' : List ℕ) → slice_get rows point ≡ Some row → Explores rows start marks (work ++ point ∷ []) → MarksAll marks marks' work work' row.items → Explores rows start marks' work'
explores_on rows start point row marks marks' work work' at e m = record {
  same_length = m.same_length ∙ e.same_length;
  start_marked = m.marks_kept start e.start_marked;
  reached = λ v h. ⊎_elim
      (e.reached v)
      (λ p. More (e.reached point (e.work_marked point (Contains-push work point))) (record { row = row; at = at; has = p.0 }))
      (m.only v h);
  work_marked = λ v c. ⊎_elim (λ p. m.marks_kept v (e.work_marked v (Contains-append_left work (point ∷ []) v p))) (m.marked v) (m.work_only v c);
  followed = λ a b h edge. ⊎_elim
      (λ old. ⊎_elim
      (λ p. inl (m.marks_kept b p))
      (λ p. ⊎_elim (λ q. inr (m.work_kept a q)) (λ same. inl (m.marked b (row_has rows a b row (ap (slice_get rows) (sym same) ∙ at) edge))) (Contains-push_cases work point a p))
      (e.followed a b old edge))
      (λ new. inr new.1)
      (m.only a h);
}

-- where no work is left, each point that can be reached is marked
marked_from_Reaches : (rows : Rows) (start : ℕ) (marks : List Bool) → Explores rows start marks [] → (v : ℕ) → Reaches (HasEdge rows) start v → IsMarked marks v
marked_from_Reaches rows start marks e v Start = e.start_marked
marked_from_Reaches rows start marks e v (More {a = a} path edge) = ⊎_elim (λ h. h) (λ c. absurd (Contains-nil a c)) (e.followed a v (marked_from_Reaches rows start marks e a path) edge)

-- where no work is left, the marked points are those that can be reached
pub marked_exactly : (rows : Rows) (start : ℕ) (marks : List Bool) → Explores rows start marks [] → (v : ℕ) → IsMarked marks v ↔ Reaches (HasEdge rows) start v
marked_exactly rows start marks e v = (e.reached v, marked_from_Reaches rows start marks e v)

-- a point of the work has a row
pub work_within : (rows : Rows) (start point : ℕ) (marks : List Bool) (work rest : List ℕ) → Explores rows start marks work → work ≡ rest ++ point ∷ [] → point < length rows
work_within rows start point marks work rest e is =
    let has = subst (λ xs. Contains xs point) (sym is) (Contains-push rest point) in
    omega (arith, slice_get_within marks point true (e.work_marked point has), e.same_length)
