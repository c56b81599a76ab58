-- Marks that are set, and the work that this makes.
use Rattle.std.proofs.Common.{◌≡◌, ℕ, zero, suc, ◌+◌, ◌<◌, inl, inr, ⊎_elim, List, [], ◌∷◌, ◌++◌, length, Some, Bool, true, false, refl, sym, ap, ◌∙◌, subst, arith, length-append, length-set}
use Rattle.std.specs.Prelude.{slice_get, slice_set, Contains, replicate}
use Rattle.std.proofs.lemmas.Bool.{cases_eq}
use Rattle.std.proofs.lemmas.List.Elements.{Contains-push, Contains-push_cases, Contains-append_left, Contains-append_cases, Contains-append_right}
use Rattle.cc_base.specs.Edges.{IsMarked}
use Rattle.cc_base.specs.Search.{unmarked_count, MarksAll}
use Rattle.cc_base.proofs.Lists.{Contains-one, slice_get-set_same, slice_get-set_other}

-- a new mark leaves one point less without a mark
unmarked_count-set : (marks : List Bool) (i : ℕ) → slice_get marks i ≡ Some false → unmarked_count (slice_set marks i true) + 1 ≡ unmarked_count marks
unmarked_count-set [] i h = absurd (let e = h in cc)
unmarked_count-set (true ∷ marks) zero h = absurd (let e = h in cc)
unmarked_count-set (false ∷ marks) zero h = omega arith
unmarked_count-set (true ∷ marks) (suc i) h = unmarked_count-set marks i h
unmarked_count-set (false ∷ marks) (suc i) h = omega (arith, unmarked_count-set marks i h)

-- a point is marked that was not
pub marks_new : (marks : List Bool) (work : List ℕ) (point : ℕ) → slice_get marks point ≡ Some false → point < length marks → MarksAll marks (slice_set marks point true) work (work ++ point ∷ []) (point ∷ [])
marks_new marks work point free within = record {
  same_length = length-set marks point true;
  marks_kept = λ v m. slice_get-set_other marks point v true (λ e. (let q : slice_get marks point ≡ Some true = ap (slice_get marks) (sym e) ∙ m in cc)) ∙ m;
  marked = λ v c. ap (slice_get (slice_set marks point true)) (Contains-one v point c) ∙ slice_get-set_same marks point true within;
  only = λ v m. ⊎_elim
      (λ e. inr (subst (Contains (point ∷ [])) (sym e) (Contains-push [] point), subst (Contains (work ++ point ∷ [])) (sym e) (Contains-push work point)))
      (λ ne. inl (sym (slice_get-set_other marks point v true ne) ∙ m))
      (cases_eq v point);
  work_kept = λ v c. Contains-append_left work (point ∷ []) v c;
  work_only = λ v c. ⊎_elim inl (λ e. inr (subst (Contains (point ∷ [])) e (Contains-push [] point))) (Contains-push_cases work point v c);
  same_count = omega (arith, unmarked_count-set marks point free, length-append work (point ∷ []));
}

-- a point is marked already
pub marks_old : (marks : List Bool) (work : List ℕ) (point : ℕ) → IsMarked marks point → MarksAll marks marks work work (point ∷ [])
marks_old marks work point m = record {
  same_length = refl;
  marks_kept = λ v h. h;
  marked = λ v c. ap (slice_get marks) (Contains-one v point c) ∙ m;
  only = λ v h. inl h;
  work_kept = λ v c. c;
  work_only = λ v c. inl c;
  same_count = refl;
}

-- some points are marked, and then some more
pub marks_on : (a b c : List Bool) (u v w points more : List ℕ) → MarksAll a b u v points → MarksAll b c v w more → MarksAll a c u w (points ++ more)
marks_on a b c u v w points more f g = record {
  same_length = g.same_length ∙ f.same_length;
  marks_kept = λ x h. g.marks_kept x (f.marks_kept x h);
  marked = λ x h. ⊎_elim (λ p. g.marks_kept x (f.marked x p)) (g.marked x) (Contains-append_cases points more x h);
  only = λ x h. ⊎_elim
      (λ p. ⊎_elim inl (λ q. inr (Contains-append_left points more x q.0, g.work_kept x q.1)) (f.only x p))
      (λ q. inr (Contains-append_right points more x q.0, q.1))
      (g.only x h);
  work_kept = λ x h. g.work_kept x (f.work_kept x h);
  work_only = λ x h. ⊎_elim
      (λ p. ⊎_elim inl (λ q. inr (Contains-append_left points more x q)) (f.work_only x p))
      (λ q. inr (Contains-append_right points more x q))
      (g.work_only x h);
  same_count = g.same_count ∙ f.same_count;
}

-- no point is marked where all marks are false
pub IsMarked-replicate : (n v : ℕ) → IsMarked (replicate n false) v → ⊥
IsMarked-replicate zero v h = let e = h in cc
IsMarked-replicate (suc n) zero h = let e = h in cc
IsMarked-replicate (suc n) (suc v) h = IsMarked-replicate n v h
