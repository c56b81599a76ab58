-- Each node has the functions that it defines, and nothing else.
use Rattle.std.proofs.Common.{ℕ, zero, suc, ◌+◌, ◌<◌, ◌≡◌, ◌≢◌, ◌⊎◌, inl, inr, ⊎_elim, List, [], ◌∷◌, ◌++◌, Option, Some, None, length, replicate, refl, sym, ap, subst, arith}
use Rattle.std.specs.Prelude.{Contains, slice_get, slice_set}
use Rattle.std.proofs.lemmas.List.{length-set, length-replicate, get_or-set_same, get_or-set_other, get_or-replicate}
use Rattle.std.proofs.lemmas.List.Elements.{Contains-append_left, Contains-push, Contains-push_cases}
use Rattle.std.proofs.lemmas.Bool.Decides.{eqb_tells}
use Rattle.cc_base.proofs.Lists.{Contains-nil}
use Rattle.cc_graph.specs.Graphs.{defined_by}
use Rattle.cc_graph.specs.declared.graph.Graph.{Graph}
use Rattle.cc_program.specs.declared.function.Function.{Function}
use Rattle.cc_program.specs.declared.program.Program.{Program}
use Rattle.cc_handing.specs.Members.{IsDefinedAt, FunctionsAre}
use Rattle.cc_handing.specs.Owning.{row_of, with_function, with_functions, functions}

here : (rows : List (List ℕ)) (a f : ℕ) → a < length rows → row_of (slice_set rows a (row_of rows a ++ f ∷ [])) a ≡ row_of rows a ++ f ∷ []
here rows a f w = get_or-set_same rows a (row_of rows a ++ f ∷ []) [] w

there : (rows : List (List ℕ)) (a d f : ℕ) → d ≢ a → row_of (slice_set rows a (row_of rows a ++ f ∷ [])) d ≡ row_of rows d
there rows a d f ne = get_or-set_other rows a d (row_of rows a ++ f ∷ []) [] ne

long : (o : Option ℕ) (f : ℕ) (rows : List (List ℕ)) → length (with_function o f rows) ≡ length rows
long None f rows = refl
long (Some a) f rows = length-set rows a (row_of rows a ++ f ∷ [])

step_has : (o : Option ℕ) (f : ℕ) (rows : List (List ℕ)) (d c : ℕ) → d < length rows → Contains (row_of (with_function o f rows) d) c → Contains (row_of rows d) c ⊎ ((o ≡ Some d) × (c ≡ f))
step_has None f rows d c w has = inl has
step_has (Some a) f rows d c w has = ⊎_elim
    (λ same. let is : d ≡ a = same.1 in
    let within : a < length rows = omega (arith, is, w) in
    let at_a = subst (λ m. Contains (row_of (with_function (Some a) f rows) m) c) is has in
    let pushed = subst (λ xs. Contains xs c) (here rows a f within) at_a in
    ⊎_elim (λ old. inl (subst (λ m. Contains (row_of rows m) c) (sym is) old)) (λ new. inr (ap Some (sym is), sym new)) (Contains-push_cases (row_of rows a) f c pushed))
    (λ differ. inl (subst (λ xs. Contains xs c) (there rows a d f differ.1) has))
    (eqb_tells d a)

step_keeps : (o : Option ℕ) (f : ℕ) (rows : List (List ℕ)) (d c : ℕ) → d < length rows → Contains (row_of rows d) c → Contains (row_of (with_function o f rows) d) c
step_keeps None f rows d c w has = has
step_keeps (Some a) f rows d c w has = ⊎_elim
    (λ same. let is : d ≡ a = same.1 in
    let within : a < length rows = omega (arith, is, w) in
    let at_a = subst (λ m. Contains (row_of rows m) c) is has in
    subst (λ m. Contains (row_of (with_function (Some a) f rows) m) c) (sym is) (subst (λ xs. Contains xs c) (sym (here rows a f within)) (Contains-append_left (row_of rows a) (f ∷ []) c at_a)))
    (λ differ. subst (λ xs. Contains xs c) (sym (there rows a d f differ.1)) has)
    (eqb_tells d a)

step_gains : (f : ℕ) (rows : List (List ℕ)) (d : ℕ) → d < length rows → Contains (row_of (with_function (Some d) f rows) d) f
step_gains f rows d w = subst (λ xs. Contains xs f) (sym (here rows d f w)) (Contains-push (row_of rows d) f)

module _ (g : Graph) where
  -- one of these functions, the first of which is the i-th, is c, and the node d defines it
  record IsOne (fs : List Function) (i d c : ℕ) : Type 0 where
    k : ℕ
    f : Function
    at : slice_get fs k ≡ Some f
    defines : defined_by (slice_get g.definitions (i + k)) ≡ Some d
    is_callee : c ≡ f.declarator

  all_has : (fs : List Function) (i : ℕ) (rows : List (List ℕ)) (d c : ℕ) → d < length rows → Contains (row_of (with_functions g fs i rows) d) c → Contains (row_of rows d) c ⊎ IsOne fs i d c
  all_has [] i rows d c w has = inl has
  all_has (f ∷ fs) i rows d c w has =
      let o : Option ℕ = defined_by (slice_get g.definitions i) in
      let within = subst (λ n. d < n) (sym (long o f.declarator rows)) w in
      ⊎_elim
      (λ before. ⊎_elim inl (λ now. inr (record { k = zero; f = f; at = refl; defines = subst (λ m. defined_by (slice_get g.definitions m) ≡ Some d) (let e : i ≡ i + zero = omega arith in e) now.0; is_callee = now.1 })) (step_has o f.declarator rows d c w before))
      (λ h. inr (record { k = suc h.k; f = h.f; at = h.at; defines = subst (λ m. defined_by (slice_get g.definitions m) ≡ Some d) (let e : (i + 1) + h.k ≡ i + suc h.k = omega arith in e) h.defines; is_callee = h.is_callee }))
      (all_has fs (i + 1) (with_function o f.declarator rows) d c within has)

  all_keep : (fs : List Function) (i : ℕ) (rows : List (List ℕ)) (d c : ℕ) → d < length rows → Contains (row_of rows d) c → Contains (row_of (with_functions g fs i rows) d) c
  all_keep [] i rows d c w has = has
  all_keep (f ∷ fs) i rows d c w has =
      let o : Option ℕ = defined_by (slice_get g.definitions i) in
      all_keep fs (i + 1) (with_function o f.declarator rows) d c (subst (λ n. d < n) (sym (long o f.declarator rows)) w) (step_keeps o f.declarator rows d c w has)

  all_give : (fs : List Function) (i : ℕ) (rows : List (List ℕ)) (d k : ℕ) (f : Function) → d < length rows → slice_get fs k ≡ Some f → defined_by (slice_get g.definitions (i + k)) ≡ Some d → Contains (row_of (with_functions g fs i rows) d) f.declarator
  all_give [] i rows d k f w at defines = absurd (let e = at in cc)
  all_give (h ∷ fs) i rows d zero f w at defines =
      let same : h ≡ f = cc in
      let o : Option ℕ = defined_by (slice_get g.definitions i) in
      let is : o ≡ Some d = subst (λ m. defined_by (slice_get g.definitions m) ≡ Some d) (let e : i + zero ≡ i = omega arith in e) defines in
      let now = subst (λ v. Contains (row_of (with_function v h.declarator rows) d) h.declarator) (sym is) (step_gains h.declarator rows d w) in
      let kept = all_keep fs (i + 1) (with_function o h.declarator rows) d h.declarator (subst (λ n. d < n) (sym (long o h.declarator rows)) w) now in
      subst (λ (u : Function). Contains (row_of (with_functions g (h ∷ fs) i rows) d) u.declarator) same kept
  all_give (h ∷ fs) i rows d (suc k) f w at defines =
      let o : Option ℕ = defined_by (slice_get g.definitions i) in
      all_give fs (i + 1) (with_function o h.declarator rows) d k f (subst (λ n. d < n) (sym (long o h.declarator rows)) w) at (subst (λ m. defined_by (slice_get g.definitions m) ≡ Some d) (let e : i + suc k ≡ (i + 1) + k = omega arith in e) defines)

none_in : (n d c : ℕ) → d < n → Contains (row_of (replicate n []) d) c → ⊥
none_in n d c w has = Contains-nil c (subst (λ (xs : List ℕ). Contains xs c) (get_or-replicate n d [] [] w) has)

to_defined : (p : Program) (g : Graph) (d c : ℕ) → d < length p.arena.nodes → Contains (row_of (functions p g) d) c → IsDefinedAt p g d c
to_defined p g d c w has =
    let n : ℕ = length p.arena.nodes in
    ⊎_elim
    (λ old. absurd (none_in n d c w old))
    (λ h. record { f = h.k; function = h.f; there = h.at; defines = subst (λ m. defined_by (slice_get g.definitions m) ≡ Some d) (let e : 0 + h.k ≡ h.k = omega arith in e) h.defines; is_callee = h.is_callee })
    (all_has g p.functions 0 (replicate n []) d c (subst (λ m. d < m) (sym (length-replicate n [])) w) has)

from_defined : (p : Program) (g : Graph) (d c : ℕ) → d < length p.arena.nodes → IsDefinedAt p g d c → Contains (row_of (functions p g) d) c
from_defined p g d c w h =
    let n : ℕ = length p.arena.nodes in
    let has = all_give g p.functions 0 (replicate n []) d h.f h.function (subst (λ m. d < m) (sym (length-replicate n [])) w) h.there (subst (λ m. defined_by (slice_get g.definitions m) ≡ Some d) (let e : h.f ≡ 0 + h.f = omega arith in e) h.defines) in
    subst (λ m. Contains (row_of (functions p g) d) m) (sym h.is_callee) has

pub functions_are : FunctionsAre
functions_are p g d c w = (to_defined p g d c w, from_defined p g d c w)
