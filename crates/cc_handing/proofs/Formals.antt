-- The table of formals has the formals of functions, and nothing else.
use Rattle.std.proofs.Common.{ℕ, zero, suc, ◌+◌, ◌≡◌, ⊎_elim, List, [], ◌∷◌, Option, Some, None, refl, sym, ap, subst, ◌∙◌, arith}
use Rattle.std.specs.Prelude.{Contains, slice_get}
use Rattle.std.specs.Option.{option_to_list}
use Rattle.std.proofs.lemmas.List.Elements.{Contains-append_left, Contains-append_right, Contains-append_cases}
use Rattle.cc_base.proofs.Lists.{Contains-nil, Contains-one}
use Rattle.cc_graph.specs.Graphs.{entry_of}
use Rattle.cc_graph.specs.declared.graph.Graph.{Graph}
use Rattle.cc_listed.specs.declared.calls.Formal.{Formal}
use Rattle.cc_parts.specs.declared.parts.Parts.{Parts}
use Rattle.cc_program.specs.declared.function.Function.{Function}
use Rattle.cc_program.specs.declared.program.Program.{Program}
use Rattle.cc_program.specs.declared.variable.VarId.{VarId}
use Rattle.cc_handing.specs.Members.{IsFormal, FormalsAre}
use Rattle.cc_handing.specs.Reads.{slot_of}
use Rattle.cc_handing.specs.Sites.{func, formal_by, formals_from, formals_of, formals_in, formals}

to_option : {X : Type 0} (o : Option X) (x : X) → Contains (option_to_list o) x → o ≡ Some x
to_option None x has = absurd (Contains-nil x has)
to_option (Some y) x has = ap Some (sym (Contains-one x y has))

from_option : {X : Type 0} (o : Option X) (x : X) → o ≡ Some x → Contains (option_to_list o) x
from_option o x is = subst (λ v. Contains (option_to_list v) x) (sym is) (zero, omega arith, refl)

-- the k-th of these formals
record IsAmong (parts : Parts) (callee entry : ℕ) (vs : List VarId) (i : ℕ) (x : Formal) : Type 0 where
  k : ℕ
  v : VarId
  at : slice_get vs k ≡ Some v
  is : formal_by callee entry (i + k + 1) (slot_of parts v) ≡ Some x

module _ (parts : Parts) (callee entry : ℕ) where
  among_next : (v : VarId) (vs : List VarId) (i : ℕ) (x : Formal) → IsAmong parts callee entry vs (i + 1) x → IsAmong parts callee entry (v ∷ vs) i x
  among_next v vs i x h = record {
    k = suc h.k;
    v = h.v;
    at = h.at;
    is = subst (λ m. formal_by callee entry m (slot_of parts h.v) ≡ Some x) (let e : (i + 1) + h.k + 1 ≡ i + suc h.k + 1 = omega arith in e) h.is;
  }

  from_has : (vs : List VarId) (i : ℕ) (x : Formal) → Contains (formals_from parts callee entry vs i) x → IsAmong parts callee entry vs i x
  from_has [] i x has = absurd (Contains-nil x has)
  from_has (v ∷ vs) i x has = ⊎_elim
      (λ here. record { k = zero; v = v; at = refl; is = subst (λ m. formal_by callee entry m (slot_of parts v) ≡ Some x) (let e : i + 1 ≡ i + zero + 1 = omega arith in e) (to_option (formal_by callee entry (i + 1) (slot_of parts v)) x here) })
      (λ later. among_next v vs i x (from_has vs (i + 1) x later))
      (Contains-append_cases (option_to_list (formal_by callee entry (i + 1) (slot_of parts v))) (formals_from parts callee entry vs (i + 1)) x has)

  from_gives : (vs : List VarId) (i k : ℕ) (v : VarId) (x : Formal) → slice_get vs k ≡ Some v → formal_by callee entry (i + k + 1) (slot_of parts v) ≡ Some x → Contains (formals_from parts callee entry vs i) x
  from_gives [] i k v x at is = absurd (let e = at in cc)
  from_gives (w ∷ vs) i zero v x at is =
      let same : w ≡ v = cc in
      let one = subst (λ m. formal_by callee entry m (slot_of parts v) ≡ Some x) (let e : i + zero + 1 ≡ i + 1 = omega arith in e) is in
      let here = subst (λ u. formal_by callee entry (i + 1) (slot_of parts u) ≡ Some x) (sym same) one in
      Contains-append_left (option_to_list (formal_by callee entry (i + 1) (slot_of parts w))) (formals_from parts callee entry vs (i + 1)) x (from_option (formal_by callee entry (i + 1) (slot_of parts w)) x here)
  from_gives (w ∷ vs) i (suc k) v x at is =
      let next = subst (λ m. formal_by callee entry m (slot_of parts v) ≡ Some x) (let e : i + suc k + 1 ≡ (i + 1) + k + 1 = omega arith in e) is in
      Contains-append_right (option_to_list (formal_by callee entry (i + 1) (slot_of parts w))) (formals_from parts callee entry vs (i + 1)) x (from_gives vs (i + 1) k v x at next)

-- what a formal is made of
record IsMade (callee entry number : ℕ) (slot : Option ℕ) (x : Formal) : Type 0 where
  of : x.callee ≡ callee
  by : x.number ≡ number
  in_slot : slot ≡ Some x.slot
  from : x.entry ≡ entry

made : (callee entry number : ℕ) (slot : Option ℕ) (x : Formal) → formal_by callee entry number slot ≡ Some x → IsMade callee entry number slot x
made callee entry number None x is = absurd (let e = is in cc)
made callee entry number (Some s) x is =
    let make : Formal = record { callee = callee; number = number; slot = s; entry = entry } in
    let same : make ≡ x = (let e = is in cc) in
    record {
      of = ap (λ (y : Formal). y.callee) (sym same);
      by = ap (λ (y : Formal). y.number) (sym same);
      in_slot = ap (λ (y : Formal). Some y.slot) same;
      from = ap (λ (y : Formal). y.entry) (sym same);
    }

unmade : (x : Formal) (callee number : ℕ) (slot : Option ℕ) → slot ≡ Some x.slot → x.callee ≡ callee → x.number ≡ number → formal_by callee x.entry number slot ≡ Some x
unmade x callee number slot in_slot of by =
    let first = ap (λ c. formal_by c x.entry number slot) (sym of) in
    let second = ap (λ n. formal_by x.callee x.entry n slot) (sym by) in
    let third = ap (λ s. formal_by x.callee x.entry x.number s) in_slot in
    first ∙ (second ∙ third)

module _ (g : Graph) (parts : Parts) where
  -- a formal of one of these functions
  record IsOne (fs : List Function) (i : ℕ) (x : Formal) : Type 0 where
    k : ℕ
    f : Function
    at : slice_get fs k ≡ Some f
    has : Contains (formals_of parts f (entry_of g (func (i + k)))) x

  in_has : (fs : List Function) (i : ℕ) (x : Formal) → Contains (formals_in g parts fs i) x → IsOne fs i x
  in_has [] i x has = absurd (Contains-nil x has)
  in_has (f ∷ fs) i x has = ⊎_elim
      (λ here. record { k = zero; f = f; at = refl; has = subst (λ m. Contains (formals_of parts f (entry_of g (func m))) x) (let e : i ≡ i + zero = omega arith in e) here })
      (λ later. let h = in_has fs (i + 1) x later in record { k = suc h.k; f = h.f; at = h.at; has = subst (λ m. Contains (formals_of parts h.f (entry_of g (func m))) x) (let e : (i + 1) + h.k ≡ i + suc h.k = omega arith in e) h.has })
      (Contains-append_cases (formals_of parts f (entry_of g (func i))) (formals_in g parts fs (i + 1)) x has)

  in_gives : (fs : List Function) (i k : ℕ) (f : Function) (x : Formal) → slice_get fs k ≡ Some f → Contains (formals_of parts f (entry_of g (func (i + k)))) x → Contains (formals_in g parts fs i) x
  in_gives [] i k f x at has = absurd (let e = at in cc)
  in_gives (h ∷ fs) i zero f x at has =
      let same : f ≡ h = cc in
      let one = subst (λ m. Contains (formals_of parts f (entry_of g (func m))) x) (let e : i + zero ≡ i = omega arith in e) has in
      Contains-append_left (formals_of parts h (entry_of g (func i))) (formals_in g parts fs (i + 1)) x (subst (λ (u : Function). Contains (formals_of parts u (entry_of g (func i))) x) same one)
  in_gives (h ∷ fs) i (suc k) f x at has =
      let next = subst (λ m. Contains (formals_of parts f (entry_of g (func m))) x) (let e : i + suc k ≡ (i + 1) + k = omega arith in e) has in
      Contains-append_right (formals_of parts h (entry_of g (func i))) (formals_in g parts fs (i + 1)) x (in_gives fs (i + 1) k f x at next)

  of_has : (f : Function) (o : Option ℕ) (x : Formal) → Contains (formals_of parts f o) x → (entry : ℕ) × (o ≡ Some entry) × IsAmong parts f.declarator entry f.formals 0 x
  of_has f None x has = absurd (Contains-nil x has)
  of_has f (Some entry) x has = (entry, refl, from_has parts f.declarator entry f.formals 0 x has)

  is_formal : (p : Program) (x : Formal) → Contains (formals p g parts) x → IsFormal p g parts x
  is_formal p x has =
      let one = in_has p.functions 0 x has in
      let among = of_has one.f (entry_of g (func (0 + one.k))) x one.has in
      let it = among.2 in
      let make = made one.f.declarator among.0 (0 + it.k + 1) (slot_of parts it.v) x it.is in
      record {
        f = 0 + one.k;
        function = one.f;
        k = it.k;
        variable = it.v;
        there = subst (λ m. slice_get p.functions m ≡ Some one.f) (let e : one.k ≡ 0 + one.k = omega arith in e) one.at;
        enters = among.1 ∙ ap Some (sym make.from);
        formal = it.at;
        has_slot = make.in_slot;
        is_callee = make.of;
        is_number = make.by ∙ (let e : 0 + it.k + 1 ≡ it.k + 1 = omega arith in e);
      }

  formal_is : (p : Program) (x : Formal) → IsFormal p g parts x → Contains (formals p g parts) x
  formal_is p x h =
      let made_so = unmade x h.function.declarator (h.k + 1) (slot_of parts h.variable) h.has_slot h.is_callee h.is_number in
      let at_k = subst (λ m. formal_by h.function.declarator x.entry m (slot_of parts h.variable) ≡ Some x) (let e : h.k + 1 ≡ 0 + h.k + 1 = omega arith in e) made_so in
      let among = from_gives parts h.function.declarator x.entry h.function.formals 0 h.k h.variable x h.formal at_k in
      let of_f = subst (λ o. Contains (formals_of parts h.function o) x) (sym h.enters) among in
      in_gives p.functions 0 h.f h.function x h.there (subst (λ m. Contains (formals_of parts h.function (entry_of g (func m))) x) (let e : h.f ≡ 0 + h.f = omega arith in e) of_f)

pub formals_are : FormalsAre
formals_are p g parts x = (is_formal g parts p x, formal_is g parts p x)
