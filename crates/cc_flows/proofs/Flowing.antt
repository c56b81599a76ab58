-- What is found is what a clear stretch leads to.
use Rattle.std.proofs.Common.{ℕ, ◌+◌, ◌<◌, ◌≤◌, ◌≡◌, ◌⊎◌, inl, inr, ⊎_elim, List, [], ◌∷◌, ◌++◌, Some, length, take, refl, sym, ap, ◌∙◌, subst, arith}
use Rattle.std.specs.Prelude.{Contains, ◌↔◌, slice_get, slice_range, Result, Ok, Err, IfOk}
use Rattle.std.specs.declared.vec.Vec.{Vec}
use Rattle.std.specs.declared.alloc.Global.{Global}
use Rattle.cc_base.specs.declared.memory.Memory.{Memory}
use Rattle.std.proofs.lemmas.Bool.{cases_eq}
use Rattle.std.proofs.lemmas.List.Elements.{Contains-append_left, Contains-append_right, Contains-append_cases}
use Rattle.cc_blocks.specs.declared.block.Block.{Block}
use Rattle.cc_flows.specs.Sweeping.{Next, HasEdge, bit_at_point, Clear}
use Rattle.cc_flows.specs.Sweeping as sweeping
use Rattle.cc_flows.specs.declared.mask.Touch.{Touch}
use Rattle.cc_flows.specs.declared.flow.Found.{Found}
use Rattle.cc_flows.specs.Masks.{IsOf, IsWiped, row_of, points_of}
use Rattle.cc_rows.specs.Gains.{Gains}
use Rattle.cc_flows.specs.Flows.{ClearStretch, First, On, MaskStretch, FirstStep, OnStep, Reaches, IsGathered, AreReached}
use Rattle.cc_rows.proofs.Gained.{contains_at, place}
use Rattle.cc_flows.proofs.Lists.{range_on}
use Rattle.cc_flows.proofs.Masking.{point_of, of_point}
use Rattle.cc_flows.proofs.Passing.{point-lt}
use Rattle.cc_rows.proofs.Gained.{gains_on, gains_none}

-- the starts of a sweep are the points of the definitions
module _ (next : Next) (wipes : List (List ℕ)) (definitions : List Touch) (masks clears reach : List Block)
    (wiped : (p i : ℕ) → (bit_at_point clears p i ≡ 1) ↔ IsWiped masks (row_of wipes p) i)
    (exact : (point i : ℕ) → (bit_at_point reach point i ≡ 1) ↔ ((start : ℕ) × (slice_get (points_of definitions []) i ≡ Some start) × Clear next clears i start point)) where
  to_mask : (i start p : ℕ) → Clear next clears i start p → MaskStretch next wipes masks i start p
  to_mask i start p (sweeping.First edge) = FirstStep edge
  to_mask i start p (sweeping.On {a = a} c zero edge) = OnStep (to_mask i start a c) (λ w. let one = (wiped a i).1 w in omega arith) edge

  from_mask : (i start p : ℕ) → MaskStretch next wipes masks i start p → Clear next clears i start p
  from_mask i start p (FirstStep edge) = sweeping.First edge
  from_mask i start p (OnStep {a = a} c never edge) = sweeping.On (from_mask i start a c) (not_set a never) edge
    where
      not_set : (q : ℕ) → (IsWiped masks (row_of wipes q) i → ⊥) → bit_at_point clears q i ≡ 0
      not_set q no_wipe = elim (cases_eq (bit_at_point clears q i) 1) [
        | inl one ↦ absurd (no_wipe ((wiped q i).0 one))
        | inr ne ↦ omega (arith, point-lt clears q i)
      ]

  pub are_reached : AreReached next wipes masks definitions reach
  are_reached point i = (
    λ is. (let x = (exact point i).0 is in
        let d = of_point definitions i x.0 x.1 in
        (d.0, d.1, subst (λ s. MaskStretch next wipes masks i s point) (sym d.2) (to_mask i x.0 point x.2))),
    λ x. (exact point i).1 (x.0.point, point_of definitions i x.0 x.1, from_mask i x.0.point point x.2),
  )

module _ (next : Next) (wipes : List (List ℕ)) (definitions : List Touch) (masks reach : List Block)
    (of : (s i : ℕ) → (bit_at_point masks s i ≡ 1) ↔ IsOf definitions s i) (reached : AreReached next wipes masks definitions reach) where
  module _ (i : ℕ) (d : Touch) (at : slice_get definitions i ≡ Some d) where
    to_stretch : (start p : ℕ) → MaskStretch next wipes masks i start p → ClearStretch next wipes d.slot start p
    to_stretch start p (FirstStep edge) = First edge
    to_stretch start p (OnStep {a = a} c never edge) = On (to_stretch start a c) (λ has. never (d.slot, has, (of d.slot i).1 (d, at, refl))) edge

    to_steps : (start p : ℕ) → ClearStretch next wipes d.slot start p → MaskStretch next wipes masks i start p
    to_steps start p (First edge) = FirstStep edge
    to_steps start p (On {a = a} c never edge) = OnStep (to_steps start a c)
        (λ w. (let x = (of w.0 i).0 w.2 in
        let same : d ≡ x.0 = (let p = at in let q = x.1 in cc) in
        never (subst (Contains (row_of wipes a)) (sym x.2 ∙ ap (λ (y : Touch). y.slot) (sym same)) w.1)))
        edge

  pub to_found : (reads : List Touch) (f : Found) → IsGathered definitions reads reach masks f → Reaches next wipes reads definitions f
  to_found reads f g =
      let r = g.0 in
      let w = g.2 in
      let x = (of r.slot w.0).0 w.2 in
      let y = (reached r.point w.0).0 w.1 in
      let same_x : w.3 ≡ x.0 = (let p = w.4 in let q = x.1 in cc) in
      let same_y : w.3 ≡ y.0 = (let p = w.4 in let q = y.1 in cc) in
      record {
        definition = w.3;
        read = r;
        defines = contains_at definitions w.0 w.3 w.4;
        is_read = g.1;
        same_slot = sym x.2 ∙ ap (λ (z : Touch). z.slot) (sym same_x);
        stretch = to_stretch w.0 w.3 w.4 w.3.point r.point (subst (λ (z : Touch). MaskStretch next wipes masks w.0 z.point r.point) (sym same_y) y.2);
        is = w.5;
      }

  pub from_found : (reads : List Touch) (f : Found) → Reaches next wipes reads definitions f → IsGathered definitions reads reach masks f
  from_found reads f h =
      let d = h.definition in
      let i = h.defines.0 in
      let at = place definitions d h.defines in (
        h.read,
        h.is_read,
        (
          i,
          (reached h.read.point i).1 (d, at, to_steps i d at d.point h.read.point h.stretch),
          (of h.read.slot i).1 (d, at, sym h.same_slot),
          d,
          at,
          h.is,
        ),
      )

pub point_within : (definitions : List Touch) (points : List ℕ) (points_end : ℕ) → points ≡ points_of definitions [] → ((d : Touch) → Contains definitions d → d.point < points_end) → (x : ℕ) → Contains points x → x < points_end
point_within definitions points points_end e within x is =
    let has : Contains (points_of definitions []) x = subst (λ xs. Contains xs x) e is in
    let d = of_point definitions has.0 x (place (points_of definitions []) x has) in
    subst (λ n. n < points_end) d.2 (within d.0 (contains_at definitions has.0 d.0 d.1))

-- the definitions so far, and a batch
module _ (next : Next) (wipes : List (List ℕ)) (reads : List Touch) where
  pub reaches_in : (ds es : List Touch) (f : Found) → ((d : Touch) → Contains ds d → Contains es d) → Reaches next wipes reads ds f → Reaches next wipes reads es f
  reaches_in ds es f more h = record {
    definition = h.definition;
    read = h.read;
    defines = more h.definition h.defines;
    is_read = h.is_read;
    same_slot = h.same_slot;
    stretch = h.stretch;
    is = h.is;
  }

  split : (ds es : List Touch) (f : Found) → Reaches next wipes reads (ds ++ es) f → Reaches next wipes reads ds f ⊎ Reaches next wipes reads es f
  split ds es f h = ⊎_elim
      (λ old. inl (record { definition = h.definition; read = h.read; defines = old; is_read = h.is_read; same_slot = h.same_slot; stretch = h.stretch; is = h.is }))
      (λ new. inr (record { definition = h.definition; read = h.read; defines = new; is_read = h.is_read; same_slot = h.same_slot; stretch = h.stretch; is = h.is }))
      (Contains-append_cases ds es h.definition h.defines)

  pub batch_on : (definitions : List Touch) (first last : ℕ) (a b c : List Found) → first ≤ last → Gains a b (Reaches next wipes reads (take first definitions)) → Gains b c (Reaches next wipes reads (slice_range definitions first last)) → Gains a c (Reaches next wipes reads (take last definitions))
  batch_on definitions first last a b c le g h =
      let ds = take first definitions in
      let es = slice_range definitions first last in
      subst (λ xs. Gains a c (Reaches next wipes reads xs)) (sym (range_on definitions first last le))
      (gains_on a b c (Reaches next wipes reads ds) (Reaches next wipes reads es) (Reaches next wipes reads (ds ++ es)) g h
      (split ds es)
      (λ f p. reaches_in ds (ds ++ es) f (λ d is. Contains-append_left ds es d is) p)
      (λ f q. reaches_in es (ds ++ es) f (λ d is. Contains-append_right ds es d is) q))

  pub batch_none : (a : List Found) → Gains a a (Reaches next wipes reads [])
  batch_none a = gains_none a (Reaches next wipes reads []) (λ f h. let lt = h.defines.1 in omega arith)

pub reached_ok : (next : Next) (wipes : List (List ℕ)) (definitions : List Touch) (masks clears clears' : List Block) (points : List ℕ) (r : Result (Vec Block Global) Memory) →
    ((p i : ℕ) → (bit_at_point clears p i ≡ 1) ↔ IsWiped masks (row_of wipes p) i) → clears' ≡ clears → points ≡ points_of definitions [] →
    IfOk r (λ reach. (point i : ℕ) → (bit_at_point reach.items point i ≡ 1) ↔ ((start : ℕ) × (slice_get points i ≡ Some start) × Clear next clears' i start point)) → IfOk r (λ reach. AreReached next wipes masks definitions reach.items)
reached_ok next wipes definitions masks clears clears' points (Ok reach) wiped e_clears e_points exact =
    are_reached next wipes definitions masks clears reach.items wiped
    (subst (λ ps. (point i : ℕ) → (bit_at_point reach.items point i ≡ 1) ↔ ((start : ℕ) × (slice_get ps i ≡ Some start) × Clear next clears i start point)) e_points
    (subst (λ cs. (point i : ℕ) → (bit_at_point reach.items point i ≡ 1) ↔ ((start : ℕ) × (slice_get points i ≡ Some start) × Clear next cs i start point)) e_clears exact))
reached_ok next wipes definitions masks clears clears' points (Err e) wiped e_clears e_points exact = exact
