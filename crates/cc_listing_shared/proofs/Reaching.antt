-- What a sweep without clears reaches.
use Rattle.std.proofs.Common.{ℕ, ◌≡◌, ◌<◌, ◌⊎◌, inl, inr, ⊎_elim, true, ◌||◌, List, [], ◌∷◌, Some, length, refl, ap, ◌∙◌, subst, arith}
use Rattle.std.specs.Prelude.{◌↔◌, nat_eq, slice_get, Result, Ok, Err, IfOk}
use Rattle.std.specs.declared.vec.Vec.{Vec}
use Rattle.std.specs.declared.alloc.Global.{Global}
use Rattle.std.proofs.lemmas.Bool.{eqb-true, eq-eqb}
use Rattle.cc_base.specs.declared.memory.Memory.{Memory}
use Rattle.cc_blocks.specs.declared.block.Block.{Block}
use Rattle.cc_flows.specs.Sweeping.{Next, HasEdge, StaysWithin, bit_at_point, Clear}
use Rattle.cc_flows.specs.Sweeping as sweeping
use Rattle.cc_listed.specs.Stretches.{Stretch, First, On, Never, IsReachable}
use Rattle.cc_listing_shared.specs.Living.{is_reached, IsReach}
use Rattle.cc_listing_shared.proofs.Truth.{or_true, true_or}

module _ (next : Next) (root : ℕ) (clears reach : List Block) (zero_at : (p i : ℕ) → bit_at_point clears p i ≡ 0)
    (exact : (point i : ℕ) → (bit_at_point reach point i ≡ 1) ↔ ((start : ℕ) × (slice_get (root ∷ []) i ≡ Some start) × Clear next clears i start point)) where
  to_never : (i from p : ℕ) → Clear next clears i from p → Stretch next Never from p
  to_never i from p (sweeping.First edge) = First edge
  to_never i from p (sweeping.On {a = a} path is edge) = On (to_never i from a path) (λ x. x) edge

  from_never : (i from p : ℕ) → Stretch next Never from p → Clear next clears i from p
  from_never i from p (First edge) = sweeping.First edge
  from_never i from p (On {a = a} path never edge) = sweeping.On (from_never i from a path) (zero_at a i) edge

  pub is_reach : IsReach next root reach
  is_reach p = (
    λ e. ⊎_elim
        (λ same. inl (eqb-true p root same))
        (λ is. (let x = (exact p 0).0 (eqb-true (bit_at_point reach p 0) 1 is) in
        inr (to_never 0 root p (subst (λ s. Clear next clears 0 s p) (let a = x.1 in let same : x.0 ≡ root = cc in same) x.2))))
        (or_true (nat_eq p root) (nat_eq (bit_at_point reach p 0) 1) e),
    λ r. true_or (nat_eq p root) (nat_eq (bit_at_point reach p 0) 1) (⊎_elim
        (λ same. inl (eq-eqb p root same))
        (λ path. inr (eq-eqb (bit_at_point reach p 0) 1 ((exact p 0).1 (root, refl, from_never 0 root p path))))
        r),
  )

pub reach_ok : (next : Next) (root : ℕ) (clears clears' : List Block) (starts : List ℕ) (r : Result (Vec Block Global) Memory) → clears' ≡ clears → ((p i : ℕ) → bit_at_point clears p i ≡ 0) → starts ≡ root ∷ [] →
    IfOk r (λ reach. (point i : ℕ) → (bit_at_point reach.items point i ≡ 1) ↔ ((start : ℕ) × (slice_get starts i ≡ Some start) × Clear next clears' i start point)) → IfOk r (λ reach. IsReach next root reach.items)
reach_ok next root clears clears' starts (Ok reach) e_clears none_set e_starts exact =
    is_reach next root clears reach.items none_set
    (subst (λ (cs : List Block). (point i : ℕ) → (bit_at_point reach.items point i ≡ 1) ↔ ((start : ℕ) × (slice_get (root ∷ []) i ≡ Some start) × Clear next cs i start point)) e_clears
    (subst (λ (ss : List ℕ). (point i : ℕ) → (bit_at_point reach.items point i ≡ 1) ↔ ((start : ℕ) × (slice_get ss i ≡ Some start) × Clear next clears' i start point)) e_starts exact))
reach_ok next root clears clears' starts (Err e) e_clears none_set e_starts exact = exact

-- what is reachable is a point
pub reachable_within : (next : Next) (root p : ℕ) → StaysWithin next → root < length next → IsReachable next root p → p < length next
reachable_within next root p stays lt (inl e) = subst (λ n. n < length next) (let f : root ≡ p = (let g = e in cc) in f) lt
reachable_within next root p stays lt (inr (First edge)) = stays root p edge
reachable_within next root p stays lt (inr (On {a = a} path never edge)) = stays a p edge
