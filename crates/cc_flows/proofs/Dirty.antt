-- Points that are to be visited.
use Rattle.std.proofs.Common.{◌≡◌, ◌≢◌, ℕ, zero, suc, ◌+◌, ◌<◌, ◌≤◌, Bool, true, false, List, [], ◌∷◌, length, replicate, Some, refl, ap, arith}
use Rattle.std.specs.Prelude.{slice_get, slice_set}
use Rattle.cc_flows.specs.Sweeping.{IsDirty, dirty_count}

pub dirty_here : (dirty : List Bool) (q : ℕ) → q < length dirty → IsDirty (slice_set dirty q true) q
dirty_here [] q lt = absurd (omega arith)
dirty_here (x ∷ dirty) zero lt = refl
dirty_here (x ∷ dirty) (suc q) lt = dirty_here dirty q (omega arith)

pub dirty_kept : (dirty : List Bool) (q p : ℕ) → IsDirty dirty p → IsDirty (slice_set dirty q true) p
dirty_kept [] q p is = absurd (let e = is in cc)
dirty_kept (x ∷ dirty) zero zero is = refl
dirty_kept (x ∷ dirty) zero (suc p) is = is
dirty_kept (x ∷ dirty) (suc q) zero is = is
dirty_kept (x ∷ dirty) (suc q) (suc p) is = dirty_kept dirty q p is

pub dirty_other : (dirty : List Bool) (q p : ℕ) → p ≢ q → IsDirty dirty p → IsDirty (slice_set dirty q false) p
dirty_other [] q p ne is = absurd (let e = is in cc)
dirty_other (x ∷ dirty) zero zero ne is = absurd (ne refl)
dirty_other (x ∷ dirty) zero (suc p) ne is = is
dirty_other (x ∷ dirty) (suc q) zero ne is = is
dirty_other (x ∷ dirty) (suc q) (suc p) ne is = dirty_other dirty q p (λ e. ne (ap suc e)) is

pub count_more : (dirty : List Bool) (q : ℕ) → dirty_count (slice_set dirty q true) ≤ dirty_count dirty + 1
count_more [] q = omega arith
count_more (true ∷ dirty) zero = omega arith
count_more (false ∷ dirty) zero = omega arith
count_more (true ∷ dirty) (suc q) = omega (arith, count_more dirty q)
count_more (false ∷ dirty) (suc q) = omega (arith, count_more dirty q)

pub count_less : (dirty : List Bool) (q : ℕ) → IsDirty dirty q → dirty_count (slice_set dirty q false) + 1 ≤ dirty_count dirty
count_less [] q is = absurd (let e = is in cc)
count_less (true ∷ dirty) zero is = omega arith
count_less (false ∷ dirty) zero is = absurd (let e = is in cc)
count_less (true ∷ dirty) (suc q) is = omega (arith, count_less dirty q is)
count_less (false ∷ dirty) (suc q) is = omega (arith, count_less dirty q is)

pub none_dirty : (n p : ℕ) → IsDirty (replicate n false) p → ⊥
none_dirty zero p is = let e = is in cc
none_dirty (suc n) zero is = let e = is in cc
none_dirty (suc n) (suc p) is = none_dirty n p is
