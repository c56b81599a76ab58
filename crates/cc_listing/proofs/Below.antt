-- Points that come next are points.
use Rattle.std.proofs.Common.{◌≡◌, ◌<◌, ℕ, zero, suc, true, List, [], ◌∷◌, length, Some, arith, subst}
use Rattle.std.specs.Prelude.{Contains, nat_lt, slice_get}
use Rattle.std.proofs.lemmas.Bool.{and_parts, ltb-true}
use Rattle.std.proofs.lemmas.Option.{same_Some}
use Rattle.cc_flows.specs.Sweeping.{StaysWithin}
use Rattle.cc_listing.specs.Stepping.{all_below, are_below}

below_in : (count : ℕ) (row : List ℕ) (q : ℕ) → are_below count row ≡ true → Contains row q → q < count
below_in count [] q is (k, lt, e) = absurd (omega (arith, lt))
below_in count (x ∷ row) q is (zero, lt, e) =
    let both = and_parts (nat_lt x count) (are_below count row) is in
    let below : x < count = ltb-true x count both.0 in
    omega (arith, below, e)
below_in count (x ∷ row) q is (suc k, lt, e) =
    let both = and_parts (nat_lt x count) (are_below count row) is in
    below_in count row q both.1 (k, omega (arith, lt), e)

below_at : (count : ℕ) (rows : List (List ℕ)) (a : ℕ) (row : List ℕ) → all_below count rows ≡ true → slice_get rows a ≡ Some row → are_below count row ≡ true
below_at count [] a row is at = absurd (let e = at in cc)
below_at count (r ∷ rows) zero row is at =
    let both = and_parts (are_below count r) (all_below count rows) is in
    subst (λ x. are_below count x ≡ true) (same_Some _ _ at) both.0
below_at count (r ∷ rows) (suc a) row is at =
    let both = and_parts (are_below count r) (all_below count rows) is in
    below_at count rows a row both.1 at

pub all_stay : (rows : List (List ℕ)) → all_below (length rows) rows ≡ true → StaysWithin rows
all_stay rows is = λ a b edge. below_in (length rows) edge.row b (below_at (length rows) rows a edge.row is edge.at) edge.has
