-- Masks of slots, and what points clear.
use Rattle.std.proofs.Common.{ℕ, zero, suc, ◌+◌, ◌<◌, ◌≤◌, ◌≡◌, ◌≢◌, ◌⊎◌, inl, inr, ⊎_elim, max, List, [], ◌∷◌, ◌++◌, Some, None, length, refl, sym, ap, ◌∙◌, subst, arith, length-append}
use Rattle.std.specs.Prelude.{Contains, ◌↔◌, slice_get, slice_set}
use Rattle.std.proofs.lemmas.Bool.{cases_eq, cases_lt}
use Rattle.std.proofs.lemmas.Option.{slice_get_within}
use Rattle.std.proofs.lemmas.List.{get_or_past}
use Rattle.std.proofs.lemmas.List.Elements.{Contains-push, Contains-push_cases, Contains-append_left}
use Rattle.cc_blocks.specs.declared.block.Block.{Block}
use Rattle.cc_blocks.specs.Bits.{bit}
use Rattle.cc_blocks.proofs.Sizes.{bit-lt}
use Rattle.cc_flows.specs.Sweeping.{bit_at_point}
use Rattle.cc_flows.proofs.Passing.{at_row, set_same, set_other}
use Rattle.cc_flows.specs.declared.mask.Touch.{Touch}
use Rattle.cc_flows.specs.Masks.{IsOf, IsWiped, row_of, points_of}
use Rattle.cc_flows.proofs.Lists.{none, push_old, push_new, push_cases}

pub masks_none : (masks : List Block) → ((s i : ℕ) → bit_at_point masks s i ≡ 0) → (s i : ℕ) → (bit_at_point masks s i ≡ 1) ↔ IsOf [] s i
masks_none masks zeros s i = (λ is. absurd (let z = zeros s i in omega arith), λ of. absurd (let e = of.1 in cc))

-- one more definition
pub masks_on : (masks : List Block) (old new : Block) (ds : List Touch) (d : Touch) (k : ℕ) → length ds ≡ k → slice_get masks d.slot ≡ Some old → bit new k ≡ 1 → ((i : ℕ) → i ≢ k → bit new i ≡ bit old i) →
    ((s i : ℕ) → (bit_at_point masks s i ≡ 1) ↔ IsOf ds s i) → (s i : ℕ) → (bit_at_point (slice_set masks d.slot new) s i ≡ 1) ↔ IsOf (ds ++ d ∷ []) s i
masks_on masks old new ds d k long at here others before s i = (to, from)
  where
    more : IsOf ds s i → IsOf (ds ++ d ∷ []) s i
    more of = (of.0, push_old ds d i of.0 of.1, of.2)

    to : bit_at_point (slice_set masks d.slot new) s i ≡ 1 → IsOf (ds ++ d ∷ []) s i
    to is = elim (cases_eq s d.slot) [
      | inl e ↦
          (let now : bit new i ≡ 1 = sym (set_same masks d.slot i new (slice_get_within masks d.slot old at)) ∙ ap (λ x. bit_at_point (slice_set masks d.slot new) x i) (sym e) ∙ is in
          elim (cases_eq i k) [
            | inl f ↦ (d, ap (slice_get (ds ++ d ∷ [])) f ∙ push_new ds d k long, sym e)
            | inr ne ↦ more ((before s i).0 (ap (λ x. bit_at_point masks x i) e ∙ at_row masks d.slot i old at ∙ sym (others i ne) ∙ now))
          ])
      | inr ne ↦ more ((before s i).0 (sym (set_other masks d.slot s i new ne) ∙ is))
    ]

    from : IsOf (ds ++ d ∷ []) s i → bit_at_point (slice_set masks d.slot new) s i ≡ 1
    from of = ⊎_elim
        (λ old_at.
        let was = (before s i).1 (of.0, old_at, of.2) in
        elim (cases_eq s d.slot) [
          | inl e ↦
              (let apart : i ≢ k = (λ f. let lt = slice_get_within ds i of.0 old_at in omega arith) in
              ap (λ x. bit_at_point (slice_set masks d.slot new) x i) e ∙ set_same masks d.slot i new (slice_get_within masks d.slot old at) ∙ others i apart ∙ sym (at_row masks d.slot i old at) ∙ ap (λ x. bit_at_point masks x i) (sym e) ∙ was)
          | inr ne ↦ set_other masks d.slot s i new ne ∙ was
        ])
        (λ n.
        let e : s ≡ d.slot = sym of.2 ∙ ap (λ (x : Touch). x.slot) (sym n.1) in
        ap (λ x. bit_at_point (slice_set masks d.slot new) x i) e ∙ set_same masks d.slot i new (slice_get_within masks d.slot old at) ∙ ap (bit new) (let f : i ≡ k = omega (arith, n.0) in f) ∙ here)
        (push_cases ds d i of.0 of.1)

-- a block of the slots of a row
pub wiped_none : (masks : List Block) (b : Block) → ((i : ℕ) → bit b i ≡ 0) → (i : ℕ) → (bit b i ≡ 1) ↔ IsWiped masks [] i
wiped_none masks b zeros i = (λ is. absurd (let z = zeros i in omega arith), λ w. absurd (none w.0 w.1))

pub wiped_on : (masks : List Block) (row : List ℕ) (s : ℕ) (old new mask : Block) → ((i : ℕ) → bit new i ≡ max (bit old i) (bit mask i)) → ((i : ℕ) → bit mask i ≡ bit_at_point masks s i) →
    ((i : ℕ) → (bit old i ≡ 1) ↔ IsWiped masks row i) → (i : ℕ) → (bit new i ≡ 1) ↔ IsWiped masks (row ++ s ∷ []) i
wiped_on masks row s old new mask bits is before i = (to, from)
  where
    to : bit new i ≡ 1 → IsWiped masks (row ++ s ∷ []) i
    to now = elim (cases_eq (bit old i) 1) [
      | inl one ↦ (let w = (before i).0 one in (w.0, Contains-append_left row (s ∷ []) w.0 w.1, w.2))
      | inr ne ↦ (s, Contains-push row s, omega (arith, is i, bits i, bit-lt old i))
    ]

    from : IsWiped masks (row ++ s ∷ []) i → bit new i ≡ 1
    from w = ⊎_elim
        (λ old_has. let one = (before i).1 (w.0, old_has, w.2) in omega (arith, bits i, bit-lt mask i))
        (λ e. let one : bit_at_point masks s i ≡ 1 = ap (λ x. bit_at_point masks x i) e ∙ w.2 in omega (arith, is i, bits i, bit-lt old i))
        (Contains-push_cases row s w.0 w.1)

-- a block more
push_here : (blocks : List Block) (b : Block) (p i : ℕ) → length blocks ≡ p → bit_at_point (blocks ++ b ∷ []) p i ≡ bit b i
unfolding bit_at_point
push_here [] b zero i e = refl
push_here [] b (suc p) i e = absurd (omega arith)
push_here (x ∷ blocks) b zero i e = absurd (omega arith)
push_here (x ∷ blocks) b (suc p) i e = push_here blocks b p i (omega arith)

push_before : (blocks : List Block) (b : Block) (p i : ℕ) → p < length blocks → bit_at_point (blocks ++ b ∷ []) p i ≡ bit_at_point blocks p i
unfolding bit_at_point
push_before [] b p i lt = absurd (omega arith)
push_before (x ∷ blocks) b zero i lt = refl
push_before (x ∷ blocks) b (suc p) i lt = push_before blocks b p i (omega arith)

pub past : (blocks : List Block) (p i : ℕ) → length blocks ≤ p → bit_at_point blocks p i ≡ 0
unfolding bit_at_point
past [] p i le = refl
past (x ∷ blocks) zero i le = absurd (omega arith)
past (x ∷ blocks) (suc p) i le = past blocks p i (omega arith)

abbrev pub AreClears : List Block → List (List ℕ) → List Block → ℕ → Type 0
AreClears masks wipes clears k = (p i : ℕ) → p < k → (bit_at_point clears p i ≡ 1) ↔ IsWiped masks (row_of wipes p) i

pub clears_on : (masks : List Block) (wipes : List (List ℕ)) (clears : List Block) (b : Block) (k : ℕ) → length clears ≡ k → ((i : ℕ) → (bit b i ≡ 1) ↔ IsWiped masks (row_of wipes k) i) → AreClears masks wipes clears k → AreClears masks wipes (clears ++ b ∷ []) (k + 1)
clears_on masks wipes clears b k long here before p i lt = elim (cases_lt p k) [
  | inl low ↦
      (let e = push_before clears b p i (omega (arith, long)) in
      (λ is. (before p i low).0 (sym e ∙ is), λ w. e ∙ (before p i low).1 w))
  | inr ge ↦
      (let same : p ≡ k = omega arith in
      let e = ap (λ x. bit_at_point (clears ++ b ∷ []) x i) same ∙ push_here clears b k i long in
      (λ is. subst (λ x. IsWiped masks (row_of wipes x) i) (sym same) ((here i).0 (sym e ∙ is)), λ w. e ∙ (here i).1 (subst (λ x. IsWiped masks (row_of wipes x) i) same w)))
]

pub clears_all : (masks : List Block) (wipes : List (List ℕ)) (clears : List Block) → length clears ≡ length wipes → AreClears masks wipes clears (length wipes) → (p i : ℕ) → (bit_at_point clears p i ≡ 1) ↔ IsWiped masks (row_of wipes p) i
clears_all masks wipes clears long before p i = elim (cases_lt p (length wipes)) [
  | inl lt ↦ before p i lt
  | inr ge ↦ (λ is. absurd (let z = past clears p i (omega (arith, long)) in omega arith), λ w. absurd (none w.0 (subst (λ (xs : List ℕ). Contains xs w.0) (get_or_past wipes p [] ge) w.1)))
]

-- the points of definitions
module _ where
  points_grow : (ds : List Touch) (out : List ℕ) (i x : ℕ) → slice_get out i ≡ Some x → slice_get (points_of ds out) i ≡ Some x
  points_grow [] out i x at = at
  points_grow (d ∷ ds) out i x at = points_grow ds (out ++ d.point ∷ []) i x (push_old out d.point i x at)

  points_has : (ds : List Touch) (out : List ℕ) (i m : ℕ) (d : Touch) → m ≡ length out + i → slice_get ds i ≡ Some d → slice_get (points_of ds out) m ≡ Some d.point
  points_has [] out i m d e at = absurd (let q = at in cc)
  points_has (x ∷ ds) out zero m d e at = points_grow ds (out ++ x.point ∷ []) m d.point (push_new out x.point m (omega arith) ∙ ap (λ (y : Touch). Some y.point) (let same : x ≡ d = (let q = at in cc) in same))
  points_has (x ∷ ds) out (suc i) m d e at = points_has ds (out ++ x.point ∷ []) i m d (omega (arith, length-append out (x.point ∷ []))) at

  points_only : (ds : List Touch) (out : List ℕ) (m x : ℕ) → slice_get (points_of ds out) m ≡ Some x → (slice_get out m ≡ Some x) ⊎ ((i : ℕ) × (d : Touch) × (m ≡ length out + i) × (slice_get ds i ≡ Some d) × (d.point ≡ x))
  points_only [] out m x at = inl at
  points_only (y ∷ ds) out m x at = ⊎_elim
      (λ old. ⊎_elim inl (λ n. inr (0, y, omega (arith, n.0), refl, n.1)) (push_cases out y.point m x old))
      (λ h. inr (suc h.0, h.1, omega (arith, h.2, length-append out (y.point ∷ [])), h.3, h.4))
      (points_only ds (out ++ y.point ∷ []) m x at)

  pub point_of : (ds : List Touch) (i : ℕ) (d : Touch) → slice_get ds i ≡ Some d → slice_get (points_of ds []) i ≡ Some d.point
  point_of ds i d at = points_has ds [] i i d (omega arith) at

  pub of_point : (ds : List Touch) (m x : ℕ) → slice_get (points_of ds []) m ≡ Some x → (d : Touch) × (slice_get ds m ≡ Some d) × (d.point ≡ x)
  of_point ds m x at = ⊎_elim
      (λ never. absurd (let q = never in cc))
      (λ h. (h.1, ap (slice_get ds) (let e : m ≡ h.0 = omega (arith, h.2) in e) ∙ h.3, h.4))
      (points_only ds [] m x at)

  pub points_long : (ds : List Touch) (out : List ℕ) → length (points_of ds out) ≡ length out + length ds
  points_long [] out = omega arith
  points_long (d ∷ ds) out = omega (arith, points_long ds (out ++ d.point ∷ []), length-append out (d.point ∷ []))

pub none_at : (blocks : List Block) (p i : ℕ) → slice_get blocks p ≡ None → bit_at_point blocks p i ≡ 0
unfolding bit_at_point
none_at [] p i e = refl
none_at (x ∷ blocks) zero i e = absurd (let q = e in cc)
none_at (x ∷ blocks) (suc p) i e = none_at blocks p i e
