-- What a number of a holder stands for.
use Rattle.std.proofs.Common.{ℕ, ◌+◌, ◌-◌, ◌^◌, ◌<◌, ◌≡◌, refl, sym, ap, ◌∙◌, arith, inl, inr}
use Rattle.std.specs.Prelude.{cond, nat_lt}
use Rattle.std.proofs.lemmas.Bool.{cond_below, cond_above, cases_lt}
use Rattle.cc_points_base.specs.declared.layout.Layout.{Layout}
use Rattle.cc_points_base.specs.Layouts.{spare, value, slot, place, result, copy}
use Rattle.cc_points_solve.specs.Law.{holders_of}

pub data Holder : Type 0 where
  Value : ℕ → Holder
  Slot : ℕ → Holder
  PlaceOf : ℕ → Holder
  Result : ℕ → Holder
  Copied : ℕ → Holder

unfoldable pub decode : Layout → ℕ → Holder
decode L h = cond (nat_lt h L.nodes) (Value h) (cond (nat_lt h (L.nodes + L.slots)) (Slot (h - L.nodes)) (cond (nat_lt h (L.nodes + L.slots + L.nodes)) (PlaceOf (h - (L.nodes + L.slots))) (cond (nat_lt h (L.nodes + L.slots + L.nodes + L.functions)) (Result (h - (L.nodes + L.slots + L.nodes))) (Copied (h - (L.nodes + L.slots + L.nodes + L.functions))))))

pub value_is : (L : Layout) (n : ℕ) → n < L.nodes → value L n ≡ n
unfolding value
value_is L n lt = sym (cond_below n L.nodes n (spare L) lt)

pub slot_is : (L : Layout) (s : ℕ) → s < L.slots → slot L s ≡ L.nodes + s
unfolding slot
slot_is L s lt = sym (cond_below s L.slots (L.nodes + s) (spare L) lt)

pub place_is : (L : Layout) (n : ℕ) → n < L.nodes → place L n ≡ L.nodes + L.slots + n
unfolding place
place_is L n lt = sym (cond_below n L.nodes (L.nodes + L.slots + n) (spare L) lt)

result_is : (L : Layout) (i : ℕ) → i < L.functions → result L i ≡ L.nodes + L.slots + L.nodes + i
unfolding result
result_is L i lt = sym (cond_below i L.functions (L.nodes + L.slots + L.nodes + i) (spare L) lt)

pub decode_value : (L : Layout) (n : ℕ) → n < L.nodes → decode L (value L n) ≡ Value n
unfolding decode
decode_value L n lt = ap (decode L) (value_is L n lt) ∙ sym (cond_below n L.nodes (Value n) _ lt)

pub decode_slot : (L : Layout) (s : ℕ) → s < L.slots → decode L (slot L s) ≡ Slot s
unfolding decode
decode_slot L s lt = ap (decode L) (slot_is L s lt) ∙ sym (cond_above (L.nodes + s) L.nodes _ _ _ (omega arith) (cond_below (L.nodes + s) (L.nodes + L.slots) _ _ (omega (arith, lt)))) ∙ ap Slot (omega arith)

pub decode_place : (L : Layout) (n : ℕ) → n < L.nodes → decode L (place L n) ≡ PlaceOf n
unfolding decode
decode_place L n lt = ap (decode L) (place_is L n lt) ∙ sym (cond_above (L.nodes + L.slots + n) L.nodes _ _ _ (omega arith) (cond_above (L.nodes + L.slots + n) (L.nodes + L.slots) _ _ _ (omega arith) (cond_below (L.nodes + L.slots + n) (L.nodes + L.slots + L.nodes) _ _ (omega (arith, lt))))) ∙ ap PlaceOf (omega arith)

pub decode_result : (L : Layout) (i : ℕ) → i < L.functions → decode L (result L i) ≡ Result i
unfolding decode
decode_result L i lt = ap (decode L) (result_is L i lt) ∙ sym (cond_above (L.nodes + L.slots + L.nodes + i) L.nodes _ _ _ (omega arith) (cond_above (L.nodes + L.slots + L.nodes + i) (L.nodes + L.slots) _ _ _ (omega arith) (cond_above (L.nodes + L.slots + L.nodes + i) (L.nodes + L.slots + L.nodes) _ _ _ (omega arith) (cond_below (L.nodes + L.slots + L.nodes + i) (L.nodes + L.slots + L.nodes + L.functions) _ _ (omega (arith, lt)))))) ∙ ap Result (omega arith)

copy_is : (L : Layout) (k : ℕ) → k < L.copies → copy L k ≡ L.nodes + L.slots + L.nodes + L.functions + k
unfolding copy
copy_is L k lt = sym (cond_below k L.copies (L.nodes + L.slots + L.nodes + L.functions + k) (spare L) lt)

pub decode_copy : (L : Layout) (k : ℕ) → k < L.copies → decode L (copy L k) ≡ Copied k
unfolding decode
decode_copy L k lt = ap (decode L) (copy_is L k lt) ∙ sym (cond_above (L.nodes + L.slots + L.nodes + L.functions + k) L.nodes _ _ _ (omega arith) (cond_above (L.nodes + L.slots + L.nodes + L.functions + k) (L.nodes + L.slots) _ _ _ (omega arith) (cond_above (L.nodes + L.slots + L.nodes + L.functions + k) (L.nodes + L.slots + L.nodes) _ _ _ (omega arith) (cond_above (L.nodes + L.slots + L.nodes + L.functions + k) (L.nodes + L.slots + L.nodes + L.functions) _ _ _ (omega arith) refl)))) ∙ ap Copied (omega arith)

-- each number is one of a holder
pub value_within : (L : Layout) (n : ℕ) → value L n < holders_of L
unfolding value spare
value_within L n = elim (cases_lt n L.nodes) [
  | inl lt ↦ omega (arith, sym (cond_below n L.nodes n (spare L) lt))
  | inr ge ↦ omega (arith, sym (cond_above n L.nodes n (spare L) (spare L) ge refl))
]

pub slot_within : (L : Layout) (s : ℕ) → slot L s < holders_of L
unfolding slot spare
slot_within L s = elim (cases_lt s L.slots) [
  | inl lt ↦ omega (arith, sym (cond_below s L.slots (L.nodes + s) (spare L) lt))
  | inr ge ↦ omega (arith, sym (cond_above s L.slots (L.nodes + s) (spare L) (spare L) ge refl))
]

pub place_within : (L : Layout) (n : ℕ) → place L n < holders_of L
unfolding place spare
place_within L n = elim (cases_lt n L.nodes) [
  | inl lt ↦ omega (arith, sym (cond_below n L.nodes (L.nodes + L.slots + n) (spare L) lt))
  | inr ge ↦ omega (arith, sym (cond_above n L.nodes (L.nodes + L.slots + n) (spare L) (spare L) ge refl))
]

pub result_within : (L : Layout) (i : ℕ) → result L i < holders_of L
unfolding result spare
result_within L i = elim (cases_lt i L.functions) [
  | inl lt ↦ omega (arith, sym (cond_below i L.functions (L.nodes + L.slots + L.nodes + i) (spare L) lt))
  | inr ge ↦ omega (arith, sym (cond_above i L.functions (L.nodes + L.slots + L.nodes + i) (spare L) (spare L) ge refl))
]

pub copy_within : (L : Layout) (k : ℕ) → copy L k < holders_of L
unfolding copy spare
copy_within L k = elim (cases_lt k L.copies) [
  | inl lt ↦ omega (arith, sym (cond_below k L.copies (L.nodes + L.slots + L.nodes + L.functions + k) (spare L) lt))
  | inr ge ↦ omega (arith, sym (cond_above k L.copies (L.nodes + L.slots + L.nodes + L.functions + k) (spare L) (spare L) ge refl))
]

pub spare_fits : (L : Layout) → (L.nodes < 2 ^ 29) × (L.slots < 2 ^ 29) × (L.functions < 2 ^ 29) × (L.copies < 2 ^ 29) → spare L + 1 < 4294967296
unfolding spare
spare_fits L small = let a = small.0 in let b = small.1 in let c = small.2 in let d = small.3 in omega arith
