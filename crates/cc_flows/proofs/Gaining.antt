-- What was found is added.
use Rattle.std.proofs.Common.{ℕ, ◌+◌, ◌-◌, ◌<◌, ◌≤◌, ◌≡◌, ◌⊎◌, inl, inr, ⊎_elim, List, [], ◌∷◌, ◌++◌, Some, take, sym, ap, ◌∙◌, subst, arith}
use Rattle.std.specs.Prelude.{Contains, slice_get}
use Rattle.std.proofs.lemmas.Bool.{cases_eq, cases_lt}
use Rattle.cc_blocks.specs.declared.block.Block.{Block}
use Rattle.cc_blocks.specs.Bits.{bit}
use Rattle.cc_blocks.proofs.Sizes.{bit-lt, bit-above}
use Rattle.cc_rows.specs.Gains.{Gains}
use Rattle.cc_rows.proofs.Gained.{gains_none, gains_on, gains_as}
use Rattle.cc_flows.specs.Sweeping.{bit_at_point}
use Rattle.cc_flows.specs.declared.mask.Touch.{Touch}
use Rattle.cc_flows.specs.declared.flow.Found.{Found}
use Rattle.cc_flows.specs.Flows.{IsOne, IsAny, IsRead, found_of}

module _ (definitions : List Touch) (bits : Block) (reader : ℕ) where
  -- a number below another one
  abbrev pub IsBelow : ℕ → Found → Type 0
  IsBelow n f = (i : ℕ) × (i < n) × (IsOne definitions bits reader i f)

  pub below_none : (a : List Found) → Gains a a (IsBelow 0)
  below_none a = gains_none a (IsBelow 0) (λ f b. let lt = b.1 in omega arith)

  pub below_on : (n : ℕ) (a b c : List Found) → Gains a b (IsBelow n) → Gains b c (IsOne definitions bits reader n) → Gains a c (IsBelow (n + 1))
  below_on n a b c g h = gains_on a b c (IsBelow n) (IsOne definitions bits reader n) (IsBelow (n + 1)) g h
      (λ f r. elim (cases_eq r.0 n) [
        | inl e ↦ inr (subst (λ k. IsOne definitions bits reader k f) e r.2)
        | inr ne ↦ inl (r.0, omega (arith, r.1), r.2)
      ])
      (λ f p. (p.0, omega (arith, p.1), p.2))
      (λ f q. (n, omega arith, q))

  pub below_any : (n : ℕ) (f : Found) → IsBelow n f → IsAny definitions bits reader f
  below_any n f p = (p.0, p.2)

  pub below_all : (n : ℕ) (a b : List Found) → 512 ≤ n → Gains a b (IsBelow n) → Gains a b (IsAny definitions bits reader)
  below_all n a b le = gains_as a b (IsBelow n) (IsAny definitions bits reader)
      (below_any n)
      (λ f q. (q.0, small q.0 q.1.0, q.1))
    where
      small : (i : ℕ) → bit bits i ≡ 1 → i < n
      small i is = elim (cases_lt i 512) [
        | inl lt ↦ omega arith
        | inr ge ↦ absurd (let z = bit-above bits i ge in omega arith)
      ]

  pub any_never : ((i : ℕ) → bit bits i ≡ 0) → (f : Found) → IsAny definitions bits reader f → ⊥
  any_never zeros f x = let z = zeros x.0 in let one = x.1.0 in omega arith

-- the numbers of a set are those of a read
module _ (definitions : List Touch) (reach masks : List Block) (r : Touch) (at mask both : Block)
    (e_at : (i : ℕ) → bit at i ≡ bit_at_point reach r.point i) (e_mask : (i : ℕ) → bit mask i ≡ bit_at_point masks r.slot i) where
  pub to_read : ((i : ℕ) → bit both i ≡ bit at i - (bit at i - bit mask i)) → (f : Found) → IsAny definitions both r.node f → IsRead definitions reach masks r f
  to_read e_both f x = (x.0, omega (arith, e_both x.0, e_at x.0, e_mask x.0, x.1.0, bit-lt at x.0, bit-lt mask x.0), omega (arith, e_both x.0, e_at x.0, e_mask x.0, x.1.0, bit-lt at x.0, bit-lt mask x.0), x.1.1, x.1.2, x.1.3)

  pub from_read : ((i : ℕ) → bit both i ≡ bit at i - (bit at i - bit mask i)) → (f : Found) → IsRead definitions reach masks r f → IsAny definitions both r.node f
  from_read e_both f x = (x.0, (omega (arith, e_both x.0, e_at x.0, e_mask x.0, x.1, x.2), x.3, x.4, x.5))

pub read_never : (definitions : List Touch) (reach masks : List Block) (r : Touch) (mask : Block) → ((i : ℕ) → bit mask i ≡ bit_at_point masks r.slot i) → ((i : ℕ) → bit mask i ≡ 0) → (f : Found) → IsRead definitions reach masks r f → ⊥
read_never definitions reach masks r mask e zeros f x = let z = zeros x.0 in let s = e x.0 in let one = x.2 in omega arith

pub one_only : (definitions : List Touch) (bits : Block) (reader i : ℕ) (d : Touch) → slice_get definitions i ≡ Some d → (f : Found) → IsOne definitions bits reader i f → found_of d reader ≡ f
one_only definitions bits reader i d at f x = ap (λ (e : Touch). found_of e reader) (let a = at in let b = x.2 in let same : d ≡ x.1 = cc in same) ∙ x.3
