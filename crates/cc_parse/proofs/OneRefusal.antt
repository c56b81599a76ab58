-- Tokens are refused for one reason at most, and a file for none.
use Rattle.std.proofs.Common.{◌≡◌, ◌≢◌, ◌<◌, ◌+◌, refl, ℕ, zero, suc, List, take, length, arith, sym, ap, subst, ◌∙◌, ◌⊎◌, inl, inr}
use Rattle.cc_base.specs.declared.place.Spot.{Spot}
use Rattle.cc_lex.specs.declared.token.Token.{Token}
use Rattle.cc_tree.specs.Trees.{ExternalTree}
use Rattle.cc_grammar.specs.Limit.{limit}
use Rattle.cc_grammar.proofs.WholeTrees.{whole_is_cut_off}
use Rattle.cc_parse_places.proofs.Beginnings.{first_tokens}
use Rattle.cc_parse.specs.Answers.{IsTheTree, BreaksAt, BreaksOff, IsBegun, IsRefused}
use Rattle.cc_parse.specs.declared.fault.ParseFault.{ParseFault}
use Rattle.cc_parse.specs.declared.fault.ParseFault.TheVariants as fault

-- ---- One place

ordered : (n m : ℕ) → (n < m) ⊎ ((m < n) ⊎ (n ≡ m))
ordered zero zero = inr (inr refl)
ordered zero (suc m) = inl (omega arith)
ordered (suc n) zero = inr (inl (omega arith))
ordered (suc n) (suc m) = elim (ordered n m) [
  | inl k ↦ inl (omega (arith, k))
  | inr k ↦ elim k [
    | inl j ↦ inr (inl (omega (arith, j)))
    | inr j ↦ inr (inr (ap suc j))
  ]
]

not_before : (tokens : List Token) (n m : ℕ) → BreaksAt tokens n → BreaksAt tokens m → n < m → ⊥
not_before tokens n m a b lt = a.none (b.shorter (n + 1) (omega (arith, lt)))

one_place : (tokens : List Token) (n m : ℕ) → BreaksAt tokens n → BreaksAt tokens m → n ≡ m
one_place tokens n m a b = elim (ordered n m) [
  | inl k ↦ absurd (not_before tokens n m a b k)
  | inr k ↦ elim k [
    | inl j ↦ absurd (not_before tokens m n b a j)
    | inr j ↦ j
  ]
]

-- ---- One reason

both_end : (tokens : List Token) (n m : ℕ) → (BreaksAt tokens n × (IsBegun (take (n + 1) tokens) → ⊥)) ⊎ ((n ≡ length tokens) × BreaksOff tokens) → (BreaksAt tokens m × (IsBegun (take (m + 1) tokens) → ⊥)) ⊎ ((m ≡ length tokens) × BreaksOff tokens) → n ≡ m
both_end tokens n m (inl a) (inl b) = one_place tokens n m a.0 b.0
both_end tokens n m (inl a) (inr b) = let o = b.1 in let at = a.0 in absurd (at.none (o.begun (n + 1)))
both_end tokens n m (inr a) (inl b) = let o = a.1 in let at = b.0 in absurd (at.none (o.begun (m + 1)))
both_end tokens n m (inr a) (inr b) = a.0 ∙ sym b.0

not_both : (tokens : List Token) (n m : ℕ) → (BreaksAt tokens n × (IsBegun (take (n + 1) tokens) → ⊥)) ⊎ ((n ≡ length tokens) × BreaksOff tokens) → BreaksAt tokens m → IsBegun (take (m + 1) tokens) → ⊥
not_both tokens n m (inl a) b begun = a.1 (subst (λ k. IsBegun (take (k + 1) tokens)) (one_place tokens m n b a.0) begun)
not_both tokens n m (inr a) b begun = let o = a.1 in b.none (o.begun (m + 1))

pub one_refusal : (tokens : List Token) (e f : ParseFault) → e ≢ fault.Memory → f ≢ fault.Memory → IsRefused tokens e → IsRefused tokens f → e ≡ f
one_refusal tokens (fault.Syntax n) (fault.Syntax m) x y a b = ap (λ k. fault.Syntax k) (both_end tokens n m a b)
one_refusal tokens (fault.Syntax n) (fault.TooDeep m) x y a b = absurd (not_both tokens n m a b.0 b.1)
one_refusal tokens (fault.TooDeep n) (fault.Syntax m) x y a b = absurd (not_both tokens m n b a.0 a.1)
one_refusal tokens (fault.TooDeep n) (fault.TooDeep m) x y a b = ap (λ k. fault.TooDeep k) (one_place tokens n m a.0 b.0)
one_refusal tokens fault.Memory f x y a b = absurd (x refl)
one_refusal tokens (fault.Syntax n) fault.Memory x y a b = absurd (y refl)
one_refusal tokens (fault.TooDeep n) fault.Memory x y a b = absurd (y refl)

-- ---- No reason

breaks_nowhere : (tokens : List Token) (f : List (ExternalTree Spot)) (n : ℕ) → IsTheTree tokens f → BreaksAt tokens n → ⊥
breaks_nowhere tokens f n t a = a.none (first_tokens limit (n + 1) tokens (whole_is_cut_off limit tokens f t.file))

pub file_not_refused : (tokens : List Token) (f : List (ExternalTree Spot)) (e : ParseFault) → e ≢ fault.Memory → IsTheTree tokens f → IsRefused tokens e → ⊥
file_not_refused tokens f (fault.Syntax n) x t (inl a) = breaks_nowhere tokens f n t a.0
file_not_refused tokens f (fault.Syntax n) x t (inr a) = let o = a.1 in o.none f t.file
file_not_refused tokens f (fault.TooDeep n) x t a = breaks_nowhere tokens f n t a.0
file_not_refused tokens f fault.Memory x t a = x refl
