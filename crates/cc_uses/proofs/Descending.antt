-- One node more, in front of those that are known.
use Rattle.std.proofs.Common.{◌≡◌, ℕ, zero, suc, ◌+◌, ◌<◌, List, [], ◌∷◌, length, drop, refl, sym, ap, subst, ◌∙◌, arith}
use Rattle.std.specs.Prelude.{slice_get, slice_set, Option, Some, None}
use Rattle.std.proofs.lemmas.List.{length-set}
use Rattle.cc_arena.specs.declared.arena.Placed.{Placed}
use Rattle.cc_uses.specs.declared.peel.Peeled.{Peeled}
use Rattle.cc_uses.specs.Peeling.{peel, peeled, with_peeled}

-- what is put at a place stands in front of what comes after it
set_drop_suc : {A : Type 0} (xs : List A) (n : ℕ) (x : A) → n < length xs → drop n (slice_set xs n x) ≡ x ∷ drop (suc n) xs
set_drop_suc [] n x lt = absurd (omega arith)
set_drop_suc (y ∷ ys) zero x lt = refl
set_drop_suc (y ∷ ys) (suc n) x lt = set_drop_suc ys n x (omega arith)

set_drop : {A : Type 0} (xs : List A) (n : ℕ) (x : A) → n < length xs → drop n (slice_set xs n x) ≡ x ∷ drop (n + 1) xs
set_drop xs n x lt = let e : suc n ≡ n + 1 = omega arith in subst (λ m. drop n (slice_set xs n x) ≡ x ∷ drop m xs) e (set_drop_suc xs n x lt)

get_drop_suc : {A : Type 0} (xs : List A) (n : ℕ) (x : A) → slice_get xs n ≡ Some x → drop n xs ≡ x ∷ drop (suc n) xs
get_drop_suc [] n x is = absurd (let e = is in cc)
get_drop_suc (y ∷ ys) zero x is = let e : y ≡ x = cc in ap (λ z. z ∷ ys) e
get_drop_suc (y ∷ ys) (suc n) x is = get_drop_suc ys n x is

get_drop : {A : Type 0} (xs : List A) (n : ℕ) (x : A) → slice_get xs n ≡ Some x → drop n xs ≡ x ∷ drop (n + 1) xs
get_drop xs n x is = let e : suc n ≡ n + 1 = omega arith in subst (λ m. drop n xs ≡ x ∷ drop m xs) e (get_drop_suc xs n x is)

pub one_peeled : (nodes : List Placed) (all : List Peeled) (n : ℕ) (x : Placed) → n < length all → slice_get nodes n ≡ Some x
    → drop (n + 1) all ≡ peeled (drop (n + 1) nodes) (n + 1) → drop n (with_peeled n (Some x) all) ≡ peeled (drop n nodes) n
one_peeled nodes all n x lt at is =
    let a : drop n (with_peeled n (Some x) all) ≡ peel n x.node (drop (n + 1) all) ∷ drop (n + 1) all = set_drop all n (peel n x.node (drop (n + 1) all)) lt in
    let b : drop n nodes ≡ x ∷ drop (n + 1) nodes = get_drop nodes n x at in
    a ∙ (ap (λ (l : List Peeled). peel n x.node l ∷ l) is ∙ sym (ap (λ (l : List Placed). peeled l n) b))

there : {A : Type 0} (xs : List A) (n : ℕ) → n < length xs → slice_get xs n ≡ None → ⊥
there [] n lt is = omega arith
there (y ∷ ys) zero lt is = let e = is in cc
there (y ∷ ys) (suc n) lt is = there ys n (omega arith) is

pub peeled_on : (nodes : List Placed) (all : List Peeled) (n : ℕ) (x : Option Placed) → slice_get nodes n ≡ x → n < length all → length all ≡ length nodes
    → drop (n + 1) all ≡ peeled (drop (n + 1) nodes) (n + 1)
    → (drop n (with_peeled n x all) ≡ peeled (drop n nodes) n) × (length (with_peeled n x all) ≡ length nodes)
peeled_on nodes all n (Some x) at lt long is = (one_peeled nodes all n x lt at is, length-set all n (peel n x.node (drop (n + 1) all)) ∙ long)
peeled_on nodes all n None at lt long is = absurd (there nodes n (omega arith) at)
